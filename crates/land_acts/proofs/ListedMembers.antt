-- The members of a list, as the members of a group: the same ones, if no party is listed twice.
use Rattle.std.proofs.Common.{◌≡◌, ℕ, true, false, cond, ◌&&◌, Some, None, List, [], ◌∷◌, ◌++◌, length, refl, sym, ap, ◌∙◌, subst, append-nil}
use Rattle.std.specs.Prelude.{is_some, map as map_list}
use Rattle.std.specs.List.{list_any, AllByRecursion}
use Rattle.std.specs.List.Sorted.{IsPermutation}
use Rattle.std.specs.Ordering.{nat_cmp, eq_by_cmp, is_eq}
use Rattle.std.specs.declared.cmp.Ordering.{Ordering}
use Rattle.std.specs.declared.cmp.Ordering.TheVariants.{Less, Equal, Greater}
use Rattle.std.specs.Cmp.{nat_cmp_total}
use Rattle.std.specs.FinMap as map
use Rattle.std.specs.FinMap.{put}
use Rattle.std.proofs.lemmas.Bool.{false≢true, and_parts, not-false, not-true, or_parts}
use Rattle.std.proofs.lemmas.List.{length-map}
use Rattle.std.proofs.lemmas.List.Sorted.{IsPermutation-refl, IsPermutation-trans, IsPermutation-sym, IsPermutation-cons, IsPermutation-middle, IsPermutation-append_right, IsPermutation-map, length_permutation}
use Rattle.land_acts.proofs.Numbers.{one_number, tied_number, turned_number}
use Rattle.land_acts.specs.Sharing.{listed_shares, lists_no_single_party, are_whole, lists_twice, same_party, members_of_list}
use Rattle.land_core.proofs.FiniteMaps.{none_is_not_some, nothing_from_length}
use Rattle.land_core.specs.Entries.{with_entries, are_distinct}
use Rattle.land_core.specs.Members.{Members, shares_in, is_group_size, is_yes, are_group_shares}
use Rattle.land_core.specs.Register.{has_single_party}
use Rattle.land_core.specs.declared.member.Member.{Member}
use Rattle.land_core.specs.declared.register.Register.{Register}
use Rattle.land_fraction.proofs.Moves.{wholeness-permuted}
use Rattle.land_fraction.specs.Ratio.{Ratio}
use Rattle.land_fraction.specs.Wholeness.{wholeness}

abbrev entry : Member → ℕ × Ratio
entry member = (member.party, member.share)

-- ---- an entry with a new key is one more entry

put_new : (k : ℕ) (v : Ratio) (es : List (ℕ × Ratio)) → list_any (eq_by_cmp nat_cmp k) (map_list (λ e. e.0) es) ≡ false → IsPermutation ((k, v) ∷ es) (put nat_cmp k v es)
put_new k v [] h = IsPermutation-refl _
put_new k v (e ∷ es) h = by_case (nat_cmp k e.0) refl (put_new k v es (or_parts _ _ h).1)
  where
    by_case : (o : Ordering) → nat_cmp k e.0 ≡ o → IsPermutation ((k, v) ∷ es) (put nat_cmp k v es) → IsPermutation ((k, v) ∷ e ∷ es) (put nat_cmp k v (e ∷ es))
    by_case Less is rest = rw is (IsPermutation-refl _)
    by_case Equal is rest = absurd (false≢true (sym (or_parts _ _ h).0 ∙ ap is_eq is))
    by_case Greater is rest =
        rw is
        (IsPermutation-trans ((k, v) ∷ e ∷ es) (e ∷ (k, v) ∷ es) (e ∷ put nat_cmp k v es)
        (IsPermutation-sym (e ∷ (k, v) ∷ es) ((k, v) ∷ e ∷ es) (IsPermutation-middle (e ∷ []) (k, v) es))
        (IsPermutation-cons e ((k, v) ∷ es) (put nat_cmp k v es) rest))

insert_new : (m : Members) (k : ℕ) (v : Ratio) → map.get m k ≡ None → IsPermutation ((k, v) ∷ map.entries m) (map.entries (map.insert m k v))
insert_new m k v none =
    subst (IsPermutation ((k, v) ∷ map.entries m)) (sym (map.entries-insert nat_cmp_total m k v))
    (put_new k v (map.entries m) (sym (map.contains_key-keys m k) ∙ ap is_some none))

-- ---- the same for each of a list of members

abbrev AreNew : Members → List Member → Type 0
AreNew m members = AllByRecursion (λ member. map.get m member.party ≡ None) members

still_new : (m : Members) (x : Member) (xs : List Member) → list_any (same_party x) xs ≡ false → AreNew m xs → AreNew (map.insert m x.party x.share) xs
still_new m x [] apart new = tt
still_new m x (y ∷ ys) apart new =
    let parts = or_parts _ _ apart in (
      map.get-insert nat_cmp_total m x.party x.share y.party
          ∙ ap (λ b. cond b (Some x.share) (map.get m y.party)) (tied_number y.party x.party ∙ turned_number x.party y.party parts.0)
          ∙ new.0,
      still_new m x ys parts.1 new.1,
    )

all_entered : (m : Members) (members : List Member) → are_distinct same_party members ≡ true → AreNew m members
    → IsPermutation (map_list entry members ++ map.entries m) (map.entries (with_entries m (map_list entry members)))
all_entered m [] distinct new = IsPermutation-refl _
all_entered m (x ∷ xs) distinct new =
    let parts = and_parts _ _ distinct in
    let apart : list_any (same_party x) xs ≡ false = not-true _ parts.0 in
    let more = map.insert m x.party x.share in
    IsPermutation-trans (map_list entry (x ∷ xs) ++ map.entries m) (map_list entry xs ++ entry x ∷ map.entries m) (map.entries (with_entries more (map_list entry xs)))
    (IsPermutation-sym _ _ (IsPermutation-middle (map_list entry xs) (entry x) (map.entries m)))
    (IsPermutation-trans (map_list entry xs ++ entry x ∷ map.entries m) (map_list entry xs ++ map.entries more) (map.entries (with_entries more (map_list entry xs)))
    (IsPermutation-append_right (map_list entry xs) (entry x ∷ map.entries m) (map.entries more) (insert_new m x.party x.share new.0))
    (all_entered more xs parts.1 (still_new m x xs apart new.1)))

all_new : (members : List Member) → AreNew map.empty members
all_new [] = tt
all_new (x ∷ xs) = (map.get-empty nat_cmp x.party, all_new xs)

shares_of_entries : (members : List Member) → map_list (λ e. e.1) (map_list entry members) ≡ listed_shares members
shares_of_entries [] = refl
shares_of_entries (x ∷ xs) = ap (λ it. x.share ∷ it) (shares_of_entries xs)

-- ---- so the shares of the group are those of the list, in another order

pub shares_kept : (members : List Member) → lists_twice members ≡ false → IsPermutation (listed_shares members) (shares_in (members_of_list members))
shares_kept members once =
    let none : map.entries (map.empty {X = Ratio} {R = nat_cmp}) ≡ [] = nothing_from_length _ (sym (map.len-entries map.empty) ∙ map.len-empty nat_cmp Ratio) in
    let listed : map_list (λ e. e.1) (map_list entry members ++ map.entries (map.empty {X = Ratio} {R = nat_cmp})) ≡ listed_shares members =
    ap (λ it. map_list (λ e. e.1) (map_list entry members ++ it)) none ∙ ap (map_list (λ e. e.1)) (append-nil (map_list entry members)) ∙ shares_of_entries members in
    subst (λ (shares : List Ratio). IsPermutation shares (shares_in (members_of_list members))) listed
    (IsPermutation-map (λ e. e.1) _ _ (all_entered map.empty members (not-false _ once) (all_new members)))

pub group_shares : (members : List Member) → lists_twice members ≡ false → is_group_size (length members) ≡ true → are_whole members ≡ true
    → are_group_shares (shares_in (members_of_list members)) ≡ true
group_shares members once size whole =
    let same = shares_kept members once in
    let long : length (shares_in (members_of_list members)) ≡ length members = length_permutation _ _ same ∙ length-map members (λ member. member.share) in
    ap (λ n. is_group_size n && is_yes (wholeness (shares_in (members_of_list members)))) long
    ∙ ap (λ b. b && is_yes (wholeness (shares_in (members_of_list members)))) size
    ∙ ap is_yes (sym (wholeness-permuted _ _ same))
    ∙ whole

-- ---- if each listed number is a single party, so is each member

single_among : (r : Register) (members : List Member) → lists_no_single_party r members ≡ false → (m : Members)
    → ((n : ℕ) (share : Ratio) → map.get m n ≡ Some share → has_single_party r n ≡ true)
    → (n : ℕ) (share : Ratio) → map.get (with_entries m (map_list entry members)) n ≡ Some share → has_single_party r n ≡ true
single_among r [] none m before n share is = before n share is
single_among r (x ∷ xs) none m before n share is =
    let parts = or_parts _ _ none in
    single_among r xs parts.1 (map.insert m x.party x.share)
    (λ k v at.
    elim (eq_by_cmp nat_cmp k x.party) as (λ b. eq_by_cmp nat_cmp k x.party ≡ b → cond b (Some x.share) (map.get m k) ≡ Some v → has_single_party r k ≡ true) [
      | true ↦ λ here e. subst (λ (p : ℕ). has_single_party r p ≡ true) (sym (one_number k x.party here)) (not-false _ parts.0)
      | false ↦ λ apart e. before k v e
    ] refl (sym (map.get-insert nat_cmp_total m x.party x.share k) ∙ at)) n share is

pub listed_single : (r : Register) (members : List Member) → lists_no_single_party r members ≡ false
    → (n : ℕ) (share : Ratio) → map.get (members_of_list members) n ≡ Some share → has_single_party r n ≡ true
listed_single r members none = single_among r members none map.empty (λ n share is. absurd (none_is_not_some (sym (map.get-empty nat_cmp n) ∙ is)))
