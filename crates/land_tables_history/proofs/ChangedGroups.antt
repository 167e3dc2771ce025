-- The members of groups that are current after a change.
use Rattle.std.proofs.Common.{◌≡◌, ℕ, Bool, true, false, cond, not, List, [], ◌∷◌, ◌++◌, filter, flat_map, map as map_list, refl, sym, ap, subst, ◌∙◌, append_assoc, IsPermutation}
use Rattle.std.proofs.lemmas.List.Concat.{flat_map-append}
use Rattle.std.proofs.lemmas.List.Elements.{filter-append}
use Rattle.std.proofs.lemmas.List.Sorted.{IsPermutation-append_comm, IsPermutation-append_left, IsPermutation-append_right, IsPermutation-refl, IsPermutation-trans}
use Rattle.std.specs.FinMap as map
use Rattle.std.specs.FinMap.{FinMap}
use Rattle.std.specs.List.{list_all}
use Rattle.std.specs.Ordering.{nat_cmp}
use Rattle.std.specs.Prelude.{ℤ, ◌<ℤ◌, ◌≤ℤ◌, nat_eq}
use Rattle.land_core.specs.Entries.{are_distinct, with_changes}
use Rattle.land_core.specs.Members.{Members, members_in}
use Rattle.land_core.specs.declared.member.Member.{Member}
use Rattle.land_tables_history.proofs.ChangedParts.{numbered_entries, stand_changed}
use Rattle.land_tables_history.proofs.Permutations.{along_permutation}
use Rattle.land_tables_history.specs.Changed.{changed_members, is_changed, listed_members}
use Rattle.land_tables_history.specs.Groups.{AreGroupsAt, group_members}
use Rattle.land_tables_history.specs.Open.{has_ended, never}
use Rattle.land_tables_history.specs.Standing.{current_values}
use Rattle.land_tables_history.specs.declared.group_member.GroupMember.{GroupMember}
use Rattle.land_tables_history.specs.declared.version.Version.{Version}

-- two lists in front of a third may be exchanged
pub exchanged_heads : {X : Type 0} (xs ys zs : List X) → IsPermutation (xs ++ (ys ++ zs)) (ys ++ (xs ++ zs))
exchanged_heads xs ys zs =
    subst (λ l. IsPermutation l (ys ++ (xs ++ zs))) (append_assoc xs ys zs)
    (subst (λ l. IsPermutation ((xs ++ ys) ++ zs) l) (append_assoc ys xs zs) (IsPermutation-append_left zs (xs ++ ys) (ys ++ xs) (IsPermutation-append_comm xs ys)))

-- lists in another order, each flattened, give the same items in another order
pub joined_permuted : {X Y : Type 0} (f : X → List Y) (xs ys : List X) → IsPermutation xs ys → IsPermutation (flat_map f xs) (flat_map f ys)
joined_permuted f = along_permutation (λ xs ys. IsPermutation (flat_map f xs) (flat_map f ys))
    (λ xs. IsPermutation-refl (flat_map f xs))
    (λ x xs ys h. IsPermutation-append_right (f x) (flat_map f xs) (flat_map f ys) h)
    (λ x y xs. exchanged_heads (f x) (f y) (flat_map f xs))
    (λ xs ys zs. IsPermutation-trans (flat_map f xs) (flat_map f ys) (flat_map f zs))

-- either all members of a group pass, or none does
all_or_none : (passes : ℕ → Bool) (group : ℕ) (members : List Member)
    → filter (λ (e : GroupMember). passes e.group) (map_list (λ m. record { group = group; member = m }) members) ≡ cond (passes group) (map_list (λ m. record { group = group; member = m }) members) []
all_or_none passes group [] = either (passes group)
  where
    either : (b : Bool) → ◌≡◌ {A = List GroupMember} [] (cond b [] [])
    either true = refl
    either false = refl
all_or_none passes group (m ∷ members) = go (passes group) (all_or_none passes group members)
  where
    rest : List GroupMember
    rest = map_list (λ m. record { group = group; member = m }) members

    go : (b : Bool) → filter (λ (e : GroupMember). passes e.group) rest ≡ cond b rest []
        → cond b (record { group = group; member = m } ∷ filter (λ (e : GroupMember). passes e.group) rest) (filter (λ (e : GroupMember). passes e.group) rest)
        ≡ cond b (record { group = group; member = m } ∷ rest) []
    go true h = ap (λ l. record { group = group; member = m } ∷ l) h
    go false h = h

-- the members that pass are those of the groups that pass
passing_members : (passes : ℕ → Bool) (groups : List (ℕ × Members)) → filter (λ e. passes e.group) (listed_members groups) ≡ listed_members (filter (λ g. passes g.0) groups)
passing_members passes [] = refl
passing_members passes (g ∷ groups) =
    filter-append (λ (e : GroupMember). passes e.group) (map_list (λ m. record { group = g.0; member = m }) (members_in g.1)) (listed_members groups)
    ∙ ap (λ l. l ++ filter (λ e. passes e.group) (listed_members groups)) (all_or_none passes g.0 (members_in g.1))
    ∙ go (passes g.0) (passing_members passes groups)
  where
    go : (b : Bool) → filter (λ e. passes e.group) (listed_members groups) ≡ listed_members (filter (λ g. passes g.0) groups)
        → cond b (map_list (λ m. record { group = g.0; member = m }) (members_in g.1)) [] ++ filter (λ e. passes e.group) (listed_members groups)
        ≡ listed_members (cond b (g ∷ filter (λ g. passes g.0) groups) (filter (λ g. passes g.0) groups))
    go true h = ap (λ l. map_list (λ m. record { group = g.0; member = m }) (members_in g.1) ++ l) h
    go false h = h

pub members_change : (last stamp t : ℤ) → last <ℤ stamp → stamp ≤ℤ t → t <ℤ never
    → (put : List (ℕ × Members)) (ended : List ℕ) (versions : List (Version GroupMember)) (groups : FinMap nat_cmp Members)
    → list_all (has_ended last) versions ≡ true → are_distinct nat_eq (map_list (λ e. e.0) put ++ ended) ≡ true → AreGroupsAt t versions groups
    → AreGroupsAt t (changed_members put ended stamp versions) (with_changes groups put ended)
members_change last stamp t less since early put ended versions groups by_then once p =
    let kept : List (ℕ × Members) = filter (λ g. not (is_changed put ended g.0)) (map.entries groups) in
    IsPermutation-trans (current_values t (changed_members put ended stamp versions)) (listed_members (put ++ kept)) (group_members (with_changes groups put ended))
    (subst (IsPermutation (current_values t (changed_members put ended stamp versions)))
    (ap (λ l. listed_members put ++ l) (passing_members (λ number. not (is_changed put ended number)) (map.entries groups)) ∙ sym (flat_map-append (λ g. map_list (λ m. record { group = g.0; member = m }) (members_in g.1)) put kept))
    (stand_changed last stamp t less since early (listed_members put) (λ e. is_changed put ended e.group) versions (group_members groups) by_then p))
    (joined_permuted (λ g. map_list (λ m. record { group = g.0; member = m }) (members_in g.1)) (put ++ kept) (map.entries (with_changes groups put ended)) (numbered_entries groups put ended once))
