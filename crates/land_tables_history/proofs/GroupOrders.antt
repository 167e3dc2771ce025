-- Groups built from their members in any order.
use Rattle.std.proofs.Common.{◌≡◌, ◌≢◌, ◌≤◌, ◌++◌, ℕ, Bool, true, false, cond, List, [], ◌∷◌, Option, Some, None, filter, flat_map, length, map as map_list, refl, sym, ap, subst, ◌∙◌, arith, IsPermutation, append-nil}
use Rattle.std.proofs.lemmas.List.Sorted.{IsPermutation-map, IsPermutation-refl, length_permutation}
use Rattle.std.specs.Cmp.{nat_cmp_total}
use Rattle.std.specs.FinMap as map
use Rattle.std.specs.FinMap.{FinMap, nat_cmp-IsAntisymmetric}
use Rattle.std.specs.Option.{option_map_or}
use Rattle.std.specs.Ordering.{eq_by_cmp, nat_cmp}
use Rattle.land_core.proofs.FiniteMaps.{is_equal}
use Rattle.land_core.specs.Entries.{with_entries}
use Rattle.land_core.specs.Members.{Members, member_with_share, members_in}
use Rattle.land_core.specs.declared.member.Member.{Member}
use Rattle.land_fraction.specs.Ratio.{Ratio}
use Rattle.land_tables_history.proofs.Orders.{at_key, at_once, first_of, found_first, in_any_order, no_more}
use Rattle.land_tables_history.proofs.Permutations.{filter_permuted}
use Rattle.land_tables_history.specs.Groups.{HaveMembers, group_members, with_member, with_members}
use Rattle.land_tables_history.specs.declared.group_member.GroupMember.{GroupMember}

abbrev one_of : ℕ → Member → GroupMember
one_of group member = record { group = group; member = member }

-- the items of a list that join one group
abbrev joining : ℕ → List GroupMember → List GroupMember
joining q es = filter (λ e. eq_by_cmp nat_cmp q e.group) es

-- a member as an entry of its group
abbrev seat : GroupMember → ℕ × Ratio
seat e = (e.member.party, e.member.share)

-- the members of a group, empty if the group does not exist
abbrev or_none : Option Members → Members
or_none o = option_map_or (λ members. members) o map.empty

-- a group after some have joined it
grown : Option Members → List GroupMember → Option Members
grown o [] = o
grown o (e ∷ es) = grown (Some (map.insert (or_none o) e.member.party e.member.share)) es

get_joined : (m : FinMap nat_cmp Members) (es : List GroupMember) (q : ℕ) → map.get (with_members m es) q ≡ grown (map.get m q) (joining q es)
unfolding grown
get_joined m [] q = refl
get_joined m (e ∷ es) q =
    get_joined (with_member m e) es q
    ∙ ap (λ d. grown d (joining q es)) (map.get-insert nat_cmp_total m e.group (map.insert (or_none (map.get m e.group)) e.member.party e.member.share) q)
    ∙ go (eq_by_cmp nat_cmp q e.group) refl
  where
    go : (b : Bool) → eq_by_cmp nat_cmp q e.group ≡ b
        → grown (cond b (Some (map.insert (or_none (map.get m e.group)) e.member.party e.member.share)) (map.get m q)) (joining q es) ≡ grown (map.get m q) (cond b (e ∷ joining q es) (joining q es))
    go true is =
        let same : q ≡ e.group = nat_cmp-IsAntisymmetric q e.group (is_equal (nat_cmp q e.group) is) in
        ap (λ n. grown (Some (map.insert (or_none (map.get m n)) e.member.party e.member.share)) (joining q es)) (sym same)
    go false is = refl

grown_on : (members : Members) (es : List GroupMember) → grown (Some members) es ≡ Some (with_entries members (map_list seat es))
unfolding grown
grown_on members [] = refl
grown_on members (e ∷ es) = grown_on (map.insert members e.member.party e.member.share) es

-- the members of one group among those of several
abbrev listed : ℕ × Members → List GroupMember
listed g = map_list (λ m. one_of g.0 m) (members_in g.1)

filter_append : {X : Type 0} (p : X → Bool) (xs ys : List X) → filter p (xs ++ ys) ≡ filter p xs ++ filter p ys
filter_append p [] ys = refl
filter_append p (x ∷ xs) ys = go (p x) (filter_append p xs ys)
  where
    go : (b : Bool) → filter p (xs ++ ys) ≡ filter p xs ++ filter p ys → cond b (x ∷ filter p (xs ++ ys)) (filter p (xs ++ ys)) ≡ cond b (x ∷ filter p xs) (filter p xs) ++ filter p ys
    go true h = ap (λ l. x ∷ l) h
    go false h = h

all_or_none : (q k : ℕ) (ms : List Member) → joining q (map_list (λ m. one_of k m) ms) ≡ cond (eq_by_cmp nat_cmp q k) (map_list (λ m. one_of k m) ms) []
all_or_none q k [] = either (eq_by_cmp nat_cmp q k)
  where
    either : (b : Bool) → ◌≡◌ {A = List GroupMember} [] (cond b [] [])
    either true = refl
    either false = refl
all_or_none q k (m ∷ ms) = go (eq_by_cmp nat_cmp q k) (all_or_none q k ms)
  where
    go : (b : Bool) → joining q (map_list (λ m. one_of k m) ms) ≡ cond b (map_list (λ m. one_of k m) ms) []
        → cond b (one_of k m ∷ joining q (map_list (λ m. one_of k m) ms)) (joining q (map_list (λ m. one_of k m) ms)) ≡ cond b (one_of k m ∷ map_list (λ m. one_of k m) ms) []
    go true h = ap (λ l. one_of k m ∷ l) h
    go false h = h

-- of the members of several groups, those that join one group are the members of that one
joining_one : (q : ℕ) (gs : List (ℕ × Members)) → joining q (flat_map listed gs) ≡ flat_map listed (filter (λ g. eq_by_cmp nat_cmp q g.0) gs)
joining_one q [] = refl
joining_one q (g ∷ gs) =
    filter_append (λ e. eq_by_cmp nat_cmp q e.group) (listed g) (flat_map listed gs)
    ∙ ap (λ l. l ++ joining q (flat_map listed gs)) (all_or_none q g.0 (members_in g.1)) ∙ go (eq_by_cmp nat_cmp q g.0) (joining_one q gs)
  where
    go : (b : Bool) → joining q (flat_map listed gs) ≡ flat_map listed (filter (λ g. eq_by_cmp nat_cmp q g.0) gs)
        → cond b (listed g) [] ++ joining q (flat_map listed gs) ≡ flat_map listed (cond b (g ∷ filter (λ g. eq_by_cmp nat_cmp q g.0) gs) (filter (λ g. eq_by_cmp nat_cmp q g.0) gs))
    go true h = ap (λ l. listed g ++ l) h
    go false h = h

seats : (k : ℕ) (es : List (ℕ × Ratio)) → map_list seat (map_list (λ m. one_of k m) (map_list (λ e. member_with_share e.0 e.1) es)) ≡ es
seats k [] = refl
seats k (e ∷ es) = ap (λ l. e ∷ l) (seats k es)

-- the members of one group, in any order, build that group if it has any
one_grown : (g : ℕ × Members) (es : List GroupMember) → g.1 ≢ map.empty → IsPermutation es (listed g) → grown None es ≡ Some g.1
unfolding grown
one_grown g [] some p =
    let none : listed g ≡ [] = no_more (listed g) (length_permutation [] (listed g) p) in
    let nobody : map.entries g.1 ≡ [] = sym (seats g.0 (map.entries g.1)) ∙ ap (λ l. map_list seat l) none in
    absurd (some (sym (in_any_order nat_cmp_total nat_cmp-IsAntisymmetric g.1 [] (subst (IsPermutation []) (sym nobody) (IsPermutation-refl [])))))
one_grown g (e ∷ es) some p =
    let seated : IsPermutation (map_list seat (e ∷ es)) (map.entries g.1) = subst (IsPermutation (map_list seat (e ∷ es))) (seats g.0 (map.entries g.1)) (IsPermutation-map seat (e ∷ es) (listed g) p) in
    grown_on (map.insert map.empty e.member.party e.member.share) es ∙ ap (λ m. Some m) (in_any_order nat_cmp_total nat_cmp-IsAntisymmetric g.1 (map_list seat (e ∷ es)) seated)

-- the members of groups, in any order, build these groups
pub grouped : (groups : FinMap nat_cmp Members) (es : List GroupMember) → HaveMembers groups → IsPermutation es (group_members groups) → with_members map.empty es ≡ groups
unfolding grown first_of
grouped groups es have p = map.same_map nat_cmp_total nat_cmp-IsAntisymmetric (with_members map.empty es) groups (λ q.
    let turned = filter_permuted (λ e. eq_by_cmp nat_cmp q e.group) es (group_members groups) p in
    let found : map.get groups q ≡ first_of (at_key nat_cmp_total nat_cmp-IsAntisymmetric q (map.entries groups)) = map.get-entries groups q ∙ found_first nat_cmp_total nat_cmp-IsAntisymmetric (map.entries groups) q in
    get_joined map.empty es q ∙ ap (λ d. grown d (joining q es)) (map.get-empty nat_cmp q)
    ∙ at_one q (filter (λ g. eq_by_cmp nat_cmp q g.0) (map.entries groups)) (at_once nat_cmp_total nat_cmp-IsAntisymmetric groups q) found
    (subst (IsPermutation (joining q es)) (joining_one q (map.entries groups)) turned))
  where
    at_one : (q : ℕ) (gs : List (ℕ × Members)) → length gs ≤ 1 → map.get groups q ≡ first_of gs → IsPermutation (joining q es) (flat_map listed gs) → grown None (joining q es) ≡ map.get groups q
    at_one q [] few found p = ap (λ l. grown None l) (no_more (joining q es) (sym (length_permutation (joining q es) [] p))) ∙ sym found
    at_one q (g ∷ []) few found p =
        one_grown g (joining q es) (λ empty. have q (found ∙ ap (λ m. Some m) empty)) (subst (IsPermutation (joining q es)) (append-nil (listed g)) p) ∙ sym found
    at_one q (g ∷ h ∷ gs) few found p = absurd (omega (arith, few))
