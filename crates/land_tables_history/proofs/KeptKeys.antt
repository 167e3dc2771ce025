-- No key occurs twice among the records, the roles, the members and the mandates of a register.
use Rattle.std.proofs.Common.{◌≡◌, ℕ, true, false, not, ◌&&◌, ◌||◌, List, [], ◌∷◌, ◌++◌, flat_map, map as map_list, refl, sym, ap, ap₂, ◌∙◌, arith}
use Rattle.std.proofs.lemmas.Bool.{and_from, and_parts}
use Rattle.std.proofs.lemmas.Bool.Decides.{nat_tests}
use Rattle.std.proofs.lemmas.List.Folds.{list_any-append}
use Rattle.std.specs.FinMap as map
use Rattle.std.specs.FinMap.{FinMap, is_sorted}
use Rattle.std.specs.FinMap.Entries.{below_all}
use Rattle.std.specs.List.{AllByRecursion, list_any}
use Rattle.std.specs.Ordering.{eq_by_cmp, is_lt, nat_cmp}
use Rattle.std.specs.Prelude.{nat_eq}
use Rattle.std.specs.declared.cmp.Ordering.{Ordering}
use Rattle.land_core.proofs.Booleans.{T_true, and_false}
use Rattle.land_core.proofs.Orders.{less_apart}
use Rattle.land_core.specs.Entries.{are_distinct}
use Rattle.land_core.specs.Grants.{Grants, grant_cmp, grants_in}
use Rattle.land_core.specs.Mandates.{Mandates, mandate_cmp, mandates_in}
use Rattle.land_core.specs.Members.{Members, member_with_share, members_in}
use Rattle.land_core.specs.declared.mandates.Mandate.{Mandate}
use Rattle.land_core.specs.declared.member.Member.{Member}
use Rattle.land_core.specs.declared.roles.Grant.{Grant}
use Rattle.land_fraction.specs.Ratio.{Ratio}
use Rattle.land_tables_history.proofs.Entered.{distinct-map, distinct_alike, same_numbers}
use Rattle.land_tables_history.proofs.KeptLists.{none_fewer}
use Rattle.land_tables_history.specs.Groups.{group_members}
use Rattle.land_tables_history.specs.Intervals.{is_same_grant, is_same_mandate, is_same_member, is_same_number}
use Rattle.land_tables_history.specs.declared.group_member.GroupMember.{GroupMember}

-- ---- the keys of a map

module _ {K : Type 0} (R : K → K → Ordering) {V : Type 0} where
  none_later : (k : K) (es : List (K × V)) → below_all R k es ≡ true → list_any (λ e. eq_by_cmp R k e.0) es ≡ false
  none_later k [] below = refl
  none_later k (e ∷ es) below =
      let parts = and_parts (is_lt (R k e.0)) (below_all R k es) below in
      ap (λ b. b || list_any (λ e. eq_by_cmp R k e.0) es) (less_apart (R k e.0) parts.0) ∙ none_later k es parts.1

  keys_once : (es : List (K × V)) → is_sorted R es ≡ true → are_distinct (λ a b. eq_by_cmp R a.0 b.0) es ≡ true
  keys_once [] sorted = refl
  keys_once (e ∷ es) sorted =
      let parts = and_parts (below_all R e.0 es) (is_sorted R es) sorted in
      and_from (not (list_any (λ x. eq_by_cmp R e.0 x.0) es)) (are_distinct (λ a b. eq_by_cmp R a.0 b.0) es)
      (ap not (none_later e.0 es parts.0)) (keys_once es parts.1)

  in_order : (m : FinMap R V) → is_sorted R (map.entries m) ≡ true
  in_order m = T_true (is_sorted R (map.entries m)) (map.entries_sorted m)

pub numbers_once : {V : Type 0} (m : FinMap nat_cmp V) → are_distinct is_same_number (map.entries m) ≡ true
numbers_once {V} m =
    distinct_alike is_same_number (λ (a b : ℕ × V). eq_by_cmp nat_cmp a.0 b.0) (λ a b. sym (same_numbers a.0 b.0)) (map.entries m)
    ∙ keys_once nat_cmp (map.entries m) (in_order nat_cmp m)

pub grants_once : (grants : Grants) → are_distinct is_same_grant (grants_in grants) ≡ true
unfolding grants_in
grants_once grants =
    distinct-map is_same_grant (λ (e : Grant × Unit {0}). e.0) (map.entries grants)
    ∙ keys_once grant_cmp (map.entries grants) (in_order grant_cmp grants)

pub mandates_once : (mandates : Mandates) → are_distinct is_same_mandate (mandates_in mandates) ≡ true
unfolding mandates_in
mandates_once mandates =
    distinct-map is_same_mandate (λ (e : Mandate × Unit {0}). e.0) (map.entries mandates)
    ∙ keys_once mandate_cmp (map.entries mandates) (in_order mandate_cmp mandates)

-- ---- the members of groups

abbrev of_group : ℕ → Member → GroupMember
of_group group m = record { group = group; member = m }

abbrev members_of : ℕ × Members → List GroupMember
members_of g = map_list (λ m. of_group g.0 m) (members_in g.1)

smaller : (k n : ℕ) → is_lt (nat_cmp k n) ≡ true → nat_eq k n ≡ false
smaller k n less = grind (arith, nat_tests)

-- a member with a smaller number is not among a group's later members
later_parties : (k n : ℕ) (share : Ratio) (es : List (ℕ × Ratio)) → below_all nat_cmp n es ≡ true
    → list_any (is_same_member (of_group k (member_with_share n share))) (map_list (λ m. of_group k m) (map_list (λ e. member_with_share e.0 e.1) es)) ≡ false
later_parties k n share [] below = refl
later_parties k n share (e ∷ es) below =
    let parts = and_parts (is_lt (nat_cmp n e.0)) (below_all nat_cmp n es) below in
    ap₂ (λ a b. a || b) (ap (λ b. nat_eq k k && b) (smaller n e.0 parts.0) ∙ and_false (nat_eq k k)) (later_parties k n share es parts.1)

-- members of a group before those of other groups
one_group : (k : ℕ) (es : List (ℕ × Ratio)) (later : List GroupMember) → is_sorted nat_cmp es ≡ true
    → are_distinct is_same_member later ≡ true → list_any (λ e. nat_eq k e.group) later ≡ false
    → are_distinct is_same_member (map_list (λ m. of_group k m) (map_list (λ e. member_with_share e.0 e.1) es) ++ later) ≡ true
one_group k [] later sorted once apart = once
one_group k (e ∷ es) later sorted once apart =
    let parts = and_parts (below_all nat_cmp e.0 es) (is_sorted nat_cmp es) sorted in
    and_from (not (list_any (is_same_member first) (beside ++ later))) (are_distinct is_same_member (beside ++ later))
    (ap not
    (list_any-append (is_same_member first) beside later
    ∙ ap₂ (λ a b. a || b) (later_parties k e.0 e.1 es parts.0)
    (none_fewer (is_same_member first) (λ x. nat_eq k x.group) later (each later) apart)))
    (one_group k es later parts.1 once apart)
  where
    first : GroupMember
    first = of_group k (member_with_share e.0 e.1)

    beside : List GroupMember
    beside = map_list (λ m. of_group k m) (map_list (λ e. member_with_share e.0 e.1) es)

    each : (xs : List GroupMember) → AllByRecursion (λ x. is_same_member first x ≡ true → nat_eq k x.group ≡ true) xs
    each [] = tt
    each (x ∷ xs) = (λ h. (and_parts (nat_eq k x.group) (nat_eq e.0 x.member.party) h).0, each xs)

other_group : (k n : ℕ) (ms : List Member) → nat_eq k n ≡ false → list_any (λ x. nat_eq k x.group) (map_list (λ m. of_group n m) ms) ≡ false
other_group k n [] apart = refl
other_group k n (m ∷ ms) apart = ap₂ (λ a b. a || b) apart (other_group k n ms apart)

later_groups : (k : ℕ) (gs : List (ℕ × Members)) → below_all nat_cmp k gs ≡ true
    → list_any (λ x. nat_eq k x.group) (flat_map members_of gs) ≡ false
later_groups k [] below = refl
later_groups k (g ∷ gs) below =
    let parts = and_parts (is_lt (nat_cmp k g.0)) (below_all nat_cmp k gs) below in
    list_any-append (λ (x : GroupMember). nat_eq k x.group) (members_of g) (flat_map members_of gs)
    ∙ ap₂ (λ a b. a || b) (other_group k g.0 (members_in g.1) (smaller k g.0 parts.0)) (later_groups k gs parts.1)

all_groups : (gs : List (ℕ × Members)) → is_sorted nat_cmp gs ≡ true → are_distinct is_same_member (flat_map members_of gs) ≡ true
all_groups [] sorted = refl
all_groups (g ∷ gs) sorted =
    let parts = and_parts (below_all nat_cmp g.0 gs) (is_sorted nat_cmp gs) sorted in
    one_group g.0 (map.entries g.1) (flat_map members_of gs) (in_order nat_cmp g.1) (all_groups gs parts.1) (later_groups g.0 gs parts.0)

pub members_once : (groups : FinMap nat_cmp Members) → are_distinct is_same_member (group_members groups) ≡ true
members_once groups = all_groups (map.entries groups) (in_order nat_cmp groups)
