-- Keys as pairs of numbers.
use Rattle.std.proofs.Common.{◌≡◌, ◌==◌, ℕ, Bool, true, false, ◌&&◌, refl, ap₂, ◌∙◌, arith}
use Rattle.std.proofs.lemmas.Bool.Decides.{nat_tests}
use Rattle.std.specs.Ordering.{eq_by_cmp, is_eq, nat_cmp, ordering_then}
use Rattle.std.specs.declared.cmp.Ordering.{Ordering}
use Rattle.std.specs.declared.cmp.Ordering.TheVariants.{Less, Equal, Greater}
use Rattle.land_core.specs.Role.{role_index}
use Rattle.land_core.specs.declared.mandates.Mandate.{Mandate}
use Rattle.land_core.specs.declared.roles.Grant.{Grant}
use Rattle.land_tables_history.specs.Intervals.{is_same_grant, is_same_mandate, is_same_member}
use Rattle.land_tables_history.specs.Intervals.{is_same_naming, is_same_number}
use Rattle.land_tables_history.specs.declared.group_member.GroupMember.{GroupMember}
use Rattle.land_tables_history.specs.declared.naming.Naming.{Naming}

abbrev pub is_same_pair : ℕ × ℕ → ℕ × ℕ → Bool
is_same_pair a b = (a.0 == b.0) && (a.1 == b.1)

-- ---- two values have the same key if and only if the numbers are equal

and_true : (b : Bool) → b ≡ (b && true)
and_true true = refl
and_true false = refl

pub numbers_by_pairs : {V : Type 0} (a b : ℕ × V) → is_same_number a b ≡ is_same_pair (a.0, 0) (b.0, 0)
numbers_by_pairs a b = and_true (a.0 == b.0)

eq_then : (r s : Ordering) → is_eq (ordering_then r s) ≡ (is_eq r && is_eq s)
eq_then Less s = refl
eq_then Equal s = refl
eq_then Greater s = refl

same_test : (a b : ℕ) → eq_by_cmp nat_cmp a b ≡ (a == b)
same_test a b = grind (arith, nat_tests)

pub grants_by_pairs : (a b : Grant)
    → is_same_grant a b ≡ is_same_pair (a.party, role_index a.role) (b.party, role_index b.role)
grants_by_pairs a b =
    eq_then (nat_cmp a.party b.party) (nat_cmp (role_index a.role) (role_index b.role))
    ∙ ap₂ (λ x y. x && y) (same_test a.party b.party) (same_test (role_index a.role) (role_index b.role))

pub members_by_pairs : (a b : GroupMember)
    → is_same_member a b ≡ is_same_pair (a.group, a.member.party) (b.group, b.member.party)
members_by_pairs a b = refl

pub namings_by_pairs : (a b : Naming)
    → is_same_naming a b ≡ is_same_pair (a.mutation, a.unit) (b.mutation, b.unit)
namings_by_pairs a b = refl

-- and they are equal by order if and only if the numbers are equal
pub pairs_by_order : (a b : ℕ × ℕ)
    → eq_by_cmp (λ x y. ordering_then (nat_cmp x.0 y.0) (nat_cmp x.1 y.1)) a b ≡ is_same_pair a b
pairs_by_order a b =
    eq_then (nat_cmp a.0 b.0) (nat_cmp a.1 b.1) ∙ ap₂ (λ x y. x && y) (same_test a.0 b.0) (same_test a.1 b.1)

pub mandates_by_pairs : (a b : Mandate)
    → is_same_mandate a b ≡ is_same_pair (a.principal, a.agent) (b.principal, b.agent)
mandates_by_pairs a b = pairs_by_order (a.principal, a.agent) (b.principal, b.agent)
