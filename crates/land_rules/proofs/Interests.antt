-- The interest of a party in a unit follows from the names under which it has the interest.
use Rattle.std.proofs.Common.{◌≡◌, ℕ, Bool, true, false, ◌&&◌, ◌||◌, Option, Some, None, refl, sym, ap, ap₂, ◌∙◌}
use Rattle.std.proofs.lemmas.Bool.{false≢true, and_parts, eqb-true}
use Rattle.std.specs.BTreeSet.{BTreeSet}
use Rattle.std.specs.Cmp.{nat_cmp_total}
use Rattle.std.specs.FinMap as map
use Rattle.std.specs.FinMap.{nat_cmp-IsAntisymmetric}
use Rattle.std.specs.List.{list_any}
use Rattle.std.specs.Option.{option_map_or}
use Rattle.std.specs.Prelude.{nat_eq}
use Rattle.std.proofs.lemmas.Cmp.{nat_eq_equiv}
use Rattle.land_core.proofs.Booleans.{same_tests}
use Rattle.land_core.proofs.Pairs.{list_any_same}
use Rattle.land_core.proofs.Reflection.{some_at, some_passes}
use Rattle.land_core.specs.Entries.{some}
use Rattle.land_core.specs.Mandates.{mandates_in}
use Rattle.land_core.specs.Members.{Members}
use Rattle.land_core.specs.Register.{stands}
use Rattle.land_core.specs.declared.kind.Kind.TheVariants as kind
use Rattle.land_core.specs.declared.mandates.Mandate.{Mandate}
use Rattle.land_core.specs.declared.register.Register.{Register}
use Rattle.land_core.specs.declared.rrr.RrrRecord.{RrrRecord}
use Rattle.land_rules.proofs.Booleans.{any_where}
use Rattle.land_rules.proofs.InCircles.{held_by_names, names_among, owned_by_names, some_principal}
use Rattle.land_rules.specs.Circles.{circle_of, is_in_circle, is_name_of}
use Rattle.land_rules.specs.Holdings.{AreNames, gives_interest, has_interest, has_interest_as, has_interest_by, has_member_among, has_number, is_name_among}
use Rattle.land_rules.specs.declared.rules.holdings.Interest.{Interest}
use Rattle.land_rules.specs.declared.rules.holdings.Interest.TheVariants.{Holder, Owner, Creditor}

-- ---- entries under given names

-- whether an entry gives the interest in the unit under one of these names
abbrev is_in_names : Interest → (is_name : ℕ → Bool) → (unit : ℕ) → RrrRecord → Bool
is_in_names interest is_name unit e = nat_eq e.unit unit && gives_interest interest e.class && is_name e.party

-- an entry under one of its names gives a party the interest in an existing unit
interest_as : (interest : Interest) (at : Register) (party unit : ℕ) → (stands at kind.Unit unit && some (λ n e. is_in_names interest (has_interest_as interest at party) unit e) at.rrrs) ≡ has_interest interest at party unit
interest_as Holder at party unit = sym (held_by_names at (circle_of at party) unit)
interest_as Owner at party unit = sym (owned_by_names at (circle_of at party) unit)
interest_as Creditor at party unit = refl

-- so a party has the interest in a unit exactly if an entry under one of these names gives it
pub interest_by_names : (interest : Interest) (at : Register) (party : ℕ) (names : BTreeSet ℕ) → AreNames interest at party names → (unit : ℕ)
    → some (λ n e. has_interest_by interest at (has_number names) unit e) at.rrrs ≡ has_interest interest at party unit
interest_by_names interest at party names are unit =
    any_where (stands at kind.Unit unit) (λ (e : ℕ × RrrRecord). is_in_names interest (has_number names) unit e.1) (map.entries at.rrrs)
    ∙ ap (λ b. stands at kind.Unit unit && b)
    (list_any_same (λ (e : ℕ × RrrRecord). is_in_names interest (has_number names) unit e.1) (λ e. is_in_names interest (has_interest_as interest at party) unit e.1)
    (λ e. ap (λ b. nat_eq e.1.unit unit && gives_interest interest e.1.class && b) (are e.1.party)) (map.entries at.rrrs))
    ∙ interest_as interest at party unit

-- ---- the names of a citizen

-- whether a group has this name and its members satisfy a condition
abbrev pub is_group_where : (passes : Members → Bool) → (named : ℕ) → ℕ × Members → Bool
is_group_where passes named e = nat_eq e.0 named && passes e.1

abbrev is_its_group : (passes : Members → Bool) → (named group : ℕ) → Members → Bool
is_its_group passes named group members = is_group_where passes named (group, members)

-- some group with such members has this name exactly if the group of this name has such members
pub group_where : (passes : Members → Bool) (at : Register) (named : ℕ)
    → list_any (is_group_where passes named) (map.entries at.members) ≡ option_map_or passes (map.get at.members named) false
group_where passes at named = same_tests _ _ forth (back (map.get at.members named) refl)
  where
    forth : list_any (is_group_where passes named) (map.entries at.members) ≡ true → option_map_or passes (map.get at.members named) false ≡ true
    forth h =
        let it = some_passes nat_cmp_total nat_cmp-IsAntisymmetric (is_its_group passes named) at.members h in
        let parts = and_parts (nat_eq it.key named) (passes it.value) it.passes in
        ap (λ o. option_map_or passes o false) (ap (map.get at.members) (sym (eqb-true it.key named parts.0)) ∙ it.there) ∙ parts.1

    back : (found : Option Members) → map.get at.members named ≡ found → option_map_or passes (map.get at.members named) false ≡ true
        → list_any (is_group_where passes named) (map.entries at.members) ≡ true
    back None is h = absurd (false≢true (sym (ap (λ o. option_map_or passes o false) is) ∙ h))
    back (Some members) is h =
        some_at nat_cmp_total nat_cmp-IsAntisymmetric (is_its_group passes named) at.members named members is
        (ap (λ b. b && passes members) (nat_eq_equiv.refl named) ∙ sym (ap (λ o. option_map_or passes o false) is) ∙ h)

-- so these are the names of the parties: their own, and those of the groups of which one of them is a member
pub names_grouped : (at : Register) (is_one : ℕ → Bool) (named : ℕ)
    → (is_one named || list_any (is_group_where (has_member_among is_one) named) (map.entries at.members)) ≡ is_name_among at is_one named
names_grouped at is_one named = ap (λ b. is_one named || b) (group_where (has_member_among is_one) at named)

-- if the parties are the circle of a citizen, these are the citizen's names
names_alike : (at : Register) (one other : ℕ → Bool) → ((n : ℕ) → one n ≡ other n) → (named : ℕ) → is_name_among at one named ≡ is_name_among at other named
names_alike at one other same named = ap₂ (λ a b. a || b) (same named) (by_members (map.get at.members named))
  where
    by_members : (found : Option Members) → option_map_or (has_member_among one) found false ≡ option_map_or (has_member_among other) found false
    by_members None = refl
    by_members (Some members) = list_any_same (λ e. one e.0) (λ e. other e.0) (λ e. same e.0) (map.entries members)

pub names_of_circle : (at : Register) (party : ℕ) (circle : BTreeSet ℕ) → ((number : ℕ) → has_number circle number ≡ is_in_circle at party number)
    → (named : ℕ) → is_name_among at (has_number circle) named ≡ is_name_of at (circle_of at party) named
names_of_circle at party circle are named = names_alike at (has_number circle) (is_in_circle at party) are named ∙ names_among at (circle_of at party) named

-- ---- the circle of a citizen

pub circle_held : (at : Register) (party number : ℕ)
    → (nat_eq party number || list_any (λ m. nat_eq m.agent party && nat_eq m.principal number) (mandates_in at.mandates)) ≡ is_in_circle at party number
circle_held at party number =
    ap₂ (λ a b. a || b) (nat_eq_equiv.symm party number)
    (list_any_same (λ (m : Mandate). nat_eq m.agent party && nat_eq m.principal number) (λ m. nat_eq m.agent party && nat_eq number m.principal)
    (λ m. ap (λ b. nat_eq m.agent party && b) (nat_eq_equiv.symm m.principal number)) (mandates_in at.mandates)
    ∙ sym (some_principal (nat_eq number) at party))
