-- The holdings of a caller: the sets that are collected once from a register, before a list decides on each
-- object.
use Rattle.std.specs.Prelude.{◌≡◌, ℕ, Bool, false, ◌&&◌, ◌||◌, nat_eq}
use Rattle.std.specs.BTreeSet.{BTreeSet, contains}
use Rattle.std.specs.FinMap as map
use Rattle.std.specs.Option.{option_map_or}
use Rattle.std.specs.Ordering.{nat_cmp}
use Rattle.land_core.specs.Entries.{some}
use Rattle.land_core.specs.Members.{Members}
use Rattle.land_core.specs.Register.{stands}
use Rattle.land_core.specs.Role.{is_role}
use Rattle.land_core.specs.Units.{is_right_of}
use Rattle.land_core.specs.declared.caller.Caller.{Caller}
use Rattle.land_core.specs.declared.kind.Kind.TheVariants as kind
use Rattle.land_core.specs.declared.register.Register.{Register}
use Rattle.land_core.specs.declared.role.Role.{Role}
use Rattle.land_core.specs.declared.role.Role.TheVariants.{Citizen, Conveyancer, Notary, Bank}
use Rattle.land_core.specs.declared.role.Role.TheVariants.{CertifiedSurveyor, StateAdministrator}
use Rattle.land_core.specs.declared.rrr.Class.{Class}
use Rattle.land_core.specs.declared.rrr.RightType.TheVariants.{Ownership}
use Rattle.land_core.specs.declared.rrr.RrrRecord.{RrrRecord}
use Rattle.land_rules.specs.Circles.{circle_of, is_held_by, is_name_of, is_owned_by}
use Rattle.land_rules.specs.Relations.{is_creditor_on, has_pending_mutation_on, is_mortgage_class, is_right}
use Rattle.land_rules.specs.Rules.{is_party_in_sight}
use Rattle.land_rules.specs.declared.rules.holdings.Holdings.{Holdings}
use Rattle.land_rules.specs.declared.rules.holdings.Interest.{Interest}
use Rattle.land_rules.specs.declared.rules.holdings.Interest.TheVariants.{Holder, Owner, Creditor}

-- whether a set has a number
abbrev pub has_number : BTreeSet ℕ → ℕ → Bool
has_number numbers n = contains nat_cmp numbers n

-- whether entries of a class give an interest: a right makes a holder, an ownership an owner, a mortgage a
-- creditor
abbrev pub gives_interest : Interest → Class → Bool
gives_interest Holder class = is_right class
gives_interest Owner class = is_right_of Ownership class
gives_interest Creditor class = is_mortgage_class class

-- whether a party has an interest under a name: a holder or an owner under the names of its circle, a
-- creditor under its own
abbrev pub has_interest_as : Interest → Register → (party named : ℕ) → Bool
has_interest_as Holder at party named = is_name_of at (circle_of at party) named
has_interest_as Owner at party named = is_name_of at (circle_of at party) named
has_interest_as Creditor at party named = nat_eq named party

-- whether one of these parties is among the members of a group
abbrev pub has_member_among : (is_one : ℕ → Bool) → Members → Bool
has_member_among is_one members = some (λ party share. is_one party) members

-- whether a name is one of these parties, or a group of which one of them is a member
abbrev pub is_name_among : Register → (is_one : ℕ → Bool) → (named : ℕ) → Bool
is_name_among at is_one named =
    is_one named || option_map_or (has_member_among is_one) (map.get at.members named) false

-- the set of the names under which a party has an interest
abbrev pub AreNames : Interest → Register → (party : ℕ) → BTreeSet ℕ → Type 0
AreNames interest at party names =
    (named : ℕ) → has_number names named ≡ has_interest_as interest at party named

-- whether a unit exists and an entry under one of these names gives the interest in it
abbrev pub has_interest_by : Interest → Register → (is_name : ℕ → Bool) → (unit : ℕ) → RrrRecord → Bool
has_interest_by interest at is_name unit e =
    stands at kind.Unit unit && (nat_eq e.unit unit && gives_interest interest e.class && is_name e.party)

-- whether a party has the interest in a unit: a member of its circle is a holder or an owner there, or the
-- party itself is a creditor
abbrev pub has_interest : Interest → Register → (party unit : ℕ) → Bool
has_interest Holder at party unit = is_held_by at (circle_of at party) unit
has_interest Owner at party unit = is_owned_by at (circle_of at party) unit
has_interest Creditor at party unit = is_creditor_on at party unit

-- the set of the units in which a party has the interest
abbrev pub AreOfInterest : Interest → Register → (party : ℕ) → BTreeSet ℕ → Type 0
AreOfInterest interest at party units =
    (unit : ℕ) → has_number units unit ≡ has_interest interest at party unit

-- the set of the units to which the undecided mutations of a party refer
abbrev pub AreLodgedOn : Register → (party : ℕ) → BTreeSet ℕ → Type 0
AreLodgedOn at party units = (unit : ℕ) → has_number units unit ≡ has_pending_mutation_on at party unit

-- the holdings of a caller: for a citizen the names of its circle and the units in which the circle is a
-- holder or an owner, for a bank the units on which it is a creditor, for a conveyancer the units to which
-- its undecided mutations refer
pub record AreHoldings (at : Register) (caller : Caller) (it : Holdings) : Type 0 where
  pub names : caller.role ≡ Citizen → AreNames Holder at caller.party it.names
  pub held : caller.role ≡ Citizen → AreOfInterest Holder at caller.party it.held
  pub owned : caller.role ≡ Citizen → AreOfInterest Owner at caller.party it.owned
  pub credited : caller.role ≡ Bank → AreOfInterest Creditor at caller.party it.credited
  pub lodged_on : caller.role ≡ Conveyancer → AreLodgedOn at caller.party it.lodged_on

-- whether a number is a name of a party in a role: of a citizen a name of its circle, in another role only
-- its own number
abbrev pub is_name_of_caller : Role → Register → (party number : ℕ) → Bool
is_name_of_caller Citizen at party number = is_name_of at (circle_of at party) number
is_name_of_caller Conveyancer at party number = nat_eq number party
is_name_of_caller Notary at party number = nat_eq number party
is_name_of_caller Bank at party number = nat_eq number party
is_name_of_caller CertifiedSurveyor at party number = nat_eq number party
is_name_of_caller StateAdministrator at party number = nat_eq number party

-- whether the role sees the parties of the entries that it sees
abbrev pub sees_parties_of_entries : Caller → Bool
sees_parties_of_entries caller =
    is_role caller.role Citizen || is_role caller.role Bank || is_role caller.role Conveyancer

-- the set of the parties of the entries that a caller sees
abbrev pub ArePartiesOfEntries : Register → Caller → BTreeSet ℕ → Type 0
ArePartiesOfEntries at caller parties = (party : ℕ) → has_number parties party
    ≡ is_party_in_sight at caller party
