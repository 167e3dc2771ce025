-- Laws on visibility: what callers see by holdings, ended entries, mortgages and lodgings.
use Rattle.std.specs.Prelude.{◌≡◌, ◌≢◌, ℕ, ◌↔◌, Bool, true, false, ◌&&◌, Option, Some, ℤ}
use Rattle.std.specs.FinMap as map
use Rattle.land_core.specs.Contents.{content_names_unit}
use Rattle.land_core.specs.Mutations.{is_undecided}
use Rattle.land_core.specs.Register.{stands, holds, is_member}
use Rattle.land_core.specs.Units.{is_right_of}
use Rattle.land_core.specs.declared.ask.Ask.TheVariants as ask
use Rattle.land_core.specs.declared.caller.Caller.{Caller}
use Rattle.land_core.specs.declared.kind.Kind.{Kind}
use Rattle.land_core.specs.declared.kind.Kind.TheVariants as kind
use Rattle.land_core.specs.declared.mutation.MutationRecord.{MutationRecord}
use Rattle.land_core.specs.declared.register.Register.{Register}
use Rattle.land_core.specs.declared.role.Role.TheVariants.{Citizen, Conveyancer, Bank}
use Rattle.land_core.specs.declared.rrr.Class.{Class}
use Rattle.land_core.specs.declared.rrr.RightType.TheVariants.{Ownership}
use Rattle.land_core.specs.declared.rrr.RrrRecord.{RrrRecord}
use Rattle.land_rules.specs.Circles.{is_in_circle}
use Rattle.land_rules.specs.Laws.{citizen}
use Rattle.land_rules.specs.Relations.{is_holder, is_mortgage_class, is_owner, is_right}
use Rattle.land_rules.specs.Rules.{sees_only_present, sees, verdict_of}
use Rattle.land_rules.specs.declared.verdict.Verdict.{Verdict}
use Rattle.land_rules.specs.declared.verdict.Verdict.TheVariants.{Allowed, Denied}

-- whether a party exists and holds the role citizen now
abbrev pub is_registered_citizen : (now : Register) → (party : ℕ) → Bool
is_registered_citizen now party = stands now kind.Party party && holds now party Citizen

-- the verdict on a citizen's view of an object
abbrev pub citizen_view_verdict : (now at : Register) → (party : ℕ) → Kind → (number : ℕ) → Option ℤ
    → (past : Bool)
    → Verdict
citizen_view_verdict now at party k number moment past =
    verdict_of now at (citizen party) (ask.View k number moment) past

-- entry e exists at a number and is in a unit
pub record IsEntryOf (at : Register) (unit number : ℕ) (e : RrrRecord) : Type 0 where
  pub there : map.get at.rrrs number ≡ Some e
  pub of_unit : e.unit ≡ unit

-- an entry of such a class exists in a unit under a name
pub record HasEntryOfClass (is_of : Class → Bool) (at : Register) (named unit : ℕ) : Type 0 where
  pub number : ℕ
  pub entry : RrrRecord
  pub stands : IsEntryOf at unit number entry
  pub class : is_of entry.class ≡ true
  pub name : entry.party ≡ named

-- a name is that of another party, and not of a group of which the party is a member
pub record IsNameOfOthers (at : Register) (party named : ℕ) : Type 0 where
  pub other : named ≢ party
  pub outside : is_member at named party ≡ false

-- every entry of such a class in a unit is under the name of other parties
abbrev pub HoldsNothingOfClass : (is_of : Class → Bool) → Register → (party unit : ℕ) → Type 0
HoldsNothingOfClass is_of at party unit = (number : ℕ) (e : RrrRecord) → IsEntryOf at unit number e
    → is_of e.class ≡ true → IsNameOfOthers at party e.party

-- the same holds for each member of the circle of a party
abbrev pub CircleHoldsNothingOfClass : (is_of : Class → Bool) → Register → (party unit : ℕ) → Type 0
CircleHoldsNothingOfClass is_of at party unit =
    (one : ℕ) → is_in_circle at party one ≡ true → HoldsNothingOfClass is_of at one unit

-- party `one` is a holder in the unit, and a party that has it in its circle sees the unit and all its
-- entries that are not mortgages
pub record SeesAsHolder (now at : Register) (one party unit : ℕ) (moment : Option ℤ) (past : Bool)
    : Type 0 where
  pub holder : is_holder at one unit ≡ true
  pub unit_shown : citizen_view_verdict now at party kind.Unit unit moment past ≡ Allowed
  pub entries_shown : (number : ℕ) (e : RrrRecord) → IsEntryOf at unit number e
      → is_mortgage_class e.class ≡ false
      → citizen_view_verdict now at party kind.Rrr number moment past ≡ Allowed

-- if a group has a right in a unit at the requested time, each of its members then is a holder, and the
-- member and the agents of its mandates see the unit as holders do
abbrev pub MembersAreHolders : Type 0
MembersAreHolders = (now at : Register) (party one group unit : ℕ) (moment : Option ℤ) (past : Bool)
    → is_registered_citizen now party ≡ true → is_in_circle at party one ≡ true
    → is_member at group one ≡ true → stands at kind.Unit unit ≡ true → HasEntryOfClass is_right at group unit
    → SeesAsHolder now at one party unit moment past

-- if no member of a citizen's circle has a right in a unit at the requested time, rule 11 denies the unit, in
-- any state of the register now
abbrev pub EndedEntriesGiveNoSight : Type 0
EndedEntriesGiveNoSight =
    (now at : Register) (party unit : ℕ) (moment : Option ℤ) (past : Bool)
    → is_registered_citizen now party ≡ true
    → CircleHoldsNothingOfClass is_right at party unit
    → citizen_view_verdict now at party kind.Unit unit moment past ≡ Denied 11

-- the verdict on a citizen's view of a mortgage: allowed if a member of its circle is an owner of the unit;
-- denied by rule 12 if none has an ownership there, for example for a lessee
pub record MortgageHasVerdict (now at : Register) (party unit number : ℕ) (moment : Option ℤ) (past : Bool)
    : Type 0 where
  pub owner : (one : ℕ) → is_in_circle at party one ≡ true → is_owner at one unit ≡ true
      → citizen_view_verdict now at party kind.Rrr number moment past ≡ Allowed
  pub other : CircleHoldsNothingOfClass (is_right_of Ownership) at party unit
      → citizen_view_verdict now at party kind.Rrr number moment past ≡ Denied 12

-- every mortgage has this verdict
abbrev pub OnlyOwnersSeeMortgages : Type 0
OnlyOwnersSeeMortgages =
    (now at : Register) (party unit number : ℕ) (e : RrrRecord) (moment : Option ℤ) (past : Bool)
    → is_registered_citizen now party ≡ true
    → IsEntryOf at unit number e → is_mortgage_class e.class ≡ true
    → MortgageHasVerdict now at party unit number moment past

-- a caller in the role of bank
abbrev pub bank : ℕ → Caller
bank party = record { party = party; role = Bank }

-- an entry exists in a unit that the bank sees, and is not the mortgage of another creditor
pub record IsVisibleEntryOfBank (at : Register) (party number : ℕ) : Type 0 where
  pub entry : RrrRecord
  pub there : map.get at.rrrs number ≡ Some entry
  pub in_sight : sees at (bank party) kind.Unit entry.unit ≡ true
  pub own : is_mortgage_class entry.class ≡ true → entry.party ≡ party

-- a bank sees exactly the units that exist and on which it has a mortgage, and their entries except the
-- mortgages of other creditors
pub record BankSees (at : Register) (party : ℕ) : Type 0 where
  pub units : (unit : ℕ) → (sees at (bank party) kind.Unit unit ≡ true)
      ↔ ((stands at kind.Unit unit ≡ true) × HasEntryOfClass is_mortgage_class at party unit)
  pub entries : (number : ℕ)
      → (sees at (bank party) kind.Rrr number ≡ true) ↔ IsVisibleEntryOfBank at party number

-- every bank sees exactly this
abbrev pub BanksSeeByTheirMortgages : Type 0
BanksSeeByTheirMortgages = (at : Register) (party : ℕ) → BankSees at party

-- a mutation exists at a number, and a party lodged it
pub record HasLodged (at : Register) (party number : ℕ) : Type 0 where
  pub mutation : MutationRecord
  pub there : map.get at.mutations number ≡ Some mutation
  pub lodger : mutation.lodger ≡ party

-- a bank, a conveyancer or a certified surveyor sees exactly the mutations that it lodged, decided or not
abbrev pub LodgersSeeTheirMutations : Type 0
LodgersSeeTheirMutations = (at : Register) (caller : Caller) → sees_only_present caller ≡ true
    → (number : ℕ) → (sees at caller kind.Mutation number ≡ true) ↔ HasLodged at caller.party number

-- a caller in the role of conveyancer
abbrev pub conveyancer : ℕ → Caller
conveyancer party = record { party = party; role = Conveyancer }

-- an undecided mutation of a party refers to a unit
pub record HasPending (at : Register) (party unit : ℕ) : Type 0 where
  pub number : ℕ
  pub lodged : HasLodged at party number
  pub undecided : is_undecided lodged.mutation ≡ true
  pub names : content_names_unit unit lodged.mutation.content ≡ true

-- a conveyancer sees exactly the units that exist and to which one of its undecided mutations refers
abbrev pub ConveyancersSeeByTheirLodgings : Type 0
ConveyancersSeeByTheirLodgings = (at : Register) (party unit : ℕ)
    → (sees at (conveyancer party) kind.Unit unit ≡ true)
    ↔ ((stands at kind.Unit unit ≡ true) × HasPending at party unit)
