-- The verdict on the view of an object, given whether the object is visible.
use Rattle.std.specs.Prelude.{◌≡◌, ℕ, Bool, true, false, ◌&&◌, ◌||◌, if◌then◌else◌}
use Rattle.land_core.specs.Register.{stands}
use Rattle.land_core.specs.Role.{is_role}
use Rattle.land_core.specs.declared.caller.Caller.{Caller}
use Rattle.land_core.specs.declared.kind.Kind.{Kind}
use Rattle.land_core.specs.declared.kind.Kind.TheVariants as kind
use Rattle.land_core.specs.declared.register.Register.{Register}
use Rattle.land_core.specs.declared.role.Role.{Role}
use Rattle.land_core.specs.declared.role.Role.TheVariants.{Bank, CertifiedSurveyor, Conveyancer, Notary}
use Rattle.land_core.specs.declared.role.Role.TheVariants.{StateAdministrator}
use Rattle.land_rules.specs.Laws.{IsSoundOrNothing, views_itself, rule_of_role}
use Rattle.land_rules.specs.Relations.{has_lodged, has_pending_mutation_on, is_rrr_where}
use Rattle.land_rules.specs.Rules.{first_denial, sees, view_rules}
use Rattle.land_rules.specs.declared.verdict.Verdict.{Verdict}
use Rattle.land_rules.specs.declared.verdict.Verdict.TheVariants.{Allowed, Denied}

-- whether a conveyancer views a unit
abbrev pub is_unit_of_conveyancer : Role → Kind → Bool
is_unit_of_conveyancer role kind.Party = false
is_unit_of_conveyancer role kind.Unit = is_role role Conveyancer
is_unit_of_conveyancer role kind.Parcel = false
is_unit_of_conveyancer role kind.Rrr = false
is_unit_of_conveyancer role kind.Source = false
is_unit_of_conveyancer role kind.Mutation = false

-- a visible object is allowed. The rule of the caller's role and the kind denies every other object, but two
-- cases get rule 27: a caller that views itself, and a conveyancer's unit to which its own undecided mutation
-- refers
abbrev pub verdict_given_sight : (in_sight awaited : Bool) → Caller → Kind → (number : ℕ) → Verdict
verdict_given_sight in_sight awaited caller k number = if in_sight then Allowed
    else Denied (if is_unit_of_conveyancer caller.role k && awaited || views_itself caller k number then 27
    else rule_of_role caller.role k)

-- in a register that is sound or empty, the verdict on a view follows from the visibility of the object
abbrev pub SightDecidesVerdicts : Type 0
SightDecidesVerdicts = (at : Register) → IsSoundOrNothing at → (caller : Caller) (k : Kind) (number : ℕ)
    → first_denial (view_rules at caller k number)
    ≡ verdict_given_sight (sees at caller k number) (has_pending_mutation_on at caller.party number) caller k
    number

-- all roles see all parcels, and notaries and state administrators see all objects of all kinds
abbrev pub sees_all : Role → Kind → Bool
sees_all role kind.Party = is_role role Notary || is_role role StateAdministrator
sees_all role kind.Unit = is_role role Notary || is_role role StateAdministrator
sees_all role kind.Parcel = true
sees_all role kind.Rrr = is_role role Notary || is_role role StateAdministrator
sees_all role kind.Source = is_role role Notary || is_role role StateAdministrator
sees_all role kind.Mutation = is_role role Notary || is_role role StateAdministrator

-- a role that sees all objects of a kind sees exactly the objects that exist
abbrev pub FullSightShowsAll : Type 0
FullSightShowsAll = (at : Register) (caller : Caller) (k : Kind) (number : ℕ)
    → sees_all caller.role k ≡ true → sees at caller k number ≡ stands at k number

-- banks, conveyancers and certified surveyors see the mutations that they lodged
abbrev pub sees_own_lodgings : Role → Kind → Bool
sees_own_lodgings role kind.Party = false
sees_own_lodgings role kind.Unit = false
sees_own_lodgings role kind.Parcel = false
sees_own_lodgings role kind.Rrr = false
sees_own_lodgings role kind.Source = false
sees_own_lodgings role kind.Mutation =
    is_role role Bank || is_role role Conveyancer || is_role role CertifiedSurveyor

-- such a caller sees a mutation exactly if it exists and the caller lodged it, decided or not
abbrev pub LodgersSeeTheirOwn : Type 0
LodgersSeeTheirOwn =
    (at : Register) (caller : Caller) (k : Kind) (number : ℕ) → sees_own_lodgings caller.role k ≡ true
    → sees at caller k number ≡ has_lodged at caller.party number

-- conveyancers see units and entries by their undecided mutations
abbrev pub sees_by_pending : Role → Kind → Bool
sees_by_pending role kind.Party = false
sees_by_pending role kind.Unit = is_role role Conveyancer
sees_by_pending role kind.Parcel = false
sees_by_pending role kind.Rrr = is_role role Conveyancer
sees_by_pending role kind.Source = false
sees_by_pending role kind.Mutation = false

-- a unit that exists and to which an undecided mutation of the caller refers, and the entries of a unit to
-- which one refers
abbrev pub is_visible_by_pending : Register → Caller → Kind → (number : ℕ) → Bool
is_visible_by_pending at caller kind.Party number = false
is_visible_by_pending at caller kind.Unit number = has_pending_mutation_on at caller.party number
    && stands at kind.Unit number
is_visible_by_pending at caller kind.Parcel number = false
is_visible_by_pending at caller kind.Rrr number = is_rrr_where
    (λ e. has_pending_mutation_on at caller.party e.unit) at number
is_visible_by_pending at caller kind.Source number = false
is_visible_by_pending at caller kind.Mutation number = false

-- in a register that is sound or empty, a conveyancer sees exactly these units and entries
abbrev pub PendingUnitsAreVisible : Type 0
PendingUnitsAreVisible = (at : Register) → IsSoundOrNothing at → (caller : Caller) (k : Kind) (number : ℕ)
    → sees_by_pending caller.role k ≡ true
    → sees at caller k number ≡ is_visible_by_pending at caller k number
