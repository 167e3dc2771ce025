-- Laws on verdicts and lists, stated only over the definitions of the policy.
use Rattle.std.specs.Prelude.{◌≡◌, ◌⊎◌, ℕ, ◌<◌, ◌↔◌, Bool, true, false, ◌&&◌, ◌||◌, Option, ℤ, nat_eq}
use Rattle.std.specs.Prelude.{if◌then◌else◌}
use Rattle.std.specs.List.{list_any}
use Rattle.land_core.specs.Register.{stands, holds, is_member, empty_register}
use Rattle.land_core.specs.Role.{is_role}
use Rattle.land_core.specs.Soundness.{IsSound}
use Rattle.land_core.specs.declared.ask.Ask.{Ask}
use Rattle.land_core.specs.declared.ask.Ask.TheVariants as ask
use Rattle.land_core.specs.declared.caller.Caller.{Caller}
use Rattle.land_core.specs.declared.kind.Kind.{Kind}
use Rattle.land_core.specs.declared.kind.Kind.TheVariants as kind
use Rattle.land_core.specs.declared.register.Register.{Register}
use Rattle.land_core.specs.declared.role.Role.{Role}
use Rattle.land_core.specs.declared.role.Role.TheVariants.{Citizen, Conveyancer, Notary, Bank}
use Rattle.land_core.specs.declared.role.Role.TheVariants.{CertifiedSurveyor, StateAdministrator}
use Rattle.land_rules.specs.Circles.{circle_of, is_group_of, is_in_circle}
use Rattle.land_rules.specs.Relations.{has_pending_mutation_on}
use Rattle.land_rules.specs.Rules.{rules_on, verdict_of, denies, first_denial, are_rules_above}
use Rattle.land_rules.specs.Rules.{is_ascending_list}
use Rattle.land_rules.specs.Rules.{sees}
use Rattle.land_rules.specs.Rules.{seen_of, is_party_in_sight, view_rules}
use Rattle.land_rules.specs.declared.verdict.Verdict.{Verdict}
use Rattle.land_rules.specs.declared.verdict.Verdict.TheVariants.{Allowed, Denied}

-- the rules on each request are in ascending order
abbrev pub RulesAreOrdered : Type 0
RulesAreOrdered = (now at : Register) (caller : Caller) (a : Ask) (past : Bool)
    → are_rules_above 0 (rules_on now at caller a past) ≡ true

-- rule k denies, and no rule with a lower number does
pub record IsLeastDenial (now at : Register) (caller : Caller) (a : Ask) (past : Bool) (k : ℕ) : Type 0 where
  pub holds : denies k (rules_on now at caller a past) ≡ true
  pub least : (j : ℕ) → j < k → denies j (rules_on now at caller a past) ≡ false

-- a verdict denies by a rule exactly if this is the first rule that denies, and it allows exactly if no rule
-- denies
pub record VerdictIsLeast (now at : Register) (caller : Caller) (a : Ask) (past : Bool) : Type 0 where
  pub denied : (k : ℕ) → (verdict_of now at caller a past ≡ Denied k) ↔ IsLeastDenial now at caller a past k
  pub allowed : (verdict_of now at caller a past ≡ Allowed)
      ↔ ((k : ℕ) → denies k (rules_on now at caller a past) ≡ false)

-- every verdict is of this kind
abbrev pub VerdictsAreLeast : Type 0
VerdictsAreLeast =
    (now at : Register) (caller : Caller) (a : Ask) (past : Bool) → VerdictIsLeast now at caller a past

-- a list is ascending without duplicates, and it has a number exactly if no rule denies the view of that
-- object
pub record IsExactList (at : Register) (caller : Caller) (k : Kind) : Type 0 where
  pub ascending : is_ascending_list (seen_of at caller k) ≡ true
  pub exact : (n : ℕ) → list_any (nat_eq n) (seen_of at caller k) ≡ sees at caller k n

-- every list is of this kind
abbrev pub SeenListsAreExact : Type 0
SeenListsAreExact = (at : Register) (caller : Caller) (k : Kind) → IsExactList at caller k

-- a caller in the role of citizen
abbrev pub citizen : ℕ → Caller
citizen party = record { party = party; role = Citizen }

-- the verdict on a citizen's view of a group: allowed if a member of the citizen's circle is a member of the
-- group at the requested time; denied by rule 13 if neither this holds, nor the group is in the circle, nor
-- it is the party of a visible entry
pub record GroupIsVisible (now at : Register) (party group : ℕ) (moment : Option ℤ)
    (past : Bool) : Type 0 where
  pub member : (one : ℕ) → is_in_circle at party one ≡ true → is_member at group one ≡ true
      → stands at kind.Party group ≡ true
      → verdict_of now at (citizen party) (ask.View kind.Party group moment) past ≡ Allowed
  pub other : is_in_circle at party group ≡ false → is_group_of at (circle_of at party) group ≡ false
      → is_party_in_sight at (citizen party) group ≡ false
      → verdict_of now at (citizen party) (ask.View kind.Party group moment) past ≡ Denied 13

-- members at the requested time, and the agents of their mandates then, see their group, and other citizens
-- do not; of the register now, only the caller and its role are read
abbrev pub MembersSeeGroups : Type 0
MembersSeeGroups = (now at : Register) (party group : ℕ) (moment : Option ℤ) (past : Bool)
    → stands now kind.Party party ≡ true → holds now party Citizen ≡ true
    → GroupIsVisible now at party group moment past

-- the number of the rule that denies a role the view of an object that is not visible
abbrev pub rule_of_role : Role → Kind → ℕ
rule_of_role Citizen kind.Party = 13
rule_of_role Citizen kind.Unit = 11
rule_of_role Citizen kind.Parcel = 27
rule_of_role Citizen kind.Rrr = 12
rule_of_role Citizen kind.Source = 26
rule_of_role Citizen kind.Mutation = 14
rule_of_role Conveyancer kind.Party = 21
rule_of_role Conveyancer kind.Unit = 19
rule_of_role Conveyancer kind.Parcel = 27
rule_of_role Conveyancer kind.Rrr = 20
rule_of_role Conveyancer kind.Source = 26
rule_of_role Conveyancer kind.Mutation = 22
rule_of_role Notary k = 27
rule_of_role Bank kind.Party = 17
rule_of_role Bank kind.Unit = 15
rule_of_role Bank kind.Parcel = 27
rule_of_role Bank kind.Rrr = 16
rule_of_role Bank kind.Source = 26
rule_of_role Bank kind.Mutation = 18
rule_of_role CertifiedSurveyor kind.Party = 24
rule_of_role CertifiedSurveyor kind.Unit = 23
rule_of_role CertifiedSurveyor kind.Parcel = 27
rule_of_role CertifiedSurveyor kind.Rrr = 23
rule_of_role CertifiedSurveyor kind.Source = 26
rule_of_role CertifiedSurveyor kind.Mutation = 25
rule_of_role StateAdministrator k = 27

-- whether a caller views the party that it is itself
abbrev pub views_itself : Caller → Kind → ℕ → Bool
views_itself caller kind.Party number = nat_eq number caller.party
views_itself caller kind.Unit number = false
views_itself caller kind.Parcel number = false
views_itself caller kind.Rrr number = false
views_itself caller kind.Source number = false
views_itself caller kind.Mutation number = false

-- whether a conveyancer views a unit to which its own undecided mutation refers
abbrev pub is_named_by_own_mutation : (at : Register) → Caller → Kind → ℕ → Bool
is_named_by_own_mutation at caller kind.Party number = false
is_named_by_own_mutation at caller kind.Unit number =
    is_role caller.role Conveyancer && has_pending_mutation_on at caller.party number
is_named_by_own_mutation at caller kind.Parcel number = false
is_named_by_own_mutation at caller kind.Rrr number = false
is_named_by_own_mutation at caller kind.Source number = false
is_named_by_own_mutation at caller kind.Mutation number = false

-- the number of the rule that denies an object that is not visible. It follows from role, kind and caller,
-- but two cases get rule 27: a caller that views itself, and a conveyancer's unit to which its own undecided
-- mutation refers; neither object exists then
abbrev pub rule_out_of_sight : (at : Register) → Caller → Kind → ℕ → ℕ
rule_out_of_sight at caller k number =
    if is_named_by_own_mutation at caller k number || views_itself caller k number then 27
    else rule_of_role caller.role k

-- a visible object is allowed, and this rule denies every other
abbrev pub verdict_by_sight : (at : Register) → Caller → Kind → ℕ → Verdict
verdict_by_sight at caller k number =
    if sees at caller k number then Allowed else Denied (rule_out_of_sight at caller k number)

-- a register at a time: sound, or empty if the time is before the first change
abbrev pub IsSoundOrNothing : Register → Type 0
IsSoundOrNothing at = IsSound at ⊎ (at ≡ empty_register)

-- in such a register, the denial of a view reveals only that the object is not visible
abbrev pub DenialsRevealOnlySight : Type 0
DenialsRevealOnlySight = (at : Register) → IsSoundOrNothing at → (caller : Caller) (k : Kind) (number : ℕ)
    → first_denial (view_rules at caller k number) ≡ verdict_by_sight at caller k number
