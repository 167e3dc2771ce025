-- The policy, one line per rule. A rule is a number and whether it denies. Rules are in ascending order, and
-- the first that denies is the verdict.
use Rattle.std.specs.Prelude.{ℕ, Bool, true, false, not, ◌&&◌, ◌||◌, List, [], ◌∷◌, ◌++◌, nat_eq, nat_lt}
use Rattle.std.specs.Prelude.{if◌then◌else◌}
use Rattle.std.specs.List.{list_any, list_all}
use Rattle.land_core.specs.Entries.{some, numbers_where}
use Rattle.land_core.specs.Register.{stands, holds, is_mutation_where}
use Rattle.land_core.specs.Role.{is_role}
use Rattle.land_core.specs.declared.act.Act.{Act}
use Rattle.land_core.specs.declared.ask.Ask.{Ask}
use Rattle.land_core.specs.declared.ask.Ask.TheVariants as ask
use Rattle.land_core.specs.declared.caller.Caller.{Caller}
use Rattle.land_core.specs.declared.kind.Kind.{Kind}
use Rattle.land_core.specs.declared.kind.Kind.TheVariants as kind
use Rattle.land_core.specs.declared.register.Register.{Register}
use Rattle.land_core.specs.declared.role.Role.TheVariants.{Citizen, Conveyancer, Notary, Bank}
use Rattle.land_core.specs.declared.role.Role.TheVariants.{CertifiedSurveyor, StateAdministrator}
use Rattle.land_core.specs.declared.rrr.RrrRecord.{RrrRecord}
use Rattle.land_rules.specs.Acts.{decides, is_between_others, is_discharge_of_another, is_mortgage_of_another}
use Rattle.land_rules.specs.Acts.{changes_mortgages, is_mandate_act, may_lodge_mortgages, changes_outlines}
use Rattle.land_rules.specs.Acts.{may_lodge_transfers, is_office_act, is_transfer_content, lodges, withdraws}
use Rattle.land_rules.specs.Circles.{circle_of, is_group_of, is_held_by, is_in_circle, is_visible_to_circle}
use Rattle.land_rules.specs.Circles.{names_held_by}
use Rattle.land_rules.specs.Relations.{has_lodged, is_creditor_on, has_pending_mutation_on}
use Rattle.land_rules.specs.Relations.{is_rrr_where, is_visible_to_creditor}
use Rattle.land_rules.specs.declared.verdict.Verdict.{Verdict}
use Rattle.land_rules.specs.declared.verdict.Verdict.TheVariants.{Allowed, Denied}

-- a list of rules
abbrev pub Rules : Type 0
Rules = List (ℕ × Bool)

-- the verdict is the first rule that denies; it is `Allowed` if there is none
abbrev pub first_denial : Rules → Verdict
first_denial [] = Allowed
first_denial (rule ∷ rules) = if rule.1 then Denied rule.0 else first_denial rules

-- whether a verdict allows
abbrev pub is_allowed : Verdict → Bool
is_allowed Allowed = true
is_allowed (Denied k) = false

-- ---- standing rules: rules on callers and acts, which read the register now

-- whether the role sees only the present
abbrev pub sees_only_present : Caller → Bool
sees_only_present caller =
    is_role caller.role Bank || is_role caller.role Conveyancer || is_role caller.role CertifiedSurveyor

-- rules on callers: 1 to 3
abbrev pub caller_rules : (now : Register) → Caller → (past : Bool) → Rules
caller_rules now caller past =
    -- the caller is not a party of the register now
    (1, not (stands now kind.Party caller.party))
    -- the caller does not hold the role that it claims now
    ∷ (2, not (holds now caller.party caller.role))
    -- a bank, a conveyancer or a certified surveyor requests a past time
    ∷ (3, past && sees_only_present caller)
    ∷ []

-- rules on acts: 4 to 10, 28 and 29
abbrev pub act_rules : (now : Register) → Caller → Act → Rules
act_rules now caller a =
    -- an act of the office is for state administrators only
    (4, is_office_act a && not (is_role caller.role StateAdministrator))
    -- only conveyancers and notaries lodge transfers
    ∷ (5, lodges is_transfer_content a && not (may_lodge_transfers caller))
    -- only certified surveyors lodge subdivisions and mergers
    ∷ (6, lodges changes_outlines a && not (is_role caller.role CertifiedSurveyor))
    -- only banks and notaries lodge mortgages and discharges
    ∷ (7, lodges changes_mortgages a && not (may_lodge_mortgages caller))
    -- a bank lodges a mortgage of which another party is the creditor
    ∷ (8, is_role caller.role Bank && lodges (is_mortgage_of_another caller.party) a)
    -- a bank lodges the discharge of a number at which it has no mortgage now; the unit that it names is not
    -- read
    ∷ (9, is_role caller.role Bank && lodges (is_discharge_of_another now caller.party) a)
    -- the caller decides on a mutation that it lodged, in any role and any state of the mutation
    ∷ (10, decides (has_lodged now caller.party) a)
    -- only citizens give and withdraw mandates
    ∷ (28, is_mandate_act a && not (is_role caller.role Citizen))
    -- the caller withdraws a mandate of which it is neither the principal nor the agent; the mandate need not
    -- exist
    ∷ (29, withdraws (is_between_others caller.party) a)
    ∷ []

-- the standing rules on a request; acts have rules of their own
abbrev pub standing_rules : (now : Register) → Caller → Ask → (past : Bool) → Rules
standing_rules now caller (ask.View k number at) past = caller_rules now caller past
standing_rules now caller (ask.List k at) past = caller_rules now caller past
standing_rules now caller (ask.Sheet unit at) past = caller_rules now caller past
standing_rules now caller (ask.Do it) past = caller_rules now caller past ++ act_rules now caller it

-- ---- sight rules: rules on visibility, which read the register at the requested time

-- rules on the view of a unit
abbrev pub unit_rules : (at : Register) → Caller → (number : ℕ) → Rules
unit_rules at caller number =
    -- a citizen sees a unit only if a member of its circle is a holder in it
    (11, is_role caller.role Citizen && not (is_held_by at (circle_of at caller.party) number))
    -- a bank sees a unit only if it is a creditor on it
    ∷ (15, is_role caller.role Bank && not (is_creditor_on at caller.party number))
    -- a conveyancer sees a unit only if one of its undecided mutations refers to it
    ∷ (19, is_role caller.role Conveyancer && not (has_pending_mutation_on at caller.party number))
    -- a certified surveyor sees no units
    ∷ (23, is_role caller.role CertifiedSurveyor)
    -- the unit does not exist
    ∷ (27, not (stands at kind.Unit number))
    ∷ []

-- whether a unit is visible
abbrev pub is_unit_in_sight : (at : Register) → Caller → (number : ℕ) → Bool
is_unit_in_sight at caller number = is_allowed (first_denial (unit_rules at caller number))

-- a bank sees the entries of a visible unit, except the mortgages of other creditors
abbrev pub is_visible_to_bank : (at : Register) → Caller → RrrRecord → Bool
is_visible_to_bank at caller e = is_unit_in_sight at caller e.unit && is_visible_to_creditor caller.party e

-- a conveyancer sees the entries of a visible unit
abbrev pub is_visible_to_conveyancer : (at : Register) → Caller → RrrRecord → Bool
is_visible_to_conveyancer at caller e = is_unit_in_sight at caller e.unit

-- rules on the view of an entry
abbrev pub rrr_rules : (at : Register) → Caller → (number : ℕ) → Rules
rrr_rules at caller number =
    let circle = circle_of at caller.party in
    -- a citizen sees an entry only if a member of its circle is a holder in the unit, and a mortgage only if
    -- one is an owner
    (12, is_role caller.role Citizen && not (is_rrr_where (is_visible_to_circle at circle) at number))
    -- a bank sees an entry only if the unit is visible and the entry is not the mortgage of another creditor
    ∷ (16, is_role caller.role Bank && not (is_rrr_where (is_visible_to_bank at caller) at number))
    -- a conveyancer sees an entry only if the unit is visible
    ∷ (
      20,
      is_role caller.role Conveyancer
          && not (is_rrr_where (is_visible_to_conveyancer at caller) at number),
    )
    -- a certified surveyor sees no entries
    ∷ (23, is_role caller.role CertifiedSurveyor)
    -- the entry does not exist
    ∷ (27, not (stands at kind.Rrr number))
    ∷ []

-- whether an entry is visible
abbrev pub is_rrr_in_sight : (at : Register) → Caller → (number : ℕ) → Bool
is_rrr_in_sight at caller number = is_allowed (first_denial (rrr_rules at caller number))

-- whether a visible entry is of this party
abbrev pub is_party_in_sight : (at : Register) → Caller → (party : ℕ) → Bool
is_party_in_sight at caller party = some (λ n e. nat_eq e.party party && is_rrr_in_sight at caller n) at.rrrs

-- rules on the view of a party
abbrev pub party_rules : (at : Register) → Caller → (number : ℕ) → Rules
party_rules at caller number =
    let itself = nat_eq number caller.party in
    let of_circle = is_in_circle at caller.party number in
    let of_group = is_group_of at (circle_of at caller.party) number in
    let in_sight = is_party_in_sight at caller number in
    -- a citizen sees only its circle, the groups of which a member of it is a member, and the parties of
    -- visible entries
    (13, is_role caller.role Citizen && not (of_circle || of_group || in_sight))
    -- a bank sees only itself and the parties of visible entries
    ∷ (17, is_role caller.role Bank && not (itself || in_sight))
    -- a conveyancer sees only itself and the parties of visible entries
    ∷ (21, is_role caller.role Conveyancer && not (itself || in_sight))
    -- a certified surveyor sees only itself
    ∷ (24, is_role caller.role CertifiedSurveyor && not itself)
    -- the party does not exist
    ∷ (27, not (stands at kind.Party number))
    ∷ []

-- rules on the view of a parcel
abbrev pub parcel_rules : (at : Register) → (number : ℕ) → Rules
parcel_rules at number =
    -- the parcel does not exist; every caller sees all others
    (27, not (stands at kind.Parcel number))
    ∷ []

-- whether the role sees sources
abbrev pub sees_sources : Caller → Bool
sees_sources caller = is_role caller.role Notary || is_role caller.role StateAdministrator

-- rules on the view of a source
abbrev pub source_rules : (at : Register) → Caller → (number : ℕ) → Rules
source_rules at caller number =
    -- only notaries and state administrators see sources
    (26, not (sees_sources caller))
    -- the source does not exist
    ∷ (27, not (stands at kind.Source number))
    ∷ []

-- rules on the view of a mutation
abbrev pub mutation_rules : (at : Register) → Caller → (number : ℕ) → Rules
mutation_rules at caller number =
    let circle = circle_of at caller.party in
    let lodged_it = has_lodged at caller.party number in
    -- a citizen sees a mutation only if it refers to a unit in which a member of its circle is a holder
    (14, is_role caller.role Citizen && not (is_mutation_where (names_held_by at circle) at number))
    -- a bank sees only the mutations that it lodged
    ∷ (18, is_role caller.role Bank && not lodged_it)
    -- a conveyancer sees only the mutations that it lodged
    ∷ (22, is_role caller.role Conveyancer && not lodged_it)
    -- a certified surveyor sees only the mutations that it lodged
    ∷ (25, is_role caller.role CertifiedSurveyor && not lodged_it)
    -- the mutation does not exist
    ∷ (27, not (stands at kind.Mutation number))
    ∷ []

-- rules on the view of an object, by its kind
abbrev pub view_rules : (at : Register) → Caller → Kind → (number : ℕ) → Rules
view_rules at caller kind.Party number = party_rules at caller number
view_rules at caller kind.Unit number = unit_rules at caller number
view_rules at caller kind.Parcel number = parcel_rules at number
view_rules at caller kind.Rrr number = rrr_rules at caller number
view_rules at caller kind.Source number = source_rules at caller number
view_rules at caller kind.Mutation number = mutation_rules at caller number

-- a sheet has the rules of the view of its unit; sight rules never deny a list or an act
abbrev pub sight_rules : (at : Register) → Caller → Ask → Rules
sight_rules at caller (ask.View k number moment) = view_rules at caller k number
sight_rules at caller (ask.List k moment) = []
sight_rules at caller (ask.Sheet unit moment) = view_rules at caller kind.Unit unit
sight_rules at caller (ask.Do it) = []

-- ---- the verdict

-- all rules on a request
abbrev pub rules_on : (now at : Register) → Caller → Ask → (past : Bool) → Rules
rules_on now at caller a past = standing_rules now caller a past ++ sight_rules at caller a

-- the verdict on a request
abbrev pub verdict_of : (now at : Register) → Caller → Ask → (past : Bool) → Verdict
verdict_of now at caller a past = first_denial (rules_on now at caller a past)

-- whether the rule with this number denies
abbrev pub denies : ℕ → Rules → Bool
denies k rules = list_any (λ rule. nat_eq rule.0 k && rule.1) rules

-- whether the numbers of rules are ascending and above a lower bound
abbrev pub are_rules_above : ℕ → Rules → Bool
are_rules_above low [] = true
are_rules_above low (rule ∷ rules) = nat_lt low rule.0 && are_rules_above rule.0 rules

-- ---- lists

-- whether no rule denies the view of an object
abbrev pub sees : (at : Register) → Caller → Kind → (number : ℕ) → Bool
sees at caller k number = is_allowed (first_denial (view_rules at caller k number))

-- whether each number of a list is below all that follow it
abbrev pub is_ascending_list : List ℕ → Bool
is_ascending_list [] = true
is_ascending_list (n ∷ ns) = list_all (nat_lt n) ns && is_ascending_list ns

-- the list of a kind: the numbers that the caller sees, ascending, each once
abbrev pub seen_of : (at : Register) → Caller → Kind → List ℕ
seen_of at caller kind.Party = numbers_where (λ n x. sees at caller kind.Party n) at.parties
seen_of at caller kind.Unit = numbers_where (λ n x. sees at caller kind.Unit n) at.units
seen_of at caller kind.Parcel = numbers_where (λ n x. sees at caller kind.Parcel n) at.parcels
seen_of at caller kind.Rrr = numbers_where (λ n x. sees at caller kind.Rrr n) at.rrrs
seen_of at caller kind.Source = numbers_where (λ n x. sees at caller kind.Source n) at.sources
seen_of at caller kind.Mutation = numbers_where (λ n x. sees at caller kind.Mutation n) at.mutations
