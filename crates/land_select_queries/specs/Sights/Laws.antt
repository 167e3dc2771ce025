-- Laws on definitions only: the selections of a role return exactly what the policy, without mandates, lets
-- it see.
use Rattle.std.specs.Prelude.{◌≡◌, ◌⊎◌, ◌↔◌, ◌<◌, ℕ, ℤ, List}
use Rattle.std.specs.List.{Contains}
use Rattle.std.specs.List.Sorted.{IsStrictlyIncreasing}
use Rattle.land_core.specs.declared.caller.Caller.{Caller}
use Rattle.land_core.specs.declared.kind.Kind.{Kind}
use Rattle.land_core.specs.declared.mutation.MutationRecord.{MutationRecord}
use Rattle.land_core.specs.declared.register.Register.{Register}
use Rattle.land_core.specs.declared.role.Role.{Role}
use Rattle.land_rules.specs.CircleLaws.{without_mandates}
use Rattle.land_rules.specs.Laws.{IsSoundOrNothing}
use Rattle.land_rules.specs.Rules.{seen_of}
use Rattle.land_select_queries.specs.Sights.{AnySelects, selections_of}
use Rattle.land_select_queries.specs.Sights.Selections.{Entry, IsCurrent, IsCurrentUnder}
use Rattle.land_select_queries.specs.declared.sights.selection.Selection.{Selection}
use Rattle.land_tables_history.specs.History.{IsRegisterAt}
use Rattle.land_tables_history.specs.declared.group_member.GroupMember.{GroupMember}
use Rattle.land_tables_history.specs.declared.history.History.{History}

-- The selections of a role and a kind return exactly the numbers that the policy, without mandates, lets the
-- caller see in the register at time t.
abbrev pub SelectionsAreTheRules : Type 0
SelectionsAreTheRules = (r : Register) (h : History) (t : ℤ) → IsSoundOrNothing r → IsRegisterAt t h r
    → (caller : Caller) (k : Kind) (number : ℕ)
    → AnySelects (selections_of caller.role k) t h caller.party number
    ↔ Contains (seen_of (without_mandates r) caller k) number

-- the party is a member of a group, has an entry, or lodged a mutation that is current at time t
abbrev pub IsMemberAt : (t : ℤ) → History → (party : ℕ) → Type 0
IsMemberAt t h party = (joined : GroupMember) × IsCurrent t h.members joined × (joined.member.party ≡ party)

abbrev pub IsPartyAt : (t : ℤ) → History → (party : ℕ) → Type 0
IsPartyAt t h party = (e : Entry) × IsCurrent t h.rrrs e × (e.1.party ≡ party)

abbrev pub IsLodgerAt : (t : ℤ) → History → (party : ℕ) → Type 0
IsLodgerAt t h party = (m : ℕ × MutationRecord) × IsCurrent t h.mutations m × (m.1.lodger ≡ party)

-- the party is current at time t, or one of these
abbrev pub IsNamedAt : (t : ℤ) → History → (party : ℕ) → Type 0
IsNamedAt t h party = IsCurrentUnder t h.parties party
    ⊎ (IsMemberAt t h party ⊎ (IsPartyAt t h party ⊎ IsLodgerAt t h party))

-- A number that is not in use at time t sees only what each other number sees.
abbrev pub UnreferencedSeeLeast : Type 0
UnreferencedSeeLeast = (t : ℤ) (h : History) (party : ℕ) → ¬ IsNamedAt t h party
    → (ss : List Selection) (other number : ℕ)
    → AnySelects ss t h party number → AnySelects ss t h other number

-- a number that no party can have: zero, or a number above the greatest
abbrev pub IsNeverParty : (party : ℕ) → Type 0
IsNeverParty party = (party ≡ 0) ⊎ (1000000000 < party)

-- Numbers that no party can have see the same, so that one can replace the other in a query.
abbrev pub OutOfRangeSeeAlike : Type 0
OutOfRangeSeeAlike = (r : Register) (h : History) (t : ℤ) → IsSoundOrNothing r → IsRegisterAt t h r
    → (party other : ℕ) → IsNeverParty party → IsNeverParty other → (role : Role) (k : Kind) (number : ℕ)
    → AnySelects (selections_of role k) t h party number → AnySelects (selections_of role k) t h other number

-- increasing lists with the same numbers are equal
abbrev pub AscendingListsAreOne : Type 0
AscendingListsAreOne = (xs ys : List ℕ) → IsStrictlyIncreasing xs → IsStrictlyIncreasing ys
    → ((n : ℕ) → Contains xs n ↔ Contains ys n) → xs ≡ ys

-- The numbers of the selections, in increasing order and without repetition, are the list of visible numbers,
-- without mandates.
abbrev pub SelectedIsSeen : Type 0
SelectedIsSeen = (r : Register) (h : History) (t : ℤ) → IsSoundOrNothing r → IsRegisterAt t h r
    → (caller : Caller) (k : Kind) (listed : List ℕ)
    → IsStrictlyIncreasing listed → ((n : ℕ) → Contains listed n
    ↔ AnySelects (selections_of caller.role k) t h caller.party n)
    → listed ≡ seen_of (without_mandates r) caller k
