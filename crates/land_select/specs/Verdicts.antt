-- Verdicts on callers and requests.
use Rattle.std.specs.FinMap as map
use Rattle.std.specs.FinMap.{FinMap}
use Rattle.std.specs.Ordering.{nat_cmp}
use Rattle.std.specs.Prelude.{◌≡◌, ◌&&◌, ℕ, ℤ, Bool, true, false, nat_eq, [], None, Some, Option}
use Rattle.std.specs.Prelude.{option_and_then, is_some, if◌then◌else◌}
use Rattle.land_core.specs.Entries.{entries_where}
use Rattle.land_core.specs.Grants.{Grants, grant_to, has_grant}
use Rattle.land_core.specs.Numbers.{last_moment}
use Rattle.land_core.specs.Register.{holds, stands}
use Rattle.land_core.specs.declared.ask.Ask.{Ask}
use Rattle.land_core.specs.declared.ask.Ask.TheVariants as ask
use Rattle.land_core.specs.declared.caller.Caller.{Caller}
use Rattle.land_core.specs.declared.kind.Kind.TheVariants as kind
use Rattle.land_core.specs.declared.kind.PartyKind.TheVariants.{NaturalPerson}
use Rattle.land_core.specs.declared.mutation.MutationRecord.{MutationRecord}
use Rattle.land_core.specs.declared.party.PartyRecord.{PartyRecord}
use Rattle.land_core.specs.declared.register.Register.{Register}
use Rattle.land_rules.specs.Denials.Standing.{IsEnough, mutation_of_ask}
use Rattle.land_rules.specs.Laws.{IsSoundOrNothing}
use Rattle.land_rules.specs.Rules.{first_denial, sees_only_present, standing_rules, verdict_of}
use Rattle.land_rules.specs.declared.verdict.Verdict.{Verdict}
use Rattle.land_rules.specs.declared.verdict.Verdict.TheVariants.{Allowed, Denied}
use Rattle.land_select.specs.Cache.{IsMutationValue, IsValueFor, IsValueOf}
use Rattle.land_select.specs.KnownRoles.{HoldsRoleIf}
use Rattle.land_select.specs.declared.cache.CachedValue.{CachedValue}
use Rattle.land_select.specs.declared.cache.CachedValue.TheVariants as found
use Rattle.land_select_queries.specs.Joins.Execution.{HoldsOfHistory}
use Rattle.land_tables_history.specs.History.{IsRegisterAt}
use Rattle.sqlite_trees.specs.Tree.{Trees}

-- the record of a number, if there is a number
abbrev pub record_at : {V : Type 0} → FinMap nat_cmp V → Option ℕ → Option V
record_at m number = option_and_then (map.get m) number

-- the roles of a party
abbrev pub roles_in : Register → (party : ℕ) → Grants
roles_in r party = entries_where (λ grant u. nat_eq grant.party party) r.roles

-- a party with an empty name, if it exists; the standing rules use neither its name nor its kind
abbrev pub placeholder_party : Bool → Option PartyRecord
placeholder_party there = if there then Some (record { kind = NaturalPerson; name = [] }) else None

-- whether a request only reads
abbrev pub is_read : Ask → Bool
is_read (ask.View k n at) = true
is_read (ask.List k at) = true
is_read (ask.Sheet unit at) = true
is_read (ask.Do it) = false

-- the verdict of the standing rules on a request that only reads, of a caller that holds the role that it
-- claims: rule 3
abbrev pub holder_verdict : Caller → (past : Bool) → Verdict
holder_verdict caller past = if past && sees_only_present caller then Denied 3 else Allowed

-- a caller exists exactly if this is true, and holds the role that it claims exactly if these roles have it
pub record IsOfCaller (r : Register) (caller : Caller) (there : Bool) (roles : Grants) : Type 0 where
  pub party : there ≡ stands r kind.Party caller.party
  pub role : has_grant roles (grant_to caller.party caller.role) ≡ holds r caller.party caller.role

-- If the tables hold a history that at time t represents a register, sound or empty, in which a caller that
-- is known to hold the role that it claims does so: whether the caller exists, and roles that decide if it
-- holds that role.
abbrev pub IsCallerWithRoles : Caller → (is_held : Bool) → (t : ℤ) → Trees → Bool × Grants → Type 0
IsCallerWithRoles caller is_held t db it = HoldsOfHistory db (λ h. (r : Register) → IsSoundOrNothing r
    → IsRegisterAt t h r → HoldsRoleIf is_held r caller → IsOfCaller r caller it.0 it.1)

-- the same for the evidence of a request
abbrev pub IsEvidence : Caller → (is_held : Bool) → Ask → (t : ℤ) → Trees → Register → Type 0
IsEvidence caller is_held a t db it = HoldsOfHistory db (λ h. (r : Register) → IsSoundOrNothing r
    → IsRegisterAt t h r → HoldsRoleIf is_held r caller → IsEnough it r caller a)

-- the mutations of the evidence as a cached value, if the request decides one of them
abbrev pub cached_mutations : Ask → FinMap nat_cmp MutationRecord → CachedValue
cached_mutations a mutations = if is_some (mutation_of_ask a) then found.Mutations mutations else found.Nothing

-- what is cached while the standing rules are decided: the mutation that the request decides, if it decides
-- one; else nothing
abbrev pub IsDecidedValue : Register → Caller → (mutation : Option ℕ) → CachedValue → Type 0
IsDecidedValue r caller None it = it ≡ found.Nothing
IsDecidedValue r caller (Some n) it = IsValueOf r caller kind.Mutation n it

-- If the tables hold a history that at time t represents a register, sound or empty, in which a caller that
-- is known to hold the role that it claims does so: the verdict of the standing rules, with the cached value.
abbrev pub IsStandingVerdictWith : Caller → (is_held : Bool) → Ask → (past : Bool) → (t : ℤ) → Trees
    → Verdict × CachedValue → Type 0
IsStandingVerdictWith caller is_held a past t db it = HoldsOfHistory db (λ h. (r : Register)
    → IsSoundOrNothing r → IsRegisterAt t h r → HoldsRoleIf is_held r caller
    → (it.0 ≡ first_denial (standing_rules r caller a past)) × IsDecidedValue r caller (mutation_of_ask a) it.1)

-- If the tables hold a history, the verdict is the one on the request, by the register at the last moment and
-- the register at time t, each sound or empty. The cached value is correct in the latter for the requested
-- object, and in the former for the mutation that the request decides. A caller that is known to hold the
-- role that it claims does so at the last moment.
abbrev pub IsVerdictWith : Caller → (is_held : Bool) → Ask → (past : Bool) → (t : ℤ) → Trees
    → Verdict × CachedValue → Type 0
IsVerdictWith caller is_held a past t db it =
    HoldsOfHistory db (λ h. (now at : Register) → IsSoundOrNothing now → IsSoundOrNothing at
    → IsRegisterAt last_moment h now → IsRegisterAt t h at → HoldsRoleIf is_held now caller
    → (it.0 ≡ verdict_of now at caller a past) × IsValueFor at caller a it.1
    × IsMutationValue now caller (mutation_of_ask a) it.1)
