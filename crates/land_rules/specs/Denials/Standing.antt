-- The evidence: the records that the standing rules read.
use Rattle.std.specs.Prelude.{◌≡◌, ℕ, Bool, Option, None, Some, IfSome, nat_eq}
use Rattle.std.specs.FinMap as map
use Rattle.std.specs.FinMap.{FinMap}
use Rattle.std.specs.Ordering.{nat_cmp}
use Rattle.land_core.specs.Entries.{entries_where}
use Rattle.land_core.specs.Grants.{Grants}
use Rattle.land_core.specs.Register.{empty_register, stands, holds}
use Rattle.land_core.specs.declared.act.Act.{Act}
use Rattle.land_core.specs.declared.act.Act.TheVariants as act
use Rattle.land_core.specs.declared.ask.Ask.{Ask}
use Rattle.land_core.specs.declared.ask.Ask.TheVariants as ask
use Rattle.land_core.specs.declared.caller.Caller.{Caller}
use Rattle.land_core.specs.declared.content.Content.{Content}
use Rattle.land_core.specs.declared.content.Content.TheVariants as content
use Rattle.land_core.specs.declared.kind.Kind.TheVariants as kind
use Rattle.land_core.specs.declared.mutation.MutationRecord.{MutationRecord}
use Rattle.land_core.specs.declared.party.PartyRecord.{PartyRecord}
use Rattle.land_core.specs.declared.register.Register.{Register}
use Rattle.land_core.specs.declared.rrr.RrrRecord.{RrrRecord}
use Rattle.land_rules.specs.Rules.{first_denial, standing_rules}

-- the entry to which a discharge refers
abbrev pub entry_of_content : Content → Option ℕ
entry_of_content (content.Transfer it) = None
entry_of_content (content.Subdivision it) = None
entry_of_content (content.Merger it) = None
entry_of_content (content.Mortgage it) = None
entry_of_content (content.Discharge it) = Some it.mortgage

-- the same for an act
abbrev pub entry_of_act : Act → Option ℕ
entry_of_act (act.Enrol it) = None
entry_of_act (act.Group it) = None
entry_of_act (act.Regroup it) = None
entry_of_act (act.Grant it) = None
entry_of_act (act.Revoke it) = None
entry_of_act (act.Mandate it) = None
entry_of_act (act.Withdraw it) = None
entry_of_act (act.Register it) = None
entry_of_act (act.Burden it) = None
entry_of_act (act.Lift it) = None
entry_of_act (act.Lodge it) = entry_of_content it.content
entry_of_act (act.Approve it) = None
entry_of_act (act.Refuse it) = None

-- the mutation that an act approves or refuses
abbrev pub mutation_of_act : Act → Option ℕ
mutation_of_act (act.Enrol it) = None
mutation_of_act (act.Group it) = None
mutation_of_act (act.Regroup it) = None
mutation_of_act (act.Grant it) = None
mutation_of_act (act.Revoke it) = None
mutation_of_act (act.Mandate it) = None
mutation_of_act (act.Withdraw it) = None
mutation_of_act (act.Register it) = None
mutation_of_act (act.Burden it) = None
mutation_of_act (act.Lift it) = None
mutation_of_act (act.Lodge it) = None
mutation_of_act (act.Approve it) = Some it.mutation
mutation_of_act (act.Refuse it) = Some it.mutation

-- the entry that a request would discharge; a request that only reads has none
abbrev pub entry_of_ask : Ask → Option ℕ
entry_of_ask (ask.View k number moment) = None
entry_of_ask (ask.List k moment) = None
entry_of_ask (ask.Sheet unit moment) = None
entry_of_ask (ask.Do it) = entry_of_act it

-- the mutation that a request would decide; a request that only reads has none
abbrev pub mutation_of_ask : Ask → Option ℕ
mutation_of_ask (ask.View k number moment) = None
mutation_of_ask (ask.List k moment) = None
mutation_of_ask (ask.Sheet unit moment) = None
mutation_of_ask (ask.Do it) = mutation_of_act it

-- evidence is sufficient for a request if it agrees with the register on the caller, on the role that it
-- claims, on the entry that it would discharge and on the mutation that it would decide
pub record IsEnough (evidence now : Register) (caller : Caller) (a : Ask) : Type 0 where
  pub party : stands evidence kind.Party caller.party ≡ stands now kind.Party caller.party
  pub role : holds evidence caller.party caller.role ≡ holds now caller.party caller.role
  pub entry : IfSome (entry_of_ask a) (λ n. map.get evidence.rrrs n ≡ map.get now.rrrs n)
  pub mutation : IfSome (mutation_of_ask a) (λ n. map.get evidence.mutations n ≡ map.get now.mutations n)

-- from sufficient evidence, the first standing rule that denies is the same as from the whole register
abbrev pub EvidenceIsEnough : Type 0
EvidenceIsEnough =
    (evidence now : Register) (caller : Caller) (a : Ask) (past : Bool) → IsEnough evidence now caller a
    → first_denial (standing_rules evidence caller a past) ≡ first_denial (standing_rules now caller a past)

-- a map that has at most one record, under its number
abbrev pub at_most_one : {V : Type 0} → Option ℕ → Option V → FinMap nat_cmp V
at_most_one None found = map.empty
at_most_one (Some n) None = map.empty
at_most_one (Some n) (Some value) = map.insert map.empty n value

-- the evidence that consists of exactly these records
abbrev pub evidence_of : Caller → Ask → Option PartyRecord → Grants → Option RrrRecord → Option MutationRecord
    → Register
evidence_of caller a party roles entry mutation = record empty_register {
  parties = at_most_one (Some caller.party) party;
  roles = roles;
  rrrs = at_most_one (entry_of_ask a) entry;
  mutations = at_most_one (mutation_of_ask a) mutation;
}

-- the records are the register's: the caller with its roles, and the entry and the mutation to which the
-- request refers
pub record AreLookupResults (now : Register) (caller : Caller) (a : Ask) (party : Option PartyRecord)
    (roles : Grants) (entry : Option RrrRecord) (mutation : Option MutationRecord) : Type 0 where
  pub party_is : party ≡ map.get now.parties caller.party
  pub roles_are : roles ≡ entries_where (λ grant u. nat_eq grant.party caller.party) now.roles
  pub entry_is : IfSome (entry_of_ask a) (λ n. entry ≡ map.get now.rrrs n)
  pub mutation_is : IfSome (mutation_of_ask a) (λ n. mutation ≡ map.get now.mutations n)

-- evidence from such records is sufficient
abbrev pub LookupsAreEnough : Type 0
LookupsAreEnough =
    (now : Register) (caller : Caller) (a : Ask) (party : Option PartyRecord) (roles : Grants)
    (entry : Option RrrRecord) (mutation : Option MutationRecord)
    → AreLookupResults now caller a party roles entry mutation
    → IsEnough (evidence_of caller a party roles entry mutation) now caller a
