-- Laws on decisions: a party never decides on a mutation that it lodged.
use Rattle.std.specs.Prelude.{◌≡◌, ℕ, Bool, true, false, ◌&&◌, if◌then◌else◌}
use Rattle.land_core.specs.Register.{stands, holds}
use Rattle.land_core.specs.declared.act.Act.TheVariants.{Approve, Refuse}
use Rattle.land_core.specs.declared.ask.Ask.{Ask}
use Rattle.land_core.specs.declared.ask.Ask.TheVariants as ask
use Rattle.land_core.specs.declared.caller.Caller.{Caller}
use Rattle.land_core.specs.declared.kind.Kind.TheVariants as kind
use Rattle.land_core.specs.declared.register.Register.{Register}
use Rattle.land_core.specs.declared.role.Role.TheVariants.{StateAdministrator}
use Rattle.land_rules.specs.Relations.{has_lodged}
use Rattle.land_rules.specs.Rules.{is_allowed, verdict_of}
use Rattle.land_rules.specs.declared.verdict.Verdict.{Verdict}
use Rattle.land_rules.specs.declared.verdict.Verdict.TheVariants.{Allowed, Denied}

-- the request to approve a mutation
abbrev pub approve_request : ℕ → Ask
approve_request number = ask.Do (Approve (record { mutation = number }))

-- the request to refuse a mutation
abbrev pub refuse_request : ℕ → Ask
refuse_request number = ask.Do (Refuse (record { mutation = number }))

-- the caller is allowed neither decision on a mutation
pub record MayNotDecide (now at : Register) (caller : Caller) (number : ℕ) (past : Bool) : Type 0 where
  pub approval : is_allowed (verdict_of now at caller (approve_request number) past) ≡ false
  pub refusal : is_allowed (verdict_of now at caller (refuse_request number) past) ≡ false

-- a party that lodged a mutation may not decide on it, in any role
abbrev pub LodgersDoNotDecide : Type 0
LodgersDoNotDecide = (now at : Register) (caller : Caller) (number : ℕ) (past : Bool)
    → has_lodged now caller.party number ≡ true
    → MayNotDecide now at caller number past

-- a caller in the role of state administrator
abbrev pub administrator : ℕ → Caller
administrator party = record { party = party; role = StateAdministrator }

-- whether a party exists and holds this role now
abbrev pub is_registered_administrator : (now : Register) → (party : ℕ) → Bool
is_registered_administrator now party = stands now kind.Party party && holds now party StateAdministrator

-- the verdict on a decision of a state administrator: rule 10 if the party lodged the mutation, else allowed
abbrev pub decision_verdict : (now : Register) → (party number : ℕ) → Verdict
decision_verdict now party number = if has_lodged now party number then Denied 10 else Allowed

-- both decisions have exactly this verdict
pub record DecisionHasVerdict (now at : Register) (party number : ℕ) (past : Bool) : Type 0 where
  pub approval : verdict_of now at (administrator party) (approve_request number) past
      ≡ decision_verdict now party number
  pub refusal : verdict_of now at (administrator party) (refuse_request number) past
      ≡ decision_verdict now party number

-- a state administrator may decide on a mutation exactly if another party lodged it
abbrev pub AdministratorsDecideForOthers : Type 0
AdministratorsDecideForOthers =
    (now at : Register) (party number : ℕ) (past : Bool) → is_registered_administrator now party ≡ true
    → DecisionHasVerdict now at party number past
