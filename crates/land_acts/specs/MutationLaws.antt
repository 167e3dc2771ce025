-- Laws on mutations, stated only over the definitions: mutations are never lost, a repeat gets the first
-- receipt, and decisions are final.
use Rattle.std.specs.Prelude.{◌≡◌, ℕ, ◌+◌, false, Option, Some, Ok, ℤ}
use Rattle.std.specs.FinMap as map
use Rattle.land_acts.specs.Deciding.{decided_mutation}
use Rattle.land_acts.specs.Laws.{IsAccepted}
use Rattle.land_acts.specs.Lodging.{document_kind, new_mutation_record}
use Rattle.land_acts.specs.Outcome.{outcome_of}
use Rattle.land_acts.specs.declared.mutations.refusal.Planned.TheVariants.{New, Repeat}
use Rattle.land_core.specs.Changes.{after}
use Rattle.land_core.specs.Mutations.{is_undecided}
use Rattle.land_core.specs.Soundness.{IsSound}
use Rattle.land_core.specs.declared.act.Act.TheVariants.{Lodge}
use Rattle.land_core.specs.declared.act.Lodging.{Lodging}
use Rattle.land_core.specs.declared.caller.Caller.{Caller}
use Rattle.land_core.specs.declared.change.Change.{Change}
use Rattle.land_core.specs.declared.change.Done.{Done}
use Rattle.land_core.specs.declared.mutation.MutationRecord.{MutationRecord}
use Rattle.land_core.specs.declared.mutation.MutationState.{MutationState}
use Rattle.land_core.specs.declared.register.Register.{Register}

-- a mutation and its document exist, and only the state of the mutation may differ from the lodging
pub record ExistsAsLodged (r : Register) (caller : Caller) (it : Lodging) (source number : ℕ) (stamp : ℤ)
    : Type 0 where
  pub state : MutationState
  pub mutation : map.get r.mutations number
      ≡ Some (decided_mutation state (new_mutation_record caller it source stamp))
  pub document : map.get r.sources source
      ≡ Some (record { kind = document_kind it.content; title = it.document })

-- after a lodging, the mutation and its document exist under the next two numbers
abbrev pub LodgingsExist : Type 0
LodgingsExist = (r : Register) (caller : Caller) (it : Lodging) (stamp : ℤ) (change : Change) (done : Done)
    → outcome_of r caller (Lodge it) (Some stamp) ≡ Ok (New change done)
    → ExistsAsLodged (after change r) caller it r.next (r.next + 1) stamp

-- every accepted change preserves them
abbrev pub LodgingsStay : Type 0
LodgingsStay =
    (r : Register) (caller : Caller) (it : Lodging) (source number : ℕ) (lodged stamp : ℤ) (change : Change)
    → IsSound r → IsAccepted r change stamp
    → ExistsAsLodged r caller it source number lodged
    → ExistsAsLodged (after change r) caller it source number lodged

-- a repeat gets the first receipt, with or without a stamp, even if a refusal would apply
abbrev pub RepeatsGetTheFirstReceipt : Type 0
RepeatsGetTheFirstReceipt =
    (r later : Register) (caller : Caller) (it : Lodging) (stamp : ℤ) (now : Option ℤ) (change : Change)
    (done : Done)
    → outcome_of r caller (Lodge it) (Some stamp) ≡ Ok (New change done)
    → IsSound later → ExistsAsLodged later caller it r.next (r.next + 1) stamp
    → outcome_of later caller (Lodge it) now ≡ Ok (Repeat done)

-- no accepted change modifies a decided mutation
abbrev pub DecisionsStay : Type 0
DecisionsStay = (r : Register) (change : Change) (stamp : ℤ) (number : ℕ) (m : MutationRecord) → IsSound r
    → IsAccepted r change stamp
    → map.get r.mutations number ≡ Some m → is_undecided m ≡ false
    → map.get (after change r).mutations number ≡ Some m
