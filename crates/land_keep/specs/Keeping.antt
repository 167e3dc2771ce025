-- Preconditions and faults of a keeper, and replies that are prepared for requests.
use Rattle.std.specs.Prelude.{◌≡◌, Bool, true, false, List, Option, Some, None, Result, Ok, Err, ℤ, ◌<ℤ◌}
use Rattle.std.specs.Prelude.{◌≤ℤ◌, MatchOption}
use Rattle.land_acts.specs.Laws.{IsAccepted}
use Rattle.land_acts.specs.Mutations.Planning.{refusal_number}
use Rattle.land_acts.specs.declared.mutations.refusal.Planned.{Planned}
use Rattle.land_acts.specs.declared.mutations.refusal.Planned.TheVariants.{New, Repeat}
use Rattle.land_acts.specs.declared.mutations.refusal.Refusal.{Refusal}
use Rattle.land_core.specs.Numbers.{IsMoment, last_moment}
use Rattle.land_core.specs.declared.ask.Ask.{Ask}
use Rattle.land_core.specs.declared.ask.Request.{Request}
use Rattle.land_core.specs.declared.change.Change.{Change}
use Rattle.land_keep.specs.Machine.{StepOrFault, Next, Run, State, at_of, step, written_timeline}
use Rattle.land_keep.specs.Timeline.{Timeline, last_stamp, last_register}
use Rattle.land_keep.specs.declared.prepared.Prepared.{Prepared}
use Rattle.land_keep.specs.declared.prepared.Writing.{Writing}
use Rattle.land_keep.specs.declared.reply.Reply.{Reply}
use Rattle.land_keep.specs.declared.reply.Reply.TheVariants as reply
use Rattle.land_keep.specs.declared.store_fault.StoreFault.{StoreFault}
use Rattle.land_keep.specs.declared.store_fault.StoreFault.TheVariants.{NoMemory, Store, Closed}
use Rattle.land_keep.specs.declared.view.View.{View}

-- a failed store operation closes a keeper, running out of memory does not, and a closed keeper returns only
-- `Closed`
abbrev pub Closes : {T : Type 0} → (before after : Bool) → Result T StoreFault → Type 0
Closes true after (Ok x) = ⊥
Closes true after (Err fault) = (fault ≡ Closed) × (after ≡ true)
Closes false after (Ok x) = after ≡ false
Closes false after (Err NoMemory) = after ≡ false
Closes false after (Err Store) = after ≡ true
Closes false after (Err Closed) = ⊥

-- a keeper shows its timeline if its store is honest and open
abbrev pub IsHonestAndOpen : (honest : Type 0) → (closed : Bool) → Type 0
IsHonestAndOpen honest closed = honest × (closed ≡ false)

-- a change can be written if its stamp is a moment after the last one and an act makes it on the last
-- register
pub record CanWrite (tl : Timeline) (change : Change) (stamp : ℤ) : Type 0 where
  pub moment : stamp ≤ℤ last_moment
  pub later : last_stamp tl <ℤ stamp
  pub made : IsAccepted (last_register tl) change stamp

-- ---- prepared replies

abbrev pub apply_pending : Option Writing → Timeline → Timeline
apply_pending None tl = tl
apply_pending (Some w) tl = written_timeline tl w.change w.stamp

-- a prepared reply can be finished on a timeline
abbrev pub CanFinish : Prepared → Timeline → Type 0
CanFinish p tl = MatchOption p.writing (Unit {0}) (λ w. CanWrite tl w.change w.stamp)

-- finishing a prepared reply yields this reply and this timeline
pub record Commits (p : Prepared) (next : Next) (tl : Timeline) : Type 0 where
  pub reply : p.reply ≡ next.0
  pub timeline : apply_pending p.writing tl ≡ next.1
  pub can_finish : CanFinish p tl

-- finishing the reply prepared for a request yields the machine's step
abbrev pub CommitsStep : Prepared → ℤ → Request → Timeline → Type 0
CommitsStep p clock request tl = Commits p (step clock request tl) tl

-- the reply prepared for the outcome of an act
abbrev pub prepared_of : Result Planned Refusal → Prepared
prepared_of (Ok (New change done)) =
    record { reply = reply.Done done; writing = Some (record { change = change; stamp = done.stamp }) }
prepared_of (Ok (Repeat done)) = record { reply = reply.Done done; writing = None }
prepared_of (Err refusal) = record { reply = reply.Refused (refusal_number refusal); writing = None }

-- ---- the moment of a sheet

-- a property of a reply's sheet, if the reply is one
abbrev pub IfSheet : Reply → (View → Type 0) → Type 0
IfSheet (reply.Object it) P = Unit {0}
IfSheet (reply.Numbers it) P = Unit {0}
IfSheet (reply.Sheet view) P = P view
IfSheet (reply.Done it) P = Unit {0}
IfSheet (reply.Denied rule) P = Unit {0}
IfSheet (reply.Fault number) P = Unit {0}
IfSheet (reply.Refused number) P = Unit {0}
IfSheet (reply.Store number) P = Unit {0}

-- a sheet has this moment
abbrev pub SheetHasMoment : ℤ → Reply → Type 0
SheetHasMoment t r = IfSheet r (λ view. view.at ≡ t)

-- a sheet has the moment that the request states, or else a valid moment
abbrev pub SheetHasRequestedMoment : Ask → Reply → Type 0
SheetHasRequestedMoment a r = IfSheet r
    (λ view. MatchOption (at_of a) (IsMoment view.at) (λ named. view.at ≡ named))

-- ---- replies and runs

-- a closed store replies 503 and stays closed; an open one is closed only with reply 502
abbrev pub ReportsClosing : (closed : Bool) → Reply → (closed_after : Bool) → Type 0
ReportsClosing true r closed_after = (r ≡ reply.Store 503) × (closed_after ≡ true)
ReportsClosing false r closed_after = closed_after ≡ true → r ≡ reply.Store 502

-- a request is answered by an element, and the keeper then shows the element's timeline, unless it is closed
abbrev pub AnswersByStep : (closed : Bool) → ℤ → Request → Timeline → Reply → (shown : Timeline)
    → (closed_after : Bool) → Type 0
AnswersByStep closed clock request tl r shown closed_after =
    (new : Timeline) × StepOrFault closed clock request tl r new closed_after
    × (closed_after ≡ false → shown ≡ new)

-- the abstraction relation: closed and clock are the state's, and so is the timeline if the keeper is honest
-- and open
abbrev pub IsStateOf : {C : Type 0} → (honest : Type 0) → (closed : Bool) → (shown : Timeline) → (clock : C)
    → State C → Type 0
IsStateOf honest closed shown clock state =
    (state.closed ≡ closed) × (state.clock ≡ clock) × (IsHonestAndOpen honest closed → shown ≡ state.timeline)

-- replies are a run of the machine from a state to one that the keeper represents
abbrev pub RunsToState : {C : Type 0} → (C → ℤ → C → Type 0) → State C → List Request → List Reply
    → (honest : Type 0) → (closed : Bool) → (shown : Timeline) → (clock : C) → Type 0
RunsToState {C} reads from requests replies honest closed shown clock =
    (to : State C) × Run reads from requests replies to × IsStateOf honest closed shown clock to
