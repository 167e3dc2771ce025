-- The register machine: the reply to a request, and the timeline after it.
use Rattle.std.specs.Prelude.{◌≡◌, ℕ, Bool, true, false, List, [], ◌∷◌, ◌++◌, Option, Some, None, Result, Ok}
use Rattle.std.specs.Prelude.{Err, ℤ, int_lt, unwrap_or, ◌⊎◌, if◌then◌else◌}
use Rattle.land_acts.specs.Mutations.Planning.{refusal_number}
use Rattle.land_acts.specs.Outcome.{outcome_of}
use Rattle.land_acts.specs.declared.mutations.refusal.Planned.{Planned}
use Rattle.land_acts.specs.declared.mutations.refusal.Planned.TheVariants.{New, Repeat}
use Rattle.land_acts.specs.declared.mutations.refusal.Refusal.{Refusal}
use Rattle.land_core.specs.Changes.{after}
use Rattle.land_core.specs.Register.{object_at}
use Rattle.land_core.specs.declared.ask.Ask.{Ask}
use Rattle.land_core.specs.declared.ask.Ask.TheVariants as ask
use Rattle.land_core.specs.declared.ask.Request.{Request}
use Rattle.land_core.specs.declared.caller.Caller.{Caller}
use Rattle.land_core.specs.declared.change.Change.{Change}
use Rattle.land_core.specs.declared.kind.Kind.{Kind}
use Rattle.land_core.specs.declared.object.Object.{Object}
use Rattle.land_core.specs.declared.register.Register.{Register}
use Rattle.land_keep.specs.Moments.{now_after, stamp_after}
use Rattle.land_keep.specs.Sheets.{view_at}
use Rattle.land_keep.specs.Timeline.{Timeline, register_at, last_stamp, last_register}
use Rattle.land_keep.specs.declared.reply.Reply.{Reply}
use Rattle.land_keep.specs.declared.reply.Reply.TheVariants as reply
use Rattle.land_keep.specs.declared.view.View.{View}
use Rattle.land_rules.specs.Rules.{verdict_of, seen_of}
use Rattle.land_rules.specs.declared.verdict.Verdict.{Verdict}
use Rattle.land_rules.specs.declared.verdict.Verdict.TheVariants.{Allowed, Denied}

-- ---- moments

-- now, from a reading of the clock
abbrev pub now_of : ℤ → Timeline → ℤ
now_of clock tl = now_after clock (last_stamp tl)

abbrev pub stamp_of : ℤ → Timeline → Option ℤ
stamp_of clock tl = stamp_after clock (last_stamp tl)

-- the moment that a request states, if any
abbrev pub at_of : Ask → Option ℤ
at_of (ask.View k number at) = at
at_of (ask.List k at) = at
at_of (ask.Sheet unit at) = at
at_of (ask.Do it) = None

-- the requested moment: the stated one, else now
abbrev pub asked_moment : Ask → (now : ℤ) → ℤ
asked_moment a now = unwrap_or (at_of a) now

-- ---- one step

-- a reply, and the timeline after it
abbrev pub Next : Type 0
Next = Reply × Timeline

-- the reply with an object; denied by rule 27 if it does not exist
abbrev pub object_reply : Option Object → Reply
object_reply None = reply.Denied 27
object_reply (Some it) = reply.Object it

-- the reply to an allowed view; it depends only on the register at the requested moment
abbrev pub view_reply : (at : Register) → Kind → ℕ → Reply
view_reply at k number = object_reply (object_at at k number)

-- the reply with a sheet; denied by rule 27 if the unit does not exist
abbrev pub sheet_reply : Option View → Reply
sheet_reply None = reply.Denied 27
sheet_reply (Some it) = reply.Sheet it

-- the timeline with a change of the last register appended
abbrev pub written_timeline : Timeline → Change → ℤ → Timeline
written_timeline tl change stamp =
    tl ++ record { stamp = stamp; register = after change (last_register tl) } ∷ []

-- the result of an allowed act: a change applies from the stamp that its receipt states
abbrev pub outcome_next : Result Planned Refusal → Timeline → Next
outcome_next (Ok (New change done)) tl = (reply.Done done, written_timeline tl change done.stamp)
outcome_next (Ok (Repeat done)) tl = (reply.Done done, tl)
outcome_next (Err refusal) tl = (reply.Refused (refusal_number refusal), tl)

-- the result of an allowed request at moment t; an act reads only the last register
abbrev pub next_if_allowed : (clock : ℤ) → Caller → Ask → (t : ℤ) → Timeline → Next
next_if_allowed clock caller (ask.View k number at) t tl = (view_reply (register_at tl t) k number, tl)
next_if_allowed clock caller (ask.List k at) t tl = (reply.Numbers (seen_of (register_at tl t) caller k), tl)
next_if_allowed clock caller
    (ask.Sheet unit at) t tl = (sheet_reply (view_at (register_at tl t) caller unit t), tl)
next_if_allowed clock caller (ask.Do it) t tl = outcome_next
    (outcome_of (last_register tl) caller it (stamp_of clock tl)) tl

-- the result by verdict; a denied request changes nothing
abbrev pub next_by_verdict : Verdict → Next → Timeline → Next
next_by_verdict Allowed next tl = next
next_by_verdict (Denied rule) next tl = (reply.Denied rule, tl)

-- the verdict on a request at time `now`: standing rules read the last register, sight rules the one at the
-- requested moment
abbrev pub verdict_at : Timeline → Caller → Ask → (now : ℤ) → Verdict
verdict_at tl caller a now =
    verdict_of (last_register tl) (register_at tl (asked_moment a now)) caller a
    (int_lt (asked_moment a now) now)

-- one step: if the requested moment is in the future, fault 135; else the policy decides, and an allowed
-- request is performed
abbrev pub step : (clock : ℤ) → Request → Timeline → Next
step clock request tl =
    let now = now_of clock tl in
    let t = asked_moment request.ask now in
    if int_lt now t then (reply.Fault 135, tl)
    else next_by_verdict (verdict_at tl request.caller request.ask now)
    (next_if_allowed clock request.caller request.ask t tl) tl

-- ---- runs, in which the store may fail

-- one request: a step, or a store fault that changes nothing. 502 closes the store, and a closed store
-- replies only 503
abbrev pub StepOrFault : (closed : Bool) → ℤ → Request → Timeline → Reply → Timeline → (closed_after : Bool)
    → Type 0
StepOrFault true clock request tl r new closed = (r ≡ reply.Store 503) × (new ≡ tl) × (closed ≡ true)
StepOrFault false clock request tl r new closed =
    ((r ≡ (step clock request tl).0) × (new ≡ (step clock request tl).1) × (closed ≡ false))
    ⊎ ((r ≡ reply.Store 501) × (new ≡ tl) × (closed ≡ false))
    ⊎ ((r ≡ reply.Store 502) × (new ≡ tl) × (closed ≡ true))

-- a state of the machine with its clock
pub record State (C : Type 0) : Type 0 where
  pub closed : Bool
  pub timeline : Timeline
  pub clock : C

-- a run: the replies to requests in order, with one reading of the clock for each
abbrev pub Run : {C : Type 0} → (C → ℤ → C → Type 0) → State C → List Request → List Reply → State C → Type 0
Run reads from [] [] to = to ≡ from
Run {C} reads from (request ∷ requests) (r ∷ replies) to =
    (reading : ℤ) × (mid : State C) × reads from.clock reading mid.clock
    × StepOrFault from.closed reading request from.timeline r mid.timeline mid.closed
    × Run reads mid requests replies to
Run reads from [] (r ∷ replies) to = ⊥
Run reads from (request ∷ requests) [] to = ⊥
