-- Preparing and finishing a request, or failing to, is a transition of the model.
use Rattle.std.proofs.Common.{◌≡◌, Bool, false, refl, sym, ap, ◌∙◌, subst, inl, inr, Option, Some, None, Result, Err}
use Rattle.std.specs.Prelude.{ℤ, ◌⊎◌, MatchOption}
use Rattle.std.proofs.lemmas.Bool.{false≢true}
use Rattle.land_core.specs.Numbers.{IsMoment}
use Rattle.land_core.specs.declared.ask.Request.{Request}
use Rattle.land_desk.specs.Responses.{HasValidMoment}
use Rattle.land_desk.specs.Serving.{ForwardSimulation, StepIfHonest, HandlesOr501}
use Rattle.land_keep.proofs.Steps.{finished_element}
use Rattle.land_keep.specs.Keeping.{IsStateOf, CommitsStep, SheetHasRequestedMoment, ReportsClosing, apply_pending}
use Rattle.land_keep.specs.Machine.{StepOrFault, State, at_of}
use Rattle.land_keep.specs.Timeline.{Timeline}
use Rattle.land_keep.specs.declared.prepared.Prepared.{Prepared}
use Rattle.land_keep.specs.declared.reply.Reply.{Reply}
use Rattle.land_keep.specs.declared.reply.Reply.TheVariants as reply
use Rattle.land_keep.specs.declared.view.View.{View}
use Rattle.land_wire.specs.Laws.{IsExplicitMoment}
use Rattle.land_wire_json.specs.Bodies.WireFaults.{fault_number}
use Rattle.land_wire_json.specs.declared.bodies.wire_fault.WireFault.{WireFault}

module _ {C : Type 0} (reads : C → ℤ → C → Type 0) (was_honest honest : Type 0) (before closed : Bool) (shown after : Timeline)
    (clock clock_after : C) (reading : ℤ) (q : Request) (rd : reads clock reading clock_after) where
  -- a reply with which nothing changes
  pub stays : (r : Reply) → ((tl : Timeline) → StepOrFault before reading q tl r tl closed) → ReportsClosing before r closed
      → (honest → was_honest) → (closed ≡ false → before ≡ false) → (honest → closed ≡ false → after ≡ shown)
      → ForwardSimulation (IsStateOf was_honest before shown clock) (IsStateOf honest closed after clock_after) (λ from to. StepIfHonest honest reads from q r to)
  stays r element tells was was_open same from at =
      let to : State C = record { closed = closed; timeline = from.timeline; clock = clock_after } in (
        to,
        (
          reading,
          subst (λ (c : C). reads c reading clock_after) (sym at.1) rd,
          subst (λ (b : Bool). ReportsClosing b r closed) (sym at.0) tells,
          λ trust. subst (λ (b : Bool). StepOrFault b reading q from.timeline r from.timeline closed) (sym at.0) (element from.timeline),
        ),
        (refl, refl, λ live. same live.0 live.1 ∙ at.2 (was live.0, was_open live.1)),
      )

  -- the reply of a keeper that stays open reports no closed store
  tells_open : (r : Reply) → before ≡ false → closed ≡ false → ReportsClosing before r closed
  tells_open r was is = subst (λ (b : Bool). ReportsClosing b r closed) (sym was) (λ shut. absurd (false≢true (sym is ∙ shut)))

  -- a transition of the model
  pub steps : (p : Prepared) → before ≡ false → closed ≡ false → (honest → was_honest)
      → (honest → CommitsStep p reading q shown) → (honest → after ≡ apply_pending p.writing shown)
      → ForwardSimulation (IsStateOf was_honest before shown clock) (IsStateOf honest closed after clock_after) (λ from to. StepIfHonest honest reads from q p.reply to)
  steps p was_open is_open was prepared written from at =
      let to : State C = record { closed = closed; timeline = apply_pending p.writing from.timeline; clock = clock_after } in
      let same : honest → shown ≡ from.timeline = λ trust. at.2 (was trust, was_open) in (
        to,
        (
          reading,
          subst (λ (c : C). reads c reading clock_after) (sym at.1) rd,
          subst (λ (b : Bool). ReportsClosing b p.reply closed) (sym at.0) (tells_open p.reply was_open is_open),
          λ trust. subst (λ (b : Bool). StepOrFault b reading q from.timeline p.reply (apply_pending p.writing from.timeline) closed) (sym at.0)
              (finished_element before closed reading q from.timeline p was_open is_open (subst (λ (tl : Timeline). CommitsStep p reading q tl) (same trust) (prepared trust))),
        ),
        (refl, refl, λ live. written live.0 ∙ ap (apply_pending p.writing) (same live.0)),
      )

-- the reply to a request that could not be parsed is its fault, or 501, and nothing changes
pub fault_reply : {C : Type 0} (step : State C → Request → Reply → State C → Type 0) (q : Result Request WireFault) (fault : WireFault) (wanted r : Reply) (from : State C)
    → q ≡ Err fault → wanted ≡ reply.Fault (fault_number fault) → (r ≡ wanted) ⊎ (r ≡ reply.Store 501) → HandlesOr501 step q from r from
fault_reply step q fault wanted r from is sent (inl e) = subst (λ (x : Result Request WireFault). HandlesOr501 step x from r from) (sym is) (inr (e ∙ sent, refl))
fault_reply step q fault wanted r from is sent (inr e) = inl (e, refl)

-- ---- a title sheet is of a valid moment

-- an explicit moment is valid
pub asked_has_moment : (at : Option ℤ) (view : View) → IsExplicitMoment at → MatchOption at (IsMoment view.at) (λ named. view.at ≡ named) → IsMoment view.at
asked_has_moment None view stated is = is
asked_has_moment (Some t) view stated is = subst IsMoment (sym is) stated

-- so is the moment of the reply
pub shown_has_moment : (request : Request) (r : Reply) → IsExplicitMoment (at_of request.ask) → SheetHasRequestedMoment request.ask r → HasValidMoment r
shown_has_moment request (reply.Object it) stated shows = tt
shown_has_moment request (reply.Numbers it) stated shows = tt
shown_has_moment request (reply.Sheet view) stated shows = asked_has_moment (at_of request.ask) view stated shows
shown_has_moment request (reply.Done it) stated shows = tt
shown_has_moment request (reply.Denied rule) stated shows = tt
shown_has_moment request (reply.Fault number) stated shows = tt
shown_has_moment request (reply.Refused number) stated shows = tt
shown_has_moment request (reply.Store number) stated shows = tt
