-- Serving on a store that stays honest, and the part of it that holds even if the store was dishonest later.
use Rattle.std.proofs.Common.{◌≡◌, ℕ, ℤ, ◌+◌, List, [], ◌∷◌, inl, inr, Result, Ok, Err, Option, Some, None, IfSome}
use Rattle.std.specs.Io.KnownBytes.{prepend_known}
use Rattle.land_core.specs.declared.ask.Request.{Request}
use Rattle.land_desk.proofs.ServingLemmas.{begins, goes_on, nothing_done}
use Rattle.land_desk.specs.Serving.{AnswersItem, RepliesTo, ForwardSimulation, Exchange, ServesPrefix, StepOf, StepIfHonest, ServesAll, ServesByRun, ServesItem, Serves, ServesToSome, HasServed, HandlesOr501}
use Rattle.land_desk.specs.Serving.Asking.{IfBoth}
use Rattle.land_desk.proofs.KnownNext.{ServesKnown}
use Rattle.land_desk.specs.declared.serve.DeskFault.{DeskFault}
use Rattle.land_desk.specs.declared.serve.DeskFault.TheVariants as desk
use Rattle.land_desk.specs.declared.serve.Served.{Served}
use Rattle.land_desk.specs.declared.next_item.AfterItem.{AfterItem}
use Rattle.land_desk.specs.declared.next_item.AfterItem.TheVariants as next_item
use Rattle.land_keep.specs.Machine.{State}
use Rattle.land_keep.specs.declared.reply.Reply.{Reply}
use Rattle.land_wire.specs.Fields.{field_map}
use Rattle.land_wire.specs.Framing.Frame.{header_fields}
use Rattle.land_wire.specs.Framing.Items.{Item, request, faulty}
use Rattle.land_wire.specs.Reading.{request_reading}
use Rattle.land_wire_json.specs.declared.bodies.wire_fault.WireFault.{WireFault}

-- a condition that assumes an honest store holds if the store is honest later
pub step_later : {C : Type 0} (reads : C → ℤ → C → Type 0) (honest later : Type 0) → (later → honest)
    → (from : State C) (asked : Request) (r : Reply) (to : State C) → StepIfHonest honest reads from asked r to → StepIfHonest later reads from asked r to
step_later reads honest later was from asked r to h = (h.0, h.1, h.2, λ trust. h.3 (was trust))

-- a transition on an honest store is an element of a run
step_honestly : {C : Type 0} (reads : C → ℤ → C → Type 0) (honest : Type 0) → honest
    → (from : State C) (asked : Request) (r : Reply) (to : State C) → StepIfHonest honest reads from asked r to → StepOf reads from asked r to
step_honestly reads honest trust from asked r to h = (h.0, h.1, h.3 trust)

-- ---- weaker transitions

module _ {C : Type 0} (step later : State C → Request → Reply → State C → Type 0)
    (weaken : (from : State C) (asked : Request) (r : Reply) (to : State C) → step from asked r to → later from asked r to) where
  told_later : (q : Result Request WireFault) (from : State C) (r : Reply) (to : State C) → HandlesOr501 step q from r to → HandlesOr501 later q from r to
  told_later (Err fault) from r to (inl none) = inl none
  told_later (Err fault) from r to (inr heard) = inr heard
  told_later (Ok asked) from r to (inl none) = inl none
  told_later (Ok asked) from r to (inr heard) = inr (weaken from asked r to heard)

  answers_later : (from : State C) (item : Item) (r : Reply) (to : State C) → RepliesTo step from item r to → RepliesTo later from item r to
  answers_later from (request h body) r to is = told_later (request_reading h.method h.target (field_map (header_fields h)) body) from r to is
  answers_later from (faulty f) r to is = is

  one_later : (bytes : List ℕ) (from : State C) (x : Exchange) (rest : List ℕ) (to : State C) → ServesItem step bytes from x rest to → ServesItem later bytes from x rest to
  one_later bytes from x rest to one = (one.0, answers_later from x.item x.reply to one.1, one.2)

  goes_later : (bytes : List ℕ) (from : State C) (xs : List Exchange) (rest : List ℕ) (to : State C) → ServesPrefix step bytes from xs rest to → ServesPrefix later bytes from xs rest to
  goes_later bytes from [] rest to so = so
  goes_later bytes from (x ∷ xs) rest to so =
      (so.0, so.1, one_later bytes from x so.0 so.1 so.2, so.3, goes_later so.0 so.1 xs rest to so.4)

  so_far_later : (bytes rest : List ℕ) (from to : State C) (old new : Option (List ℕ)) (n : ℕ) → HasServed step bytes rest from to old new n → HasServed later bytes rest from to old new n
  so_far_later bytes rest from to old new n so = (so.0, goes_later bytes from so.0 rest to so.1, so.2, so.3)

  served_later : (bytes : List ℕ) (from : State C) (xs : List Exchange) (to : State C) → ServesAll step bytes from xs to → ServesAll later bytes from xs to
  served_later bytes from [] to s = s
  served_later bytes from (x ∷ xs) to s =
      (s.0, s.1, one_later bytes from x s.0 s.1 s.2, s.3, λ e. served_later s.0 s.1 xs to (s.4 e))

  serves_later : (bytes : List ℕ) (from to : State C) (old new : Option (List ℕ)) (result : Result Served DeskFault)
      → Serves step bytes from to old new result → Serves later bytes from to old new result
  serves_later bytes from to old new (Ok served) s = (s.0, served_later bytes from s.0 to s.1, s.2, s.3)
  serves_later bytes from to old new (Err desk.Write) s =
      (s.0, s.1, s.2, s.3, s.4, s.5, goes_later bytes from s.0 s.2 s.4 s.6, one_later s.2 s.4 s.1 s.3 to s.7, s.8)
  serves_later bytes from to old new (Err desk.Read) s = (s.0, s.1, so_far_later bytes s.0 from to old new s.1 s.2)
  serves_later bytes from to old new (Err desk.NoMemory) s = (s.0, s.1, so_far_later bytes s.0 from to old new s.1 s.2)

  -- ---- serving from a state represented before to one represented after

  module _ (stood stands : State C → Type 0) (from : State C) where
    both_map : (start after : Option (List ℕ)) (P Q : List ℕ → List ℕ → Type 0) → ((bytes rest : List ℕ) → P bytes rest → Q bytes rest) → IfBoth start after P → IfBoth start after Q
    both_map None after P Q next holds = tt
    both_map (Some bytes) None P Q next holds = absurd holds
    both_map (Some bytes) (Some rest) P Q next holds = next bytes rest holds

    -- the connection stays open
    pub keeps_on : (start before after w u v : Option (List ℕ)) (n : ℕ) (t : AfterItem) → t ≡ next_item.KeepAlive
        → IfBoth start before (λ bytes rest. (now : State C) × HasServed step bytes rest from now w u n × stood now)
        → IfSome before (λ rest. ForwardSimulation stood stands (λ now to. ServesKnown later rest now to after u v (Ok t)))
        → IfBoth start after (λ bytes rest. (to : State C) × HasServed later bytes rest from to w v (n + 1) × stands to)
    keeps_on None before after w u v n t is so brings = tt
    keeps_on (Some bytes) None after w u v n t is so brings = absurd so
    keeps_on (Some bytes) (Some rest) after w u v n t is so brings =
        let next = brings so.0 so.2 in
        both_map (Some bytes) after (λ bytes rest. HasServed later bytes rest from next.0 w v (n + 1)) (λ bytes rest. (to : State C) × HasServed later bytes rest from to w v (n + 1) × stands to)
        (λ bytes rest goes. (next.0, goes, next.2))
        (goes_on later (Some bytes) (Some rest) after from so.0 next.0 w u v n t is (so_far_later bytes rest from so.0 w u n so.1) next.1)

    -- an item after which nothing is served
    pub comes_to : (start before w u v : Option (List ℕ)) (n : ℕ) (result : Result Served DeskFault) (way : List ℕ → State C → State C → Type 0)
        → ((now to : State C) → IfBoth start before (λ bytes rest. HasServed later bytes rest from now w u n) → IfSome before (λ rest. way rest now to)
        → IfSome start (λ bytes. Serves later bytes from to w v result))
        → IfBoth start before (λ bytes rest. (now : State C) × HasServed step bytes rest from now w u n × stood now)
        → IfSome before (λ rest. ForwardSimulation stood stands (way rest))
        → IfSome start (λ bytes. ServesToSome later bytes from stands w v result)
    comes_to None before w u v n result way concludes so brings = tt
    comes_to (Some bytes) None w u v n result way concludes so brings = absurd so
    comes_to (Some bytes) (Some rest) w u v n result way concludes so brings =
        let next = brings so.0 so.2 in
        (next.0, concludes so.0 next.0 (so_far_later bytes rest from so.0 w u n so.1) next.1, next.2)

-- ---- serving that has not started, and serving that ended

module _ {C : Type 0} (step : State C → Request → Reply → State C → Type 0) (stands : State C → Type 0) (from : State C) where
  pub comes_to_nothing : (known w : Option (List ℕ)) → stands from → IfSome known (λ bytes. ServesToSome step bytes from stands w w (Err desk.NoMemory))
  comes_to_nothing None w at = tt
  comes_to_nothing (Some bytes) w at = (from, nothing_done step (Some bytes) w from, at)

  pub starts : (known : Option (List ℕ)) (buffer : List ℕ) (w : Option (List ℕ)) → stands from → buffer ≡ []
      → IfBoth known (prepend_known buffer known) (λ bytes rest. (now : State C) × HasServed step bytes rest from now w w 0 × stands now)
  starts None buffer w at none = tt
  starts (Some bytes) buffer w at none = (from, begins step (Some bytes) buffer from w none, at)

-- on an honest store, serving is a run of the model
pub serves_honestly : {C : Type 0} (reads : C → ℤ → C → Type 0) (honest : Type 0) → honest
    → (bytes : List ℕ) (from to : State C) (old new : Option (List ℕ)) (result : Result Served DeskFault)
    → Serves (StepIfHonest honest reads) bytes from to old new result → ServesByRun reads bytes from to old new result
serves_honestly reads honest trust bytes from to old new result s =
    serves_later (StepIfHonest honest reads) (StepOf reads) (step_honestly reads honest trust) bytes from to old new result s

-- on an honest store, an item is answered by the model
pub answers_honestly : {C : Type 0} (reads : C → ℤ → C → Type 0) (honest : Type 0) → honest
    → (from : State C) (x : Exchange) (to : State C) → AnswersItem (StepIfHonest honest reads) from x to → AnswersItem (StepOf reads) from x to
answers_honestly reads honest trust from x to answers =
    (answers_later (StepIfHonest honest reads) (StepOf reads) (step_honestly reads honest trust) from x.item x.reply to answers.0, answers.1)
