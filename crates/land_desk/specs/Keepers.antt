-- Contracts of serving, as relations between a keeper and a clock before a call and after it.
use Rattle.std.specs.Prelude.{ℕ, ℤ, Bool, List, ◌++◌, drop, Option, Result, Ok, IfSome}
use Rattle.land_core.specs.declared.ask.Request.{Request}
use Rattle.land_desk.specs.Serving.{Handles, HandlesOr501, StepIfHonest, ReachesSome, ServesToSome}
use Rattle.land_desk.specs.Turns.{IsResponseTo, ServesNext, AnswersFirst}
use Rattle.land_desk.specs.declared.handler.Response.{Response}
use Rattle.land_desk.specs.declared.serve.DeskFault.{DeskFault}
use Rattle.land_desk.specs.declared.serve.Served.{Served}
use Rattle.land_desk.specs.declared.next_item.AfterItem.{AfterItem}
use Rattle.land_keep.specs.Keepers.{Represents, Simulates, state_of}
use Rattle.land_keep.specs.Machine.{State}
use Rattle.land_keep.specs.declared.keeper.Keeper.{Ghosts}
use Rattle.land_keep.specs.declared.reply.Reply.{Reply}
use Rattle.land_wire_json.specs.Bodies.WireFaults.{Returns}
use Rattle.land_wire_json.specs.declared.bodies.wire_fault.WireFault.{WireFault}

-- The response is the one for a reply, and the model makes the transition that belongs to the reply.
abbrev pub RespondsBy : {C : Type 0} → (transition : State C → Reply → State C → Type 0)
    → Response → (wants_close head : Bool) → State C → State C → Type 0
RespondsBy transition response wants_close head from to =
    (r : Reply) × transition from r to × IsResponseTo response r wants_close head

module _ {K C : Type 0} (g : Ghosts K) (reads : C → ℤ → C → Type 0) where
  -- The bytes written are the responses to the items of the input, in order, by transitions of the model.
  abbrev pub ServesStream : (keeper : K) → (clock : C) → (after : K) → (late : C)
      → (input old new : Option (List ℕ)) → Result Served DeskFault → Type 0
  ServesStream keeper clock after late input old new result =
      IfSome input (λ bytes. ServesToSome (StepIfHonest (g.honest after) reads) bytes
      (state_of g keeper clock) (Represents g after late) old new result)

  -- The model reaches a state that the keeper and the clock represent after the call, by requests only.
  abbrev pub Reaches : (keeper : K) → (clock : C) → (after : K) → (late : C) → Type 0
  Reaches keeper clock after late =
      ReachesSome (StepIfHonest (g.honest after) reads) (state_of g keeper clock) (Represents g after late)

  -- The first item of the input is served by at most one transition of the model, and `left` is the input
  -- behind it.
  abbrev pub ServesFirst : (keeper : K) → (clock : C) → (after : K) → (late : C)
      → (input left old new : Option (List ℕ)) → Result AfterItem DeskFault → Type 0
  ServesFirst keeper clock after late input left old new result = Simulates g keeper clock after late
      (λ from to. ServesNext (StepIfHonest (g.honest after) reads) input left from to old new result)

  -- The response is the one for the request of `size` bytes at the start of the bytes, no matter which bytes
  -- follow.
  abbrev pub AnswersRequest : (keeper : K) → (clock : C) → (after : K) → (late : C)
      → (bytes : List ℕ) → (size : ℕ) → Response → Type 0
  AnswersRequest keeper clock after late bytes size response =
      (more : List ℕ) → Simulates g keeper clock after late (λ from to.
      AnswersFirst (StepIfHonest (g.honest after) reads) (bytes ++ more) from response
      (drop size bytes ++ more) to)

  -- The response is the one for this request.
  abbrev pub RespondsToRequest : (keeper : K) → (clock : C) → (after : K) → (late : C)
      → Request → Response → (wants_close head : Bool) → Type 0
  RespondsToRequest keeper clock after late request response wants_close head = Simulates g keeper clock after
      late
      (RespondsBy (Handles (StepIfHonest (g.honest after) reads) (Ok request)) response wants_close head)

  -- The response is the one for the request or its first fault, or for 501. Parsing may have run out of
  -- memory.
  abbrev pub RespondsTo : (keeper : K) → (clock : C) → (after : K) → (late : C)
      → Result Request WireFault → Response → (wants_close head : Bool) → Type 0
  RespondsTo keeper clock after late request response wants_close head =
      (q : Result Request WireFault) → Returns (λ asked. asked) request q
      → Simulates g keeper clock after late
      (RespondsBy (HandlesOr501 (StepIfHonest (g.honest after) reads) q) response wants_close head)
