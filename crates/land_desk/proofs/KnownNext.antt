-- Serving the first item of a stream whose bytes are known.
use Rattle.std.proofs.Common.{◌≡◌, ℕ, true, false, List, [], take, inl, inr, refl, sym, subst, ap, Result, Ok, Err, Option, Some, None, IfSome}
use Rattle.std.specs.Io.KnownBytes.{Appends}
use Rattle.land_core.specs.declared.ask.Request.{Request}
use Rattle.land_desk.proofs.Moving.{reply_steps}
use Rattle.land_desk.specs.Serving.{Exchange, ForwardSimulation, MayStep, ServesItem, Transition, is_closing}
use Rattle.land_desk.specs.Turns.{ServesNext}
use Rattle.land_desk.specs.declared.next_item.AfterItem.{AfterItem}
use Rattle.land_desk.specs.declared.next_item.AfterItem.TheVariants as next_item
use Rattle.land_desk.specs.declared.serve.DeskFault.{DeskFault}
use Rattle.land_desk.specs.declared.serve.DeskFault.TheVariants as desk
use Rattle.land_keep.specs.Machine.{State}
use Rattle.land_keep.specs.declared.reply.Reply.{Reply}

-- Serving the first item of known bytes. `left`: the bytes that remain.
abbrev pub ServesKnown : {C : Type 0} → Transition C → List ℕ → State C → State C → (left : Option (List ℕ))
    → (old new : Option (List ℕ)) → Result AfterItem DeskFault → Type 0
ServesKnown step bytes from to left old new (Ok next_item.Eof) = (bytes ≡ []) × (to ≡ from)
    × Appends old new []
ServesKnown step bytes from to left old new (Ok next_item.Close) =
    (x : Exchange) × (rest : List ℕ) × ServesItem step bytes from x rest to × (is_closing x ≡ true)
    × Appends old new x.sent
ServesKnown step bytes from to left old new (Ok next_item.KeepAlive) =
    (x : Exchange) × (rest : List ℕ) × ServesItem step bytes from x rest to × (is_closing x ≡ false)
    × Appends old new x.sent × (left ≡ Some rest)
ServesKnown step bytes from to left old new (Err desk.Write) =
    (x : Exchange) × (rest : List ℕ) × (n : ℕ) × ServesItem step bytes from x rest to
    × Appends old new (take n x.sent)
ServesKnown step bytes from to left old new (Err desk.Read) = (to ≡ from) × Appends old new []
ServesKnown step bytes from to left old new (Err desk.NoMemory) = (to ≡ from) × Appends old new []

module _ {C : Type 0} (step : Transition C) where
  known_bytes : (bytes : List ℕ) (left : Option (List ℕ)) (from to : State C) (old new : Option (List ℕ)) (result : Result AfterItem DeskFault)
      → ServesNext step (Some bytes) left from to old new result → ServesKnown step bytes from to left old new result
  known_bytes bytes left from to old new (Ok next_item.Eof) it = it
  known_bytes bytes left from to old new (Ok next_item.Close) it = (it.0, it.2.0, (it.2.1, it.1.0, it.1.1), it.3, it.4)
  known_bytes bytes None from to old new (Ok next_item.KeepAlive) it = absurd it.2
  known_bytes bytes (Some rest) from to old new (Ok next_item.KeepAlive) it = (it.0, rest, (it.2, it.1.0, it.1.1), it.3, it.4, refl)
  known_bytes bytes left from to old new (Err desk.Write) it = (it.0, it.2.0, it.3, (it.2.1, it.1.0, it.1.1), it.4)
  known_bytes bytes left from to old new (Err desk.Read) it = (it.0, it.2)
  known_bytes bytes left from to old new (Err desk.NoMemory) it = (it.0, it.2)

  -- at most one transition is made
  may_step : (input left : Option (List ℕ)) (from to : State C) (old new : Option (List ℕ)) (result : Result AfterItem DeskFault)
      → ServesNext step input left from to old new result → MayStep step from to
  may_step input left from to old new (Ok next_item.Eof) it = inl it.1
  may_step input left from to old new (Ok next_item.Close) it = reply_steps step from it.0.item it.0.reply to it.1.0
  may_step input left from to old new (Ok next_item.KeepAlive) it = reply_steps step from it.0.item it.0.reply to it.1.0
  may_step input left from to old new (Err desk.Write) it = reply_steps step from it.0.item it.0.reply to it.1.0
  may_step input left from to old new (Err desk.Read) it = inl it.0
  may_step input left from to old new (Err desk.NoMemory) it = inl it.0

  -- the same, from each state that is represented before
  pub serves_known : (stood stands : State C → Type 0) (input left old new : Option (List ℕ)) (result : Result AfterItem DeskFault)
      → ((from : State C) → stood from → (to : State C) × ServesNext step input left from to old new result × stands to)
      → IfSome input (λ bytes. ForwardSimulation stood stands (λ from to. ServesKnown step bytes from to left old new result))
  serves_known stood stands None left old new result brings = tt
  serves_known stood stands (Some bytes) left old new result brings = λ from at.
      let it = brings from at in
      (it.0, known_bytes bytes left from it.0 old new result it.1, it.2)

  pub steps_once : (stood stands : State C → Type 0) (input left old new : Option (List ℕ)) (result : Result AfterItem DeskFault)
      → ((from : State C) → stood from → (to : State C) × ServesNext step input left from to old new result × stands to)
      → ForwardSimulation stood stands (MayStep step)
  steps_once stood stands input left old new result brings = λ from at.
      let it = brings from at in
      (it.0, may_step input left from it.0 old new result it.1, it.2)
