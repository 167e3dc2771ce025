-- Serving the next item after more of it was read.
use Rattle.std.proofs.Common.{◌≡◌, ◌∙◌, ℕ, List, [], Option, Some, None, Result, Ok, Err, IfSome, subst, sym, refl}
use Rattle.std.specs.Io.KnownBytes.{Appends, Keeps}
use Rattle.std.proofs.KnownBytes.{Keeps-trans}
use Rattle.land_desk.specs.Serving.{Exchange, ForwardSimulation, Transition}
use Rattle.land_desk.specs.Serving.Asking.{IfBoth}
use Rattle.land_desk.specs.Turns.{ServesNext}
use Rattle.land_desk.specs.declared.next_item.AfterItem.{AfterItem}
use Rattle.land_desk.specs.declared.next_item.AfterItem.TheVariants as next_item
use Rattle.land_desk.specs.declared.serve.DeskFault.{DeskFault}
use Rattle.land_desk.specs.declared.serve.DeskFault.TheVariants as desk
use Rattle.land_keep.specs.Machine.{State}

if_kept : (start mid : Option (List ℕ)) (P : List ℕ → Type 0) → Keeps start mid → IfSome mid P → IfSome start P
if_kept None mid P keeps holds = tt
if_kept (Some bytes) None P keeps holds = absurd keeps
if_kept (Some bytes) (Some same) P keeps holds = subst P keeps holds

both_kept : (start mid left : Option (List ℕ)) (P : List ℕ → List ℕ → Type 0) → Keeps start mid → IfBoth mid left P → IfBoth start left P
both_kept None mid left P keeps holds = tt
both_kept (Some bytes) None left P keeps holds = absurd keeps
both_kept (Some bytes) (Some same) None P keeps holds = absurd holds
both_kept (Some bytes) (Some same) (Some rest) P keeps holds = subst (λ (t : List ℕ). P t rest) keeps holds

module _ {C : Type 0} (step : Transition C) where
  serves_kept : (start mid left : Option (List ℕ)) (from to : State C) (old new : Option (List ℕ)) (result : Result AfterItem DeskFault) → Keeps start mid
      → ServesNext step mid left from to old new result → ServesNext step start left from to old new result
  serves_kept start mid left from to old new (Ok next_item.Eof) keeps it = (if_kept start mid (λ bytes. bytes ≡ []) keeps it.0, it.1, it.2)
  serves_kept start mid left from to old new (Ok next_item.Close) keeps it =
      (it.0, it.1, if_kept start mid _ keeps it.2, it.3, it.4)
  serves_kept start mid left from to old new (Ok next_item.KeepAlive) keeps it =
      (it.0, it.1, both_kept start mid left _ keeps it.2, it.3, it.4)
  serves_kept start mid left from to old new (Err desk.Write) keeps it =
      (it.0, it.1, if_kept start mid _ keeps it.2, it.3, it.4)
  serves_kept start mid left from to old new (Err desk.Read) keeps it = (it.0, Keeps-trans start mid left keeps it.1, it.2)
  serves_kept start mid left from to old new (Err desk.NoMemory) keeps it = (it.0, Keeps-trans start mid left keeps it.1, it.2)

  pub serves_after_reading : (stood stands : State C → Type 0) (start mid left : Option (List ℕ)) (old new : Option (List ℕ)) (result : Result AfterItem DeskFault) → Keeps start mid
      → ForwardSimulation stood stands (λ from to. ServesNext step mid left from to old new result)
      → ForwardSimulation stood stands (λ from to. ServesNext step start left from to old new result)
  serves_after_reading stood stands start mid left old new result keeps brings = λ from at.
      let it = brings from at in
      (it.0, serves_kept start mid left from it.0 old new result keeps it.1, it.2)
