-- The effect of calls inside a transaction.
use Rattle.std.specs.Prelude.{◌≡◌, OnOk, Result}
use Rattle.sqlite.specs.Effect.{Database}
use Rattle.sqlite.specs.State.{HasCleanDisk, KeepsCommit, State, Survives}

-- One or several calls inside a transaction. If they succeed, `Done` holds and the transaction is still
-- active. In any case they commit nothing, and the states that a crash may leave are those from before.
pub record IsTransactionStep {X E : Type 0} (r : Result X E) (Done : Database → Database → Type 0)
    (old new : State) : Type 0 where
  pub done : HasCleanDisk new → OnOk r (Done old.now new.now)
  pub inside : HasCleanDisk new → OnOk r (new.in_transaction ≡ old.in_transaction)
  pub kept : HasCleanDisk new → KeepsCommit old new
  pub survives : Survives old new (λ _. ⊥)
