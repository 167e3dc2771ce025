-- The effect of calls on a store that holds a timeline.
use Rattle.std.specs.Prelude.{◌≡◌, ◌≢◌, ℕ, ℤ, IfErr, IfOk, IsTrue, OnOk, Err, Result}
use Rattle.land_core.specs.declared.change.Change.{Change}
use Rattle.land_keep.specs.declared.store_fault.StoreFault.{StoreFault}
use Rattle.land_keep.specs.declared.store_fault.StoreFault.TheVariants.{Store}
use Rattle.land_tables_rows.specs.Recording.Whole.{WritesChange}
use Rattle.land_tables_schema.specs.Rows.ReadQueries.{IsLeft, IsStoreRead}
use Rattle.sqlite.specs.Effect.{Database}
use Rattle.sqlite.specs.Held.{Held, state}
use Rattle.sqlite.specs.State.{HasCleanDisk, State, Survives}
use Rattle.sqlite.specs.Store.{Ghosts}
use Rattle.sqlite_trees.specs.Tree.{Trees}

-- an open store has the same content as before, all of it committed
pub record StaysOpenAndSame (old new : State) : Type 0 where
  pub is_open : IsTrue new.is_open
  pub now : new.now ≡ old.now
  pub committed : new.committed ≡ new.now

-- A read of an open store that is fully committed: if it succeeds, the result has this property. The store is
-- unchanged unless the fault is 502.
pub record IsSafeRead {X : Type 0} (r : Result X StoreFault) (Given : X → Type 0) (old new : State)
    : Type 0 where
  pub given : HasCleanDisk new → IfOk r Given
  pub same : HasCleanDisk new → r ≢ Err Store → StaysOpenAndSame old new
  pub survives : Survives old new (λ _. ⊥)

-- a state that a crash may leave in addition to the old ones: the tables with the change
abbrev pub MayWriteChange : Change → (next : ℕ) → (stamp : ℤ) → (old : Database) → Trees → Type 0
MayWriteChange change next stamp old db = (new : Database) × WritesChange change next stamp old new
    × (db ≡ new.trees)

-- A write to an open store that is fully committed: if it succeeds, this was done and committed. Otherwise
-- the store is unchanged unless the fault is 502. A crash leaves the same states as before, or the committed
-- one.
pub record IsSafeWrite {X : Type 0} (r : Result X StoreFault) (Done : Database → Database → Type 0)
    (Commits : Trees → Type 0) (old new : State) : Type 0 where
  pub done : HasCleanDisk new → OnOk r (Done old.now new.now)
  pub kept : HasCleanDisk new → OnOk r (IsTrue new.is_open × (new.committed ≡ new.now))
  pub same : HasCleanDisk new → IfErr r (λ fault. fault ≢ Store → StaysOpenAndSame old new)
  pub survives : Survives old new Commits

-- ---- clauses that many contracts repeat

-- a read returns a value with this relation to the database if it succeeds, and leaves the store unchanged
abbrev pub ReadsStore : {S X E : Type 0} → Ghosts S → Result X E → (Database → X → Type 0)
    → (old new : Held S) → Type 0
ReadsStore g r Given old new = IsStoreRead r (Given (state g old).now) (state g old) (state g new)

-- a store that is still open after a failed read has its old content, or the last committed one
abbrev pub IsLeftIfOpen : {S : Type 0} → Ghosts S → (old new : Held S) → Type 0
IsLeftIfOpen g old new =
    HasCleanDisk (state g new) → IsTrue (state g new).is_open → IsLeft (state g old) (state g new)

-- all content of a store is committed, if it is open
abbrev pub IsCommittedIfOpen : {S : Type 0} → Ghosts S → Held S → Type 0
IsCommittedIfOpen g conn = IsTrue (state g conn).is_open → (state g conn).now ≡ (state g conn).committed

-- nothing is committed, so that a crash leaves the same states as before
abbrev pub CommitsNothing : {S : Type 0} → Ghosts S → (old new : Held S) → Type 0
CommitsNothing g old new = Survives (state g old) (state g new) (λ _. ⊥)
