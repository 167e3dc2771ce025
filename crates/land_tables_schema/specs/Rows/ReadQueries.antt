-- The result of a read of a table.
use Rattle.std.specs.Prelude.{◌≡◌, ◌⊎◌, ℕ, zero, suc, List, [], ◌∷◌, map, IfOk, OnErr, OnOk, IsPermutation}
use Rattle.std.specs.Prelude.{IsTrue, Result}
use Rattle.sqlite.specs.State.{HasCleanDisk, IsUnchanged, State, Survives}
use Rattle.sqlite_schema.specs.declared.schema.Table.{Table}
use Rattle.sqlite_trees.specs.Tree.{Trees}
use Rattle.sqlite_value.specs.Order.{Row, column}

-- the state after a failed read, if the store is open: the content before, or the last commit
pub record IsLeft (old new : State) : Type 0 where
  pub was_open : IsTrue old.is_open
  pub now : (new.now ≡ old.now) ⊎ (new.now ≡ old.committed)
  pub committed : new.committed ≡ old.committed

-- A read of a store. If it succeeds, its result satisfies `Given` and the store is unchanged. If it fails, a
-- store that is open has its content from before, or the last commit. In any case nothing is committed, and
-- the states that a crash may leave are those from before.
pub record IsStoreRead {X E : Type 0} (r : Result X E) (Given : X → Type 0) (old new : State) : Type 0 where
  pub given : HasCleanDisk new → IfOk r Given
  pub same : HasCleanDisk new → OnOk r (IsUnchanged old new)
  pub left : HasCleanDisk new → OnErr r (IsTrue new.is_open → IsLeft old new)
  pub survives : Survives old new (λ _. ⊥)

-- `count` columns of a row, starting at `from`
abbrev pub columns_from : (from count : ℕ) → Row → Row
columns_from from zero r = []
columns_from from (suc count) r = column r from ∷ columns_from (suc from) count r

-- the rows of a versioned table with this number of cells before the lifespan, without rowids, in unspecified
-- order
abbrev pub AreAllRows : Table → (cells : ℕ) → Trees → List Row → Type 0
AreAllRows table cells db rows = IsPermutation (map (columns_from 1 (suc (suc cells))) (db table.tree)) rows

-- the two columns of a row whose rowid is its first column
abbrev pub numbered_cells : Row → Row
numbered_cells r = column r 0 ∷ column r 2 ∷ []

-- the rows of a table whose rowid is its first column, both columns of each, in unspecified order
abbrev pub AreAllNumbered : Table → Trees → List Row → Type 0
AreAllNumbered table db rows = IsPermutation (map numbered_cells (db table.tree)) rows
