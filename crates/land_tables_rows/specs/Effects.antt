-- Effects of calls on the tables: the clauses that many contracts repeat.
use Rattle.std.specs.Prelude.{Result}
use Rattle.land_tables_schema.specs.Rows.ReadQueries.{IsStoreRead}
use Rattle.land_tables_schema.specs.Steps.{IsTransactionStep}
use Rattle.sqlite.specs.Effect.{Database}
use Rattle.sqlite.specs.Held.{Held, state}
use Rattle.sqlite.specs.declared.transaction.Transaction.{Transaction}
use Rattle.sqlite_trees.specs.Tree.{Trees}
use Rattle.sqlite.specs.Store.{Ghosts}

-- a call in a transaction changes the database by this relation if it succeeds, and commits nothing
abbrev pub Performs : {S X E : Type 0} → Ghosts S → Result X E → (Database → Database → Type 0)
    → (old new : Transaction S) → Type 0
Performs g r Done old new = IsTransactionStep r Done (state g old.conn.now) (state g new.conn.now)

-- a read returns a value with this relation to the tables if it succeeds, and leaves the store unchanged
abbrev pub ReadsTables : {S X E : Type 0} → Ghosts S → Result X E → (Trees → X → Type 0)
    → (old new : Held S) → Type 0
ReadsTables g r Given old new = IsStoreRead r (Given (state g old).now.trees) (state g old) (state g new)
