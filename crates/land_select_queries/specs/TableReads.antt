-- Read-only queries on the register's tables, as contracts of functions state them.
use Rattle.std.specs.Prelude.{IfErr, Result}
use Rattle.land_select_queries.specs.Joins.Execution.{HoldsNoHistory}
use Rattle.land_tables_rows.specs.declared.listing.fault.ReadFault.{ReadFault}
use Rattle.land_tables_schema.specs.Rows.ReadQueries.{IsStoreRead}
use Rattle.sqlite.specs.Held.{Held, state}
use Rattle.sqlite.specs.State.{HasCleanDisk}
use Rattle.sqlite_trees.specs.Tree.{Trees}
use Rattle.sqlite_trees.specs.declared.store.Store.{Ghosts}

-- a query returns a value that agrees with the rows of the tables, and changes nothing
abbrev pub ReadsTables : {S X E : Type 0} → Ghosts S → Result X E → (Agrees : Trees → X → Type 0)
    → (old new : Held S) → Type 0
ReadsTables g result Agrees old new =
    IsStoreRead result (λ it. Agrees (state g old).now.trees it) (state g old) (state g new)

-- a query calls rows unreadable only if the tables hold no history
abbrev pub FailsOnlyWithoutHistory : {S X : Type 0} → Ghosts S → Result X ReadFault → (old new : Held S)
    → Type 0
FailsOnlyWithoutHistory g result old new =
    HasCleanDisk (state g new) → IfErr result (HoldsNoHistory (state g old).now.trees)
