-- Conditions on a connection or a transaction that most functions on the register's tables require or ensure.
use Rattle.std.specs.Prelude.{◌≡◌, false, IsTrue, Result}
use Rattle.land_tables_schema.specs.Schemas.{ContainsSchemaV1, IsSchemaV2}
use Rattle.land_tables_schema.specs.Rows.ReadQueries.{IsStoreRead}
use Rattle.land_tables_schema.specs.Steps.{IsTransactionStep}
use Rattle.sqlite.specs.Effect.{Database}
use Rattle.sqlite.specs.Held.{Held, state}
use Rattle.sqlite.specs.State.{HasCleanDisk}
use Rattle.sqlite.specs.declared.transaction.Transaction.{Transaction}
use Rattle.sqlite_trees.specs.declared.store.Store.{Ghosts}

-- if the disk has not failed, the store has exactly the register's tables (schema version 2)
abbrev pub HasRegisterTables : {S : Type 0} → Ghosts S → Held S → Type 0
HasRegisterTables g conn = HasCleanDisk (state g conn) → IsSchemaV2 (state g conn).now.schema

-- if the disk has not failed, the store has at least the tables of schema version 1
abbrev pub HasV1Tables : {S : Type 0} → Ghosts S → Held S → Type 0
HasV1Tables g conn = HasCleanDisk (state g conn) → ContainsSchemaV1 (state g conn).now.schema

-- if the disk has not failed, the store is open
abbrev pub IsUsable : {S : Type 0} → Ghosts S → Held S → Type 0
IsUsable g conn = HasCleanDisk (state g conn) → IsTrue (state g conn).is_open

-- a call leaves no transaction open if none was open before
abbrev pub LeavesAutocommit : {S : Type 0} → (old new : Held S) → Type 0
LeavesAutocommit old new = old.in_transaction ≡ false → new.in_transaction ≡ false

-- a transaction borrows the same connection after a call as before it
abbrev pub SameReference : {S : Type 0} → (old new : Transaction S) → Type 0
SameReference old new = new.conn.ghost_name ≡ old.conn.ghost_name

-- a call inside a transaction has this effect if it succeeds, and commits nothing
abbrev pub InTransaction : {S X E : Type 0} → Ghosts S → Result X E → (Database → Database → Type 0)
    → (old new : Transaction S) → Type 0
InTransaction g r Done old new = IsTransactionStep r Done (state g old.conn.now) (state g new.conn.now)

-- a call reads the store without a change, and its result satisfies `Given` if it succeeds
abbrev pub ReadsOnly : {S X E : Type 0} → Ghosts S → Result X E → (X → Type 0) → (old new : Held S) → Type 0
ReadsOnly g r Given old new = IsStoreRead r Given (state g old) (state g new)
