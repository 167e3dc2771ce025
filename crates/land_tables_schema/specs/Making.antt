-- The effect on a database of the SQL statements that create its tables.
use Rattle.std.specs.Prelude.{◌≡◌, ℕ, List, []}
use Rattle.std.specs.List.{AllByRecursion}
use Rattle.land_tables_schema.specs.Definitions.{schema_after_statements, schema_after_statement}
use Rattle.land_tables_schema.specs.Schemas.{v2_schema}
use Rattle.sqlite.specs.Effect.{Database}
use Rattle.sqlite_catalog.specs.Change.{KeepsRows}
use Rattle.sqlite_schema.specs.declared.schema.Table.{Table}

-- no table has a row
abbrev pub AreEmpty : Database → Type 0
AreEmpty db = AllByRecursion (λ (t : Table). db.trees t.tree ≡ []) db.schema.tables

-- the statement changes the schema as it defines, adds no row, and leaves all rows unchanged
pub record Defines (text : List ℕ) (old new : Database) : Type 0 where
  pub schema : new.schema ≡ schema_after_statement old.schema text
  pub empty : AreEmpty old → AreEmpty new
  pub kept : KeepsRows old.schema.tables old.trees new.trees

-- the statements, in order, do so
pub record DefinesAll (texts : List (List ℕ)) (old new : Database) : Type 0 where
  pub schema : new.schema ≡ schema_after_statements old.schema texts
  pub empty : AreEmpty old → AreEmpty new
  pub kept : KeepsRows old.schema.tables old.trees new.trees

-- the tables and indexes of a new register exist, without any row
pub record IsMade (db : Database) : Type 0 where
  pub schema : db.schema ≡ v2_schema
  pub empty : AreEmpty db
