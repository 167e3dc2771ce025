-- The migration from schema version 1 to version 2.
use Rattle.std.specs.Prelude.{◌≡◌, ◌≢◌, [], ◌∷◌}
use Rattle.std.specs.List.{AllByRecursion}
use Rattle.land_tables_schema.specs.Definitions.{schema_after_statements}
use Rattle.land_tables_schema.specs.Schemas.{IsSchemaV2, with_mandates, without_lookup_indexes}
use Rattle.land_tables_schema.specs.Laws.{index_statements, migrated_schema}
use Rattle.land_tables_schema.specs.Rows.Edition.{Edition, v2_edition, edition_row, v1_edition}
use Rattle.land_tables_schema.specs.Rows.Forms.{KeepsOthers, Lists}
use Rattle.land_tables_schema.specs.Tables as table
use Rattle.land_tables_schema.specs.Tables.{v1_tables, land_tables}
use Rattle.sqlite.specs.Effect.{Database}
use Rattle.sqlite_catalog.specs.Change.{KeepsRows}
use Rattle.sqlite_schema.specs.declared.schema.Table.{Table}
use Rattle.sqlite_trees.specs.Tree.{Trees}

-- the plain indexes of schema version 1 are dropped
pub record DropsLookupIndexes (old new : Database) : Type 0 where
  pub schema : new.schema ≡ without_lookup_indexes old.schema
  pub kept : KeepsRows v1_tables old.trees new.trees

-- the table `mandate` is created with the index of its key, without a row
pub record CreatesMandateTable (old new : Database) : Type 0 where
  pub schema : new.schema ≡ with_mandates old.schema
  pub empty : new.trees table.mandate.tree ≡ []
  pub kept : KeepsRows v1_tables old.trees new.trees

-- the plain indexes are created by their statements
pub record CreatesLookupIndexes (old new : Database) : Type 0 where
  pub schema : new.schema ≡ schema_after_statements old.schema index_statements
  pub has_tables : IsSchemaV2 new.schema
  pub kept : KeepsRows land_tables old.trees new.trees

-- the one row of `edition` is rewritten
pub record Rewrites (was is : Edition) (old new : Database) : Type 0 where
  pub schema : new.schema ≡ old.schema
  pub rewritten : Lists table.edition edition_row old.trees (was ∷ [])
      → Lists table.edition edition_row new.trees (is ∷ [])
  pub kept : KeepsOthers table.edition old.trees new.trees

-- Schema version 1 becomes version 2: there are no mandates, `edition` has version 2, and all other rows are
-- unchanged.
pub record Migrates (old new : Database) : Type 0 where
  pub schema : new.schema ≡ migrated_schema old.schema
  pub has_tables : IsSchemaV2 new.schema
  pub edition : Lists table.edition edition_row old.trees (v1_edition ∷ [])
      → Lists table.edition edition_row new.trees (v2_edition ∷ [])
  pub mandates : new.trees table.mandate.tree ≡ []
  pub kept : AllByRecursion
      (λ (t : Table). t.tree ≢ table.edition.tree → new.trees t.tree ≡ old.trees t.tree) v1_tables

-- what a crash may leave in addition to the state before: the tables of version 2
abbrev pub MayMigrate : Database → Trees → Type 0
MayMigrate old db = (new : Database) × Migrates old new × (db ≡ new.trees)
