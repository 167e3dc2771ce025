-- Laws of the tables and of the SQL statements that create them, on definitions only.
use Rattle.std.specs.List.{list_all}
use Rattle.std.specs.Prelude.{◌≡◌, ◌↔◌, ◌++◌, ℕ, List, Ok, drop, map, take, true}
use Rattle.land_tables_schema.specs.Definitions.{AreDefinitions, schema_after_statements}
use Rattle.land_tables_schema.specs.Schemas.{ContainsSchemaV1, IsSchemaV1, IsSchemaV2, IsMigratable}
use Rattle.land_tables_schema.specs.Schemas.{MayBeRegisterSchema}
use Rattle.land_tables_schema.specs.Schemas.{v1_schema, schema_v2_with, v2_schema, no_schema}
use Rattle.land_tables_schema.specs.Schemas.{adds_no_constraint}
use Rattle.land_tables_schema.specs.Schemas.{with_mandates, without_lookup_indexes}
use Rattle.land_tables_schema.specs.Tables as table
use Rattle.land_tables_schema.specs.Tables.{land_tables}
use Rattle.land_tables_schema.specs.declared.tables.TheConstants.{ALL_DROPS, ALL_CREATES}
use Rattle.land_tables_schema.specs.declared.tables.edition.TheConstants as edition
use Rattle.land_tables_schema.specs.declared.tables.mandate.TheConstants as mandate
use Rattle.land_tables_schema.specs.declared.tables.member.TheConstants as member
use Rattle.land_tables_schema.specs.declared.tables.moments.TheConstants as moments
use Rattle.land_tables_schema.specs.declared.tables.mutation.TheConstants as mutation
use Rattle.land_tables_schema.specs.declared.tables.names.TheConstants as names
use Rattle.land_tables_schema.specs.declared.tables.parcel.TheConstants as parcel
use Rattle.land_tables_schema.specs.declared.tables.party.TheConstants as party
use Rattle.land_tables_schema.specs.declared.tables.role.TheConstants as role
use Rattle.land_tables_schema.specs.declared.tables.rrr.TheConstants as rrr
use Rattle.land_tables_schema.specs.declared.tables.source.TheConstants as source
use Rattle.land_tables_schema.specs.declared.tables.unit.TheConstants as unit
use Rattle.sqlite.specs.Compile.{table_defined_by}
use Rattle.sqlite_catalog.specs.Change.{next_tree}
use Rattle.sqlite_schema.specs.declared.schema.Schema.{Schema}
use Rattle.sqlite_schema.specs.declared.schema.Table.{Table}

-- SQLite compiles the statement to this table, except for the tree, which is chosen when the statement runs
abbrev pub Defines : List ℕ → Table → Type 0
Defines text t = table_defined_by text ≡ Ok (record t { tree = 0 })

-- the CREATE TABLE statement of each table defines that table
pub record TableTextsLaw : Type 0 where
  pub the_edition : Defines edition.CREATE.now table.edition
  pub the_moments : Defines moments.CREATE.now table.moments
  pub the_party : Defines party.CREATE.now table.party
  pub the_role : Defines role.CREATE.now table.role
  pub the_member : Defines member.CREATE.now table.member
  pub the_unit : Defines unit.CREATE.now table.unit
  pub the_parcel : Defines parcel.CREATE.now table.parcel
  pub the_rrr : Defines rrr.CREATE.now table.rrr
  pub the_source : Defines source.CREATE.now table.source
  pub the_mutation : Defines mutation.CREATE.now table.mutation
  pub the_names : Defines names.CREATE.now table.names
  pub the_mandate : Defines mandate.CREATE.now table.mandate

-- the statements that create a register, in the order in which they run
abbrev pub create_statements : List (List ℕ)
create_statements = map (λ t. t.now) ALL_CREATES

-- the statements that create the plain indexes
abbrev pub index_statements : List (List ℕ)
index_statements = drop 12 create_statements

-- the statements that drop the plain indexes of version 1
abbrev pub drop_statements : List (List ℕ)
drop_statements = map (λ t. t.now) ALL_DROPS

-- the statements of schema version 1: all tables except `mandate`, and the plain indexes on them
abbrev pub first_texts : List (List ℕ)
first_texts = take 11 create_statements ++ take 7 index_statements

-- a migrated schema of version 1: the plain indexes are dropped, `mandate` is added, and then all plain
-- indexes are created by their statements
abbrev pub migrated_schema : Schema → Schema
migrated_schema s = schema_after_statements (with_mandates (without_lookup_indexes s)) index_statements

-- each statement is one CREATE and nothing else, and together they turn the empty schema into that of a new
-- register
pub record TextsLaw : Type 0 where
  pub creates : AreDefinitions no_schema create_statements
  pub makes : schema_after_statements no_schema create_statements ≡ v2_schema

-- a schema is a register's if and only if it has the register's tables, no views, and only indexes that
-- reject no more rows than the primary keys do
abbrev pub IndexLaw : Type 0
IndexLaw =
    (s : Schema) → IsSchemaV2 s ↔ ((s ≡ schema_v2_with s.indexes)
    × (list_all (adds_no_constraint land_tables) s.indexes ≡ true))

-- The schema of a new register is a migrated schema of version 1: the statements of version 1 create a schema
-- that can be migrated, and its migration is what all statements create. The DROP statements drop the plain
-- indexes, and then the next tree is that of `mandate`.
pub record VersionsLaw : Type 0 where
  pub makes : schema_after_statements no_schema first_texts ≡ v1_schema
  pub raisable : IsMigratable v1_schema
  pub raises : migrated_schema v1_schema ≡ v2_schema
  pub drops : (s : Schema) → IsMigratable s
      → schema_after_statements s drop_statements ≡ without_lookup_indexes s
  pub next : (s : Schema) → IsMigratable s → next_tree (without_lookup_indexes s) ≡ table.mandate.tree

-- Each schema of a register, in version 1 or 2, may be a register's; and a migrated schema of version 1 is
-- one of version 2.
pub record SchemasLaw : Type 0 where
  pub has_tables : (s : Schema) → IsSchemaV2 s → MayBeRegisterSchema s
  pub first : (s : Schema) → IsSchemaV1 s → MayBeRegisterSchema s
  pub tables : (s : Schema) → MayBeRegisterSchema s → ContainsSchemaV1 s
  pub raised : (s : Schema) → IsSchemaV1 s → IsSchemaV2 (migrated_schema s)
