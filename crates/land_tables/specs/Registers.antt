-- Whether the tables of a store are those of a register, of schema version 1 or 2.
use Rattle.std.specs.Prelude.{◌≡◌, ℕ, true, List}
use Rattle.land_core.specs.declared.mandates.Mandate.{Mandate}
use Rattle.land_keep.specs.Timeline.{IsSoundTimeline}
use Rattle.land_tables.specs.TableContents.{DecodesRowsV1, is_one_edition, is_version}
use Rattle.land_tables.specs.Standing.{HoldsTimeline, decoded_timeline, without_mandate_rows}
use Rattle.land_tables.specs.declared.table_contents.TableContents.{TableContents}
use Rattle.land_tables_history.specs.Intervals.{has_intervals}
use Rattle.land_tables_history.specs.declared.version.Version.{Version}
use Rattle.land_tables_rows.specs.Listing.Reading.{Says, editions, mandates, moments}
use Rattle.land_tables_rows.specs.Listing.Told.{decoded_history, decode_rows}
use Rattle.land_tables_schema.specs.Schemas.{IsSchemaV1, IsSchemaV2, MayBeRegisterSchema}
use Rattle.sqlite.specs.Effect.{Database}
use Rattle.sqlite_trees.specs.Tree.{Trees}

-- ---- schema versions

-- a schema version: its number, the schema that a store of it has, and the rows of such a store that belong
-- to the register
pub record SchemaVersion : Type 1 where
  pub version : ℕ
  pub AreThere : Database → Type 0
  pub rows : Trees → Trees

-- the table of mandates exists, and each of its rows decodes
pub record HasMandates (db : Database) : Type 0 where
  pub has_tables : IsSchemaV2 db.schema
  pub listed : List (Version Mandate)
  pub said : Says mandates db.trees listed

-- schema version 1 has no mandates: its tables are exactly the first ones
abbrev pub version_1 : SchemaVersion
version_1 = record { version = 1; AreThere = λ db. IsSchemaV1 db.schema; rows = without_mandate_rows }

-- schema version 2, the current one, has mandates
abbrev pub version_2 : SchemaVersion
version_2 = record { version = 2; AreThere = HasMandates; rows = λ db. db }

-- ---- the tests, each including those before it

-- a store may be a register: it has the tables of schema version 1, each of their rows decodes, and there is
-- exactly one edition
pub record MayBeRegister (db : Database) : Type 0 where
  pub has_tables : MayBeRegisterSchema db.schema
  pub found : TableContents
  pub said : DecodesRowsV1 db.trees found
  pub one : is_one_edition (decode_rows editions db.trees) ≡ true

-- and if the edition is of this version, the store has its schema
pub record HasRegisterSchema (shapes : SchemaVersion) (db : Database) : Type 0 where
  pub first : MayBeRegister db
  pub there : is_version shapes.version (decode_rows editions db.trees) ≡ true → shapes.AreThere db

-- the edition is of this version
pub record IsOfVersion (shapes : SchemaVersion) (db : Database) : Type 0 where
  pub ours : HasRegisterSchema shapes db
  pub version : is_version shapes.version (decode_rows editions db.trees) ≡ true

-- each lifespan begins at a stamp, and ends at a later stamp or never; lifespans of one key are disjoint
pub record HasValidIntervals (shapes : SchemaVersion) (db : Database) : Type 0 where
  pub made : IsOfVersion shapes db
  pub intervals : has_intervals (decode_rows moments (shapes.rows db.trees))
      (decoded_history (shapes.rows db.trees))
      ≡ true

-- the tables hold a sound timeline
pub record IsRegister (shapes : SchemaVersion) (db : Database) : Type 0 where
  pub intervals : HasValidIntervals shapes db
  pub holds : HoldsTimeline (shapes.rows db.trees) (decoded_timeline (shapes.rows db.trees))
  pub sound : IsSoundTimeline (decoded_timeline (shapes.rows db.trees))
