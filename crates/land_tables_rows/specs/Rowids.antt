-- Tables whose rows have unique rowids.
use Rattle.std.specs.Prelude.{List, map, IsPermutation}
use Rattle.land_tables_schema.specs.Rows.Forms.{AreNumbered}
use Rattle.land_tables_schema.specs.Rows.ReadQueries.{columns_from}
use Rattle.land_tables_schema.specs.Tables as table
use Rattle.sqlite_schema.specs.declared.schema.Table.{Table}
use Rattle.sqlite_trees.specs.Tree.{Trees}
use Rattle.sqlite_value.specs.Order.{Row}

-- the rowids of a table, each as a row of one cell, in any order
abbrev pub AreRowids : Table → Trees → List Row → Type 0
AreRowids table db rows = IsPermutation (map (columns_from 0 1) (db table.tree)) rows

-- each row of a table has a rowid, and no two rows have the same
abbrev pub HasUniqueRowids : Table → Trees → Type 0
HasUniqueRowids table db = AreNumbered (db table.tree)

-- the tables of parties, roles and members have unique rowids
pub record PartiesHaveUniqueRowids (db : Trees) : Type 0 where
  pub parties : HasUniqueRowids table.party db
  pub roles : HasUniqueRowids table.role db
  pub members : HasUniqueRowids table.member db

-- the tables of units, parcels and entries have unique rowids
pub record UnitsHaveUniqueRowids (db : Trees) : Type 0 where
  pub units : HasUniqueRowids table.unit db
  pub parcels : HasUniqueRowids table.parcel db
  pub rrrs : HasUniqueRowids table.rrr db

-- the tables of sources, mutations and their units have unique rowids
pub record SourcesHaveUniqueRowids (db : Trees) : Type 0 where
  pub sources : HasUniqueRowids table.source db
  pub mutations : HasUniqueRowids table.mutation db
  pub namings : HasUniqueRowids table.names db

-- all tables of schema version 1 that hold versions have unique rowids
pub record HaveUniqueRowidsV1 (db : Trees) : Type 0 where
  pub persons : PartiesHaveUniqueRowids db
  pub holdings : UnitsHaveUniqueRowids db
  pub sources_and_mutations : SourcesHaveUniqueRowids db
