-- Rows of the table `edition`.
use Rattle.std.specs.Prelude.{List}
use Rattle.land_tables_rows.specs.Edition.Reading.{edition_in}
use Rattle.land_tables_rows.specs.Writing.Holding.{HoldsNumbered, HoldsOneMore}
use Rattle.land_tables_rows.specs.declared.edition.reading.Edition.{Edition}
use Rattle.land_tables_schema.specs.Tables as table
use Rattle.sqlite.specs.Effect.{Database}
use Rattle.sqlite_trees.specs.Tree.{Trees}

-- the table holds these editions
abbrev pub HoldsEditions : Trees → List Edition → Type 0
HoldsEditions db editions = HoldsNumbered table.edition edition_in db editions

-- one edition more is inserted
abbrev pub InsertsEdition : Edition → Database → Database → Type 0
InsertsEdition edition old new = HoldsOneMore table.edition edition_in edition old new

-- edition 1: schema version 1, which has no mandates
abbrev pub v1_edition : Edition
v1_edition = record { id = 1; version = 1 }

-- edition 2: schema version 2, the current one
abbrev pub v2_edition : Edition
v2_edition = record { id = 1; version = 2 }
