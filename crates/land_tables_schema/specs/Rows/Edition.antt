-- The row of `edition`.
use Rattle.std.specs.Prelude.{ℕ, [], ◌∷◌}
use Rattle.land_tables_schema.specs.Rows.Versions.{whole}
use Rattle.sqlite_value.specs.Order.{Row}

-- the schema version
pub record Edition : Type 0 where
  pub id : ℕ
  pub version : ℕ

-- the columns of the row, whose rowid is `id`
abbrev pub edition_row : Edition → Row
edition_row e = whole e.id ∷ whole e.version ∷ []

-- schema version 1, without mandates
abbrev pub v1_edition : Edition
v1_edition = record { id = 1; version = 1 }

-- schema version 2, the current one
abbrev pub v2_edition : Edition
v2_edition = record { id = 1; version = 2 }
