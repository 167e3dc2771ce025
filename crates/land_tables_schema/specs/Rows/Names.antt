-- The rows of `names`.
use Rattle.std.specs.Prelude.{ℕ, [], ◌∷◌}
use Rattle.land_tables_schema.specs.Rows.Forms.{Form}
use Rattle.land_tables_schema.specs.Rows.Versions.{Version, versions_in, whole}
use Rattle.land_tables_schema.specs.Tables.{names}
use Rattle.sqlite_value.specs.Order.{Row}

-- a row of `names`: a mutation refers to a unit, both by number
pub record NamesRow : Type 0 where
  pub mutation : ℕ
  pub unit : ℕ

abbrev pub names_cells : NamesRow → Row
names_cells r = whole r.mutation ∷ whole r.unit ∷ []

abbrev pub names_form : Form (Version NamesRow)
names_form = versions_in names 2 names_cells
