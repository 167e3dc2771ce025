-- The rows of `source`.
use Rattle.std.specs.Prelude.{ℕ, Bool, ◌==◌, List, [], ◌∷◌}
use Rattle.land_tables_schema.specs.Rows.Forms.{Form}
use Rattle.land_tables_schema.specs.Rows.Versions.{Version, versions_in, whole}
use Rattle.land_tables_schema.specs.Tables.{source}
use Rattle.sqlite_value.specs.Order.{Row}
use Rattle.sqlite_value.specs.declared.value.Value.TheVariants.{Text}

-- a source: its number, the word of its kind, and its title
pub record SourceRow : Type 0 where
  pub number : ℕ
  pub kind : List ℕ
  pub title : List ℕ

abbrev pub source_cells : SourceRow → Row
source_cells r = whole r.number ∷ Text r.kind ∷ Text r.title ∷ []

abbrev pub source_form : Form (Version SourceRow)
source_form = versions_in source 3 source_cells

-- whether it has this number
abbrev pub is_source : ℕ → SourceRow → Bool
is_source number r = r.number == number
