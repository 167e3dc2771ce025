-- The rows of `unit`.
use Rattle.std.specs.Prelude.{ℕ, Bool, ◌==◌, List, [], ◌∷◌}
use Rattle.land_tables_schema.specs.Rows.Forms.{Form}
use Rattle.land_tables_schema.specs.Rows.Versions.{Version, flag, versions_in, whole}
use Rattle.land_tables_schema.specs.Tables.{unit}
use Rattle.sqlite_value.specs.Order.{Row}
use Rattle.sqlite_value.specs.declared.value.Value.TheVariants.{Text}

-- a unit: its number, its name, and whether it is checked, that is, whether its shares must sum to one
pub record UnitRow : Type 0 where
  pub number : ℕ
  pub name : List ℕ
  pub checked : Bool

abbrev pub unit_cells : UnitRow → Row
unit_cells r = whole r.number ∷ Text r.name ∷ flag r.checked ∷ []

abbrev pub unit_form : Form (Version UnitRow)
unit_form = versions_in unit 3 unit_cells

-- whether it has this number
abbrev pub is_unit : ℕ → UnitRow → Bool
is_unit number r = r.number == number
