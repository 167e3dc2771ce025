-- The rows of `parcel`.
use Rattle.std.specs.Prelude.{ℕ, Bool, ◌==◌, List, [], ◌∷◌}
use Rattle.land_tables_schema.specs.Rows.Forms.{Form}
use Rattle.land_tables_schema.specs.Rows.Versions.{Version, versions_in, whole}
use Rattle.land_tables_schema.specs.Tables.{parcel}
use Rattle.sqlite_value.specs.Order.{Row}
use Rattle.sqlite_value.specs.declared.value.Value.TheVariants.{Text}

-- a parcel: its number, the number of its unit, its label, its outline in canonical form, and the number of
-- its source
pub record ParcelRow : Type 0 where
  pub number : ℕ
  pub unit : ℕ
  pub label : List ℕ
  pub outline : List ℕ
  pub source : ℕ

abbrev pub parcel_cells : ParcelRow → Row
parcel_cells r = whole r.number ∷ whole r.unit ∷ Text r.label ∷ Text r.outline ∷ whole r.source ∷ []

abbrev pub parcel_form : Form (Version ParcelRow)
parcel_form = versions_in parcel 5 parcel_cells

-- whether it has this number
abbrev pub is_parcel : ℕ → ParcelRow → Bool
is_parcel number r = r.number == number
