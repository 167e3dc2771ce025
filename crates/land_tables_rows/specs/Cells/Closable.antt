-- The decoded value of a row after its current version is closed.
use Rattle.std.specs.Prelude.{◌≡◌, ℕ, ℤ, ◌&&◌, ◌==◌, Bool, Result, Ok, if◌then◌else◌}
use Rattle.std.specs.Ordering.{int_eq}
use Rattle.land_core.specs.Numbers.{IsMoment}
use Rattle.land_tables_history.specs.declared.version.Version.{Version}
use Rattle.land_tables_schema.specs.Rows.Forms.{Form}
use Rattle.land_tables_schema.specs.Rows.ReadQueries.{columns_from}
use Rattle.land_tables_schema.specs.Rows.Versions as laid
use Rattle.land_tables_schema.specs.Rows.Versions.{closed_version, never}
use Rattle.land_wire_json.specs.declared.bodies.wire_fault.WireFault.{WireFault}
use Rattle.sqlite_value.specs.Order.{Row}

-- closes a current version at a moment if it matches; every other version is unchanged
abbrev pub ended_version : {A : Type 0} → (A → Bool) → ℤ → Version A → Version A
ended_version meant stamp v = if meant v.what && int_eq v.until never then record v { until = stamp } else v

-- the record has that number
abbrev pub is_numbered : {A : Type 0} → ℕ → ℕ × A → Bool
is_numbered number e = e.0 == number

-- Columns that decode were laid out from a record. If the cells of a record decode, they decode after it is
-- closed too: to the same value, closed if it was current and matched.
pub record DecodesCells {K A C : Type 0} (read : Row → Result (Version A) WireFault) (columns : ℕ)
    (form : Form (laid.Version C)) (meant_row : K → C → Bool) (meant : K → A → Bool) : Type 0 where
  pub found : (r : Row) (v : Version A) → read (columns_from 1 columns r) ≡ Ok v → (p : laid.Version C)
      × (form.cells p ≡ columns_from 1 columns r)
  pub closes : (key : K) (stamp : ℤ) (p : laid.Version C) (v : Version A) → IsMoment stamp
      → read (form.cells p) ≡ Ok v
      → read (form.cells (closed_version (meant_row key) stamp p)) ≡ Ok (ended_version (meant key) stamp v)
