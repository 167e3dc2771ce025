-- Decodes a row of `unit` (LA_BAUnit): number, name, checked, since, until.
use Rattle.std.specs.Prelude.{ℕ, Result, Ok}
use Rattle.land_core.specs.declared.unit.UnitRecord.{UnitRecord}
use Rattle.land_tables_history.specs.declared.version.Version.{Version}
use Rattle.land_tables_rows.specs.Reading.Cells.{end_in, flag_in, moment_in, name_in, number_in}
use Rattle.land_wire_json.specs.Bodies.WireFaults.{◌>>=◌}
use Rattle.land_wire_json.specs.declared.bodies.wire_fault.WireFault.{WireFault}
use Rattle.sqlite_value.specs.Order.{Row, column}

unfoldable pub unit_in : Row → Result (Version (ℕ × UnitRecord)) WireFault
unit_in row = do
  number ← number_in (column row 0)
  name ← name_in (column row 1)
  checked ← flag_in (column row 2)
  since ← moment_in (column row 3)
  until ← end_in (column row 4)
  Ok (record { what = (number, record { name = name; checked = checked }); since = since; until = until })
