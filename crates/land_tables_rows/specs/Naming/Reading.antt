-- Decodes a row of `names`: the mutation, a unit that it refers to, since, until.
use Rattle.std.specs.Prelude.{Result, Ok}
use Rattle.land_tables_history.specs.declared.naming.Naming.{Naming}
use Rattle.land_tables_history.specs.declared.version.Version.{Version}
use Rattle.land_tables_rows.specs.Reading.Cells.{end_in, moment_in, number_in}
use Rattle.land_wire_json.specs.Bodies.WireFaults.{◌>>=◌}
use Rattle.land_wire_json.specs.declared.bodies.wire_fault.WireFault.{WireFault}
use Rattle.sqlite_value.specs.Order.{Row, column}

unfoldable pub naming_in : Row → Result (Version Naming) WireFault
naming_in row = do
  mutation ← number_in (column row 0)
  unit ← number_in (column row 1)
  since ← moment_in (column row 2)
  until ← end_in (column row 3)
  Ok (record { what = record { mutation = mutation; unit = unit }; since = since; until = until })
