-- Decodes a row of `mandate`: principal, agent, since, until.
use Rattle.std.specs.Prelude.{Result, Ok}
use Rattle.land_core.specs.declared.mandates.Mandate.{Mandate}
use Rattle.land_tables_history.specs.declared.version.Version.{Version}
use Rattle.land_tables_rows.specs.Reading.Cells.{end_in, moment_in, number_in}
use Rattle.land_wire_json.specs.Bodies.WireFaults.{◌>>=◌}
use Rattle.land_wire_json.specs.declared.bodies.wire_fault.WireFault.{WireFault}
use Rattle.sqlite_value.specs.Order.{Row, column}

unfoldable pub mandate_in : Row → Result (Version Mandate) WireFault
mandate_in row = do
  principal ← number_in (column row 0)
  agent ← number_in (column row 1)
  since ← moment_in (column row 2)
  until ← end_in (column row 3)
  Ok (record { what = record { principal = principal; agent = agent }; since = since; until = until })
