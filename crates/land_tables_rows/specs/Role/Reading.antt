-- Decodes a row of `role` (LA_PartyRoleType): party, role, since, until.
use Rattle.std.specs.Prelude.{Result, Ok}
use Rattle.land_core.specs.declared.roles.Grant.{Grant}
use Rattle.land_tables_history.specs.declared.version.Version.{Version}
use Rattle.land_tables_rows.specs.Reading.Cells.{end_in, moment_in, number_in}
use Rattle.land_tables_rows.specs.Reading.Words.{role_in}
use Rattle.land_wire_json.specs.Bodies.WireFaults.{◌>>=◌}
use Rattle.land_wire_json.specs.declared.bodies.wire_fault.WireFault.{WireFault}
use Rattle.sqlite_value.specs.Order.{Row, column}

unfoldable pub role_grant_in : Row → Result (Version Grant) WireFault
role_grant_in row = do
  party ← number_in (column row 0)
  role ← role_in (column row 1)
  since ← moment_in (column row 2)
  until ← end_in (column row 3)
  Ok (record { what = record { party = party; role = role }; since = since; until = until })
