-- Decodes a row of `party` (LA_Party): number, name, kind, since, until.
use Rattle.std.specs.Prelude.{ℕ, Result, Ok}
use Rattle.land_core.specs.declared.party.PartyRecord.{PartyRecord}
use Rattle.land_tables_history.specs.declared.version.Version.{Version}
use Rattle.land_tables_rows.specs.Reading.Cells.{end_in, moment_in, name_in, number_in}
use Rattle.land_tables_rows.specs.Reading.Words.{party_kind_in}
use Rattle.land_wire_json.specs.Bodies.WireFaults.{◌>>=◌}
use Rattle.land_wire_json.specs.declared.bodies.wire_fault.WireFault.{WireFault}
use Rattle.sqlite_value.specs.Order.{Row, column}

unfoldable pub party_in : Row → Result (Version (ℕ × PartyRecord)) WireFault
party_in row = do
  number ← number_in (column row 0)
  name ← name_in (column row 1)
  kind ← party_kind_in (column row 2)
  since ← moment_in (column row 3)
  until ← end_in (column row 4)
  Ok (record { what = (number, record { kind = kind; name = name }); since = since; until = until })
