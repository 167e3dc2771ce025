-- Decodes a row of `source` (LA_Source): number, kind, title, since, until.
use Rattle.std.specs.Prelude.{ℕ, Result, Ok}
use Rattle.land_core.specs.declared.source.SourceRecord.{SourceRecord}
use Rattle.land_tables_history.specs.declared.version.Version.{Version}
use Rattle.land_tables_rows.specs.Reading.Cells.{end_in, moment_in, number_in, title_in}
use Rattle.land_tables_rows.specs.Reading.Words.{source_kind_in}
use Rattle.land_wire_json.specs.Bodies.WireFaults.{◌>>=◌}
use Rattle.land_wire_json.specs.declared.bodies.wire_fault.WireFault.{WireFault}
use Rattle.sqlite_value.specs.Order.{Row, column}

unfoldable pub source_in : Row → Result (Version (ℕ × SourceRecord)) WireFault
source_in row = do
  number ← number_in (column row 0)
  kind ← source_kind_in (column row 1)
  title ← title_in (column row 2)
  since ← moment_in (column row 3)
  until ← end_in (column row 4)
  Ok (record { what = (number, record { kind = kind; title = title }); since = since; until = until })
