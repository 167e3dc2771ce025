-- Decodes a row of `parcel` (LA_SpatialUnit): number, unit, label, outline, source, since, until. The outline
-- may be in any valid form.
use Rattle.std.specs.Prelude.{ℕ, Result, Ok}
use Rattle.land_core.specs.declared.parcel.ParcelRecord.{ParcelRecord}
use Rattle.land_tables_history.specs.declared.version.Version.{Version}
use Rattle.land_tables_rows.specs.Reading.Cells.{end_in, label_in, moment_in, number_in, text_in}
use Rattle.land_wire_json.specs.Bodies.Outlines.{outline_of}
use Rattle.land_wire_json.specs.Bodies.WireFaults.{◌>>=◌}
use Rattle.land_wire_json.specs.declared.bodies.wire_fault.WireFault.{WireFault}
use Rattle.sqlite_value.specs.Order.{Row, column}

unfoldable pub parcel_in : Row → Result (Version (ℕ × ParcelRecord)) WireFault
parcel_in row = do
  number ← number_in (column row 0)
  unit ← number_in (column row 1)
  label ← label_in (column row 2)
  text ← text_in (column row 3)
  outline ← outline_of text
  source ← number_in (column row 4)
  since ← moment_in (column row 5)
  until ← end_in (column row 6)
  Ok (record {
    what = (number, record { unit = unit; label = label; outline = outline; source = source });
    since = since;
    until = until;
  })
