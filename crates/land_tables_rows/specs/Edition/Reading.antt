-- Decodes a row of `edition`: its id, and the schema version of the tables.
use Rattle.std.specs.Prelude.{Result, Ok}
use Rattle.land_tables_rows.specs.Reading.Cells.{natural_in}
use Rattle.land_tables_rows.specs.declared.edition.reading.Edition.{Edition}
use Rattle.land_wire_json.specs.Bodies.WireFaults.{◌>>=◌}
use Rattle.land_wire_json.specs.declared.bodies.wire_fault.WireFault.{WireFault}
use Rattle.sqlite_value.specs.Order.{Row, column}

unfoldable pub edition_in : Row → Result Edition WireFault
edition_in row = do
  id ← natural_in (column row 0)
  version ← natural_in (column row 1)
  Ok (record { id = id; version = version })
