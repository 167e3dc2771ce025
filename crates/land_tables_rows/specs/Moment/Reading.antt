-- Decodes a row of `moments`: when the register changed, and the number that the next new object takes after
-- that.
use Rattle.std.specs.Prelude.{Result, Ok}
use Rattle.land_tables_history.specs.declared.moment.Moment.{Moment}
use Rattle.land_tables_rows.specs.Reading.Cells.{moment_in, next_in}
use Rattle.land_wire_json.specs.Bodies.WireFaults.{◌>>=◌}
use Rattle.land_wire_json.specs.declared.bodies.wire_fault.WireFault.{WireFault}
use Rattle.sqlite_value.specs.Order.{Row, column}

unfoldable pub moment_row_in : Row → Result Moment WireFault
moment_row_in row = do
  stamp ← moment_in (column row 0)
  next ← next_in (column row 1)
  Ok (record { stamp = stamp; next = next })
