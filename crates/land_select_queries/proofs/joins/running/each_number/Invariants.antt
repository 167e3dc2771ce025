use Rattle.std.proofs.Common.{◌≡◌, ◌++◌, drop, Ok}
use Rattle.land_tables_rows.specs.Reading.Cells.{natural_in}
use Rattle.land_tables_rows.specs.Reading.Readings.{each_row}
use Rattle.land_wire_json.specs.Bodies.WireFaults.{◌>>=◌}
use Rattle.sqlite_value.specs.Order.{column}
use Rattle.land_select_queries.proofs.joins.running.each_number.Given as goal

abbrev pub invariant-loop-row : goal.invariant-loop-row
invariant-loop-row l = each_row (λ row. natural_in (column row 0)) l.rows ≡ (each_row (λ row. natural_in (column row 0)) (drop l.row-index l.rows) >>= λ rest. Ok (l.all ++ rest))
