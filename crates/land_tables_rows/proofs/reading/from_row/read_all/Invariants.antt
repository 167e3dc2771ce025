use Rattle.std.proofs.Common.{◌≡◌, ◌++◌, drop, Ok}
use Rattle.land_tables_rows.specs.Reading.Readings.{each_row}
use Rattle.land_wire_json.specs.Bodies.WireFaults.{◌>>=◌}
use Rattle.land_tables_rows.proofs.reading.from_row.read_all.Given as goal

abbrev pub invariant-loop-row : goal.invariant-loop-row
invariant-loop-row g l = each_row g.X.FromRow.said l.rows ≡ (each_row g.X.FromRow.said (drop l.row-index l.rows) >>= λ rest. Ok (l.all ++ rest))
