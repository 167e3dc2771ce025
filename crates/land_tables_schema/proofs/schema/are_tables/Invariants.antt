use Rattle.std.proofs.Common.{◌≡◌, take, map}
use Rattle.land_tables_schema.specs.Shapes.{table_of}
use Rattle.land_tables_schema.proofs.schema.are_tables.Given as goal

abbrev pub invariant-loop-at : goal.invariant-loop-at
invariant-loop-at l = take l.at l.tables ≡ map table_of (take l.at l.shapes)
