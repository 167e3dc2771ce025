use Rattle.std.proofs.Common.{◌≡◌, take, map}
use Rattle.land_tables_schema.specs.Shapes.{column_of}
use Rattle.land_tables_schema.proofs.columns.are_columns.Given as goal

abbrev pub invariant-loop-at : goal.invariant-loop-at
invariant-loop-at l = take l.at l.columns ≡ map column_of (take l.at l.shapes)
