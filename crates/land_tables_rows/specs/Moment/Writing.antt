-- Rows of the table `moments`.
use Rattle.std.specs.Prelude.{List}
use Rattle.land_tables_history.specs.declared.moment.Moment.{Moment}
use Rattle.land_tables_rows.specs.Moment.Reading.{moment_row_in}
use Rattle.land_tables_rows.specs.Writing.Holding.{HoldsNumbered, HoldsOneMore}
use Rattle.land_tables_schema.specs.Tables as table
use Rattle.sqlite.specs.Effect.{Database}
use Rattle.sqlite_trees.specs.Tree.{Trees}

-- the table holds these moments of change
abbrev pub HoldsMoments : Trees → List Moment → Type 0
HoldsMoments db moments = HoldsNumbered table.moments moment_row_in db moments

-- one moment more is inserted
abbrev pub InsertsMoment : Moment → Database → Database → Type 0
InsertsMoment moment old new = HoldsOneMore table.moments moment_row_in moment old new
