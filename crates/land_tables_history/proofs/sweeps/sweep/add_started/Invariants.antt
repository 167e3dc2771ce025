use Rattle.std.proofs.Common.{◌≡◌, ◌++◌, length}
use Rattle.land_tables_history.specs.Sweeps.SweepSteps.{begun_by, left_by}
use Rattle.land_tables_history.proofs.sweeps.sweep.add_started.Given as goal

-- the current values with those that start by the tick are the wanted ones, and so are the remaining ones
abbrev pub invariant-loop-rest : goal.invariant-loop-rest
invariant-loop-rest g l = (l.there.items ++ begun_by l.tick l.rest ≡ l.fn.there.items ++ begun_by l.tick l.later) × (left_by l.tick l.rest ≡ left_by l.tick l.later)

abbrev pub decreases-loop-rest : goal.decreases-loop-rest
decreases-loop-rest g l = length l.rest
