use Rattle.std.proofs.Common.{◌≡◌, length}
use Rattle.land_tables_history.specs.Sweeps.ApartSteps.{are_neighbours_apart}
use Rattle.land_tables_history.proofs.sweeps.apart.are_neighbours_apart.Given as goal

-- in the prefix, no span overlaps the next one
abbrev pub invariant-loop-rest : goal.invariant-loop-rest
invariant-loop-rest g l = are_neighbours_apart g.K.Ord.cmp l.rest ≡ are_neighbours_apart g.K.Ord.cmp l.spans

abbrev pub decreases-loop-rest : goal.decreases-loop-rest
decreases-loop-rest g l = length l.rest
