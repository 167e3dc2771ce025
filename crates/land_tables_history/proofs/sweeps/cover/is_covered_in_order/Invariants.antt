use Rattle.std.proofs.Common.{◌≡◌, None, length}
use Rattle.land_tables_history.specs.Sweeps.CoverSteps.{covered_from}
use Rattle.land_tables_history.proofs.sweeps.cover.is_covered_in_order.Given as goal

-- the remaining spans decide, from the reach so far
abbrev pub invariant-loop-rest : goal.invariant-loop-rest
invariant-loop-rest l = covered_from l.reached l.rest ≡ covered_from None l.coverage_spans

abbrev pub decreases-loop-rest : goal.decreases-loop-rest
decreases-loop-rest l = length l.rest
