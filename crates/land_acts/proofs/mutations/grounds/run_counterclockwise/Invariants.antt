use Rattle.std.proofs.Common.{◌≡◌, true, take}
use Rattle.std.specs.List.{list_all}
use Rattle.land_shape.specs.Matching.{runs_counterclockwise}
use Rattle.land_acts.proofs.mutations.grounds.run_counterclockwise.Given as goal

-- all outlines so far run counterclockwise
abbrev pub invariant-loop-ring : goal.invariant-loop-ring
invariant-loop-ring l = list_all runs_counterclockwise (take l.ring-index l.rings) ≡ true
