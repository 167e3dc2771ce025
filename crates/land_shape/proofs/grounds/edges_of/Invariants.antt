use Rattle.std.proofs.Common.{◌≡◌, ◌++◌, drop}
use Rattle.land_shape.specs.Edges.{edges}
use Rattle.land_shape.specs.Matching.{edges_of}
use Rattle.land_shape.proofs.grounds.edges_of.Given as goal

abbrev pub invariant-loop-ring : goal.invariant-loop-ring
invariant-loop-ring l = edges l.all.items ++ edges_of (drop l.ring-index l.rings) ≡ edges_of l.rings
