use Rattle.std.proofs.Common.{◌≡◌, ◌++◌, drop, map}
use Rattle.land_shape.specs.Edges.{edges}
use Rattle.land_shape.specs.Matching.{reversed_edge}
use Rattle.land_shape.proofs.walking.reversed_edges.Given as goal

abbrev pub invariant-loop-edge : goal.invariant-loop-edge
invariant-loop-edge l = edges l.all.items ++ map reversed_edge (edges (drop l.edge-index l.list)) ≡ map reversed_edge (edges l.list)
