use Rattle.std.proofs.Common.{◌≡◌, ◌++◌, drop}
use Rattle.land_shape.specs.Edges.{edges}
use Rattle.land_shape.specs.Simple.{places}
use Rattle.land_shape.specs.Walks.{walks}
use Rattle.land_shape.proofs.walking.with_walks.Given as goal

abbrev pub invariant-loop-edge : goal.invariant-loop-edge
invariant-loop-edge l =
    edges l.all.items ++ walks (places l.corners) (edges (drop l.edge-index l.list))
    ≡ edges l.fn.so_far.items ++ walks (places l.corners) (edges l.list)
