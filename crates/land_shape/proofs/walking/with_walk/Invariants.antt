use Rattle.std.proofs.Common.{◌≡◌, ◌++◌, drop}
use Rattle.land_shape.specs.Edges.{edges}
use Rattle.land_shape.specs.Simple.{place_of, places}
use Rattle.land_shape.specs.Walks.{walk}
use Rattle.land_shape.proofs.walking.with_walk.Given as goal

abbrev pub invariant-loop-corner : goal.invariant-loop-corner
invariant-loop-corner l =
    edges l.all.items ++ walk (place_of l.last) (place_of l.edge.to) (places (drop l.corner-index l.corners))
    ≡ edges l.fn.so_far.items ++ walk (place_of l.edge.from) (place_of l.edge.to) (places l.corners)
