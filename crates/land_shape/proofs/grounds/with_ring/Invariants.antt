use Rattle.std.proofs.Common.{◌≡◌, ◌++◌, [], ◌∷◌, drop}
use Rattle.land_shape.specs.Edges.{edges}
use Rattle.land_shape.specs.Place.{path_edges, ring_edges}
use Rattle.land_shape.specs.Simple.{place_of, places}
use Rattle.land_shape.proofs.grounds.with_ring.Given as goal

abbrev pub invariant-loop-point : goal.invariant-loop-point
invariant-loop-point l =
    edges l.all.items ++ path_edges (place_of l.last ∷ (places (drop l.point-index l.point-items) ++ place_of l.first ∷ []))
    ≡ edges l.fn.so_far.items ++ ring_edges (places l.points)
