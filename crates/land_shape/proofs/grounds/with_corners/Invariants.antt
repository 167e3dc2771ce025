use Rattle.std.proofs.Common.{◌≡◌, ◌++◌, drop}
use Rattle.land_shape.specs.Simple.{places}
use Rattle.land_shape.specs.Matching.{places_of}
use Rattle.land_shape.proofs.grounds.with_corners.Given as goal

abbrev pub invariant-loop-ring : goal.invariant-loop-ring
invariant-loop-ring l = places l.all.items ++ places_of (drop l.ring-index l.rings) ≡ places l.fn.so_far.items ++ places_of l.rings
