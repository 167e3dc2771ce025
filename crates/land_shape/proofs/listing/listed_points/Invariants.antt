use Rattle.std.proofs.Common.{take}
use Rattle.land_shape.specs.Faults.{AreLocatedAt}
use Rattle.land_shape.specs.Simple.{places}
use Rattle.land_shape.proofs.listing.listed_points.Given as goal

abbrev pub invariant-loop-words : goal.invariant-loop-words
invariant-loop-words l = AreLocatedAt (take l.words-index l.ring) (places l.points.items)
