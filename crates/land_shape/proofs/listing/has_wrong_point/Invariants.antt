use Rattle.std.proofs.Common.{take}
use Rattle.land_shape.specs.Faults.{SomeOf, IsNotNumber}
use Rattle.land_shape.proofs.listing.has_wrong_point.Given as goal

abbrev pub invariant-loop-point : goal.invariant-loop-point
invariant-loop-point l = ¬ SomeOf (SomeOf IsNotNumber) (take l.point-index l.points)
