use Rattle.std.proofs.Common.{take}
use Rattle.land_shape.specs.Faults.{SomeOf, HasManyWords}
use Rattle.land_shape.proofs.plain.has_long_point.Given as goal

abbrev pub invariant-loop-point : goal.invariant-loop-point
invariant-loop-point l = ¬ SomeOf HasManyWords (take l.point-index l.points)
