use Rattle.std.proofs.Common.{arith}
use Rattle.land_fraction.proofs.Divisors.{greatest_of_rest, greatest_of_zero}
use Rattle.land_fraction.proofs.divisor.greatest_divisor.Goals as goal

pub loop-rest-preserved : goal.loop-rest-preserved
loop-rest-preserved c g h = c.loop-rest.invariant g (greatest_of_rest _ _ g h)

pub returns : goal.returns
returns c = c.loop-rest.invariant _ (greatest_of_zero _ _ (omega arith))
