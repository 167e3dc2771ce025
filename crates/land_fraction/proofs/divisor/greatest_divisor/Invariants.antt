use Rattle.std.proofs.Common.{ℕ}
use Rattle.land_fraction.specs.Divisor.{IsGreatestDivisor}
use Rattle.land_fraction.proofs.divisor.greatest_divisor.Given as goal

-- a greatest divisor of the current two numbers is one of the two arguments
abbrev pub invariant-loop-rest : goal.invariant-loop-rest
invariant-loop-rest l = (g : ℕ) → IsGreatestDivisor l.divisor l.rest g → IsGreatestDivisor l.fn.a l.fn.b g

abbrev pub decreases-loop-rest : goal.decreases-loop-rest
decreases-loop-rest l = l.rest
