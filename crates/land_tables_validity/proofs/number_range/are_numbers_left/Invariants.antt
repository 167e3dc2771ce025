use Rattle.std.proofs.Common.{◌≡◌, drop}
use Rattle.land_tables_validity.specs.NumbersInUse.{are_numbers_left}
use Rattle.land_tables_validity.proofs.number_range.are_numbers_left.Given as goal

-- the remaining entries yield the same result
abbrev pub invariant-loop-moment : goal.invariant-loop-moment
invariant-loop-moment l = are_numbers_left (drop l.moment-index l.moments) ≡ are_numbers_left l.moments
