use Rattle.std.proofs.Common.{◌≡◌, length}
use Rattle.land_tables_validity.specs.Chains.{is_increasing}
use Rattle.land_tables_validity.proofs.moments.is_increasing.Given as goal

-- each of the prefix may precede the next one
abbrev pub invariant-loop-rest : goal.invariant-loop-rest
invariant-loop-rest l = is_increasing l.rest ≡ is_increasing l.moments

abbrev pub decreases-loop-rest : goal.decreases-loop-rest
decreases-loop-rest l = length l.rest
