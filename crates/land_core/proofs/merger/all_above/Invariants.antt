use Rattle.std.proofs.Common.{◌≡◌, drop}
use Rattle.land_core.specs.Mergers.{all_above}
use Rattle.land_core.proofs.merger.all_above.Given as goal

abbrev pub invariant-loop-number : goal.invariant-loop-number
invariant-loop-number l = all_above l.last l.numbers ≡ all_above l.above (drop l.number-index l.numbers)
