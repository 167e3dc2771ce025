use Rattle.std.proofs.Common.{◌≤◌, take}
use Rattle.land_fraction.specs.Ratio.{max_denominator}
use Rattle.land_fraction.proofs.Multiples.{IsLeastOf}
use Rattle.land_fraction.proofs.lists.common.Given as goal

-- the least common multiple of the denominators already processed
abbrev pub invariant-loop-share : goal.invariant-loop-share
invariant-loop-share l = IsLeastOf l.multiple (take l.share-index l.shares) × (l.multiple ≤ max_denominator)
