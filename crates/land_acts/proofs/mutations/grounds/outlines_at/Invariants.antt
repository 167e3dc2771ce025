use Rattle.std.proofs.Common.{◌≡◌, ◌++◌, drop}
use Rattle.land_acts.specs.Mutations.Areas.{outlines_at}
use Rattle.land_acts.proofs.mutations.grounds.outlines_at.Given as goal

-- the outlines so far, followed by the remaining ones
abbrev pub invariant-loop-number : goal.invariant-loop-number
invariant-loop-number l = l.rings ++ outlines_at l.slice (drop l.number-index l.numbers) ≡ outlines_at l.slice l.numbers
