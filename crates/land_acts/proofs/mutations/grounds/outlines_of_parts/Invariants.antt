use Rattle.std.proofs.Common.{◌≡◌, ◌++◌, drop}
use Rattle.land_acts.specs.Mutations.Subdividing.{all_parts, outlines_of}
use Rattle.land_acts.proofs.mutations.grounds.outlines_of_parts.Given as goal

-- the outlines so far, followed by those of the remaining parts
abbrev pub invariant-loop-part : goal.invariant-loop-part
invariant-loop-part l = l.rings ++ outlines_of (drop l.part-index l.it.rest) ≡ outlines_of (all_parts l.it)
