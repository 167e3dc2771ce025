use Rattle.std.proofs.Common.{◌≡◌, ◌≤◌, ◌+◌, ◌++◌, drop}
use Rattle.land_acts.specs.Mutations.Subdividing.{all_parts, copies_made, count_for, origin_of}
use Rattle.land_acts.proofs.mutations.subdivide.copies_made.Given as goal
use Rattle.land_core.specs.Numbers.{last_next}

-- the copies so far, followed by those for the remaining parts, which get the next numbers
abbrev pub invariant-loop-part : goal.invariant-loop-part
invariant-loop-part l =
    (l.rrrs ++ copies_made (origin_of l.slice 0 l.it) l.number (drop l.part-index l.it.rest) ≡ copies_made (origin_of l.slice 0 l.it) l.slice.next (all_parts l.it))
    × (l.number + count_for (origin_of l.slice 0 l.it) (drop l.part-index l.it.rest) ≤ last_next)
