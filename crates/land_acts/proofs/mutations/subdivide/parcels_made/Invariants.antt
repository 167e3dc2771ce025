use Rattle.std.proofs.Common.{◌≡◌, ◌≤◌, ◌+◌, ◌++◌, drop}
use Rattle.land_acts.specs.Mutations.Subdividing.{all_parts, count_for, origin_of, parcels_made}
use Rattle.land_acts.proofs.mutations.subdivide.parcels_made.Given as goal
use Rattle.land_core.specs.Numbers.{last_next}

-- the parcels so far, followed by those of the remaining parts, which get the next numbers
abbrev pub invariant-loop-part : goal.invariant-loop-part
invariant-loop-part l =
    (l.parcels ++ parcels_made (origin_of l.slice l.source l.it) l.number (drop l.part-index l.it.rest) ≡ parcels_made (origin_of l.slice l.source l.it) l.slice.next (all_parts l.it))
    × (l.number + count_for (origin_of l.slice 0 l.it) (drop l.part-index l.it.rest) ≤ last_next)
