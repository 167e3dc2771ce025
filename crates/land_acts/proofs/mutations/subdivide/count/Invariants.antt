use Rattle.std.proofs.Common.{◌≡◌, ◌≤◌, ◌+◌, ◌*◌, drop}
use Rattle.land_acts.specs.Mutations.Subdividing.{count_for, origin_of, subdivision_count}
use Rattle.land_acts.proofs.mutations.subdivide.count.Given as goal

-- the objects so far, and those of the remaining parts; a part has at most 2^64 + 1
abbrev pub invariant-loop-part : goal.invariant-loop-part
invariant-loop-part l =
    (l.count + count_for (origin_of l.slice 0 l.it) (drop l.part-index l.it.rest) ≡ subdivision_count l.slice l.it)
    × (l.count ≤ l.part-index * 18446744073709551617 + 1)
