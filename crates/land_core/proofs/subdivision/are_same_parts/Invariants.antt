use Rattle.std.proofs.Common.{◌≡◌, drop, length}
use Rattle.land_core.specs.Subdivisions.{are_same_parts}
use Rattle.land_core.proofs.subdivision.are_same_parts.Given as goal

abbrev pub invariant-loop-place : goal.invariant-loop-place
invariant-loop-place l =
    (length l.parts ≡ length l.others)
    × (are_same_parts l.parts l.others ≡ are_same_parts (drop l.place l.parts) (drop l.place l.others))
