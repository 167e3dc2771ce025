use Rattle.std.proofs.Common.{◌≡◌, ◌++◌, drop}
use Rattle.std.specs.List.{flat_map}
use Rattle.land_keep.specs.Named.{named_at, objects_at}
use Rattle.land_keep.proofs.named.objects_of.Given as goal

-- the objects collected, followed by those of the remaining numbers, are the result
abbrev pub invariant-loop-number : goal.invariant-loop-number
invariant-loop-number l = l.objects ++ flat_map (named_at l.register l.kind) (drop l.number-index l.numbers) ≡ objects_at l.register l.kind l.numbers
