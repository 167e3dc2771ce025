use Rattle.std.proofs.Common.{◌≡◌, ◌≤◌, take}
use Rattle.land_fraction.specs.Wholeness.{parts_of}
use Rattle.land_fraction.proofs.lists.has_all_parts.Given as goal

-- the parts of the shares already processed
abbrev pub invariant-loop-share : goal.invariant-loop-share
invariant-loop-share l = (l.parts ≡ parts_of l.multiple (take l.share-index l.shares)) × (l.parts ≤ l.multiple)
