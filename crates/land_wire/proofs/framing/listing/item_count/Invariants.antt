use Rattle.std.proofs.Common.{◌+◌, ◌≤◌, length}
use Rattle.land_wire.proofs.ListingLemmas.{Begins}
use Rattle.land_wire.proofs.framing.listing.item_count.Given as goal

abbrev pub invariant-loop-spans : goal.invariant-loop-spans
invariant-loop-spans l = Begins l.bytes l.rest l.count × (l.count + length l.rest ≤ length l.bytes)

abbrev pub decreases-loop-spans : goal.decreases-loop-spans
decreases-loop-spans l = length l.rest
