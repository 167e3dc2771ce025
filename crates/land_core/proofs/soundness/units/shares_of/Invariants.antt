use Rattle.std.proofs.Common.{◌≡◌, ◌++◌, drop}
use Rattle.land_core.specs.ByUnit.{claimed_shares}
use Rattle.land_core.proofs.soundness.units.shares_of.Given as goal

-- the shares collected, followed by those of the remaining claims, are the result
abbrev pub invariant-loop-claim : goal.invariant-loop-claim
invariant-loop-claim l = l.shares ++ claimed_shares l.right_type (drop l.claim-index l.claims) ≡ claimed_shares l.right_type l.claims
