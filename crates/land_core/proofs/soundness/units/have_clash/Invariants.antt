use Rattle.std.proofs.Common.{◌≡◌, length}
use Rattle.land_core.specs.ByUnit.{have_clash}
use Rattle.land_core.proofs.soundness.units.have_clash.Given as goal

-- no claim already processed clashes with a later one
abbrev pub invariant-loop-rest : goal.invariant-loop-rest
invariant-loop-rest l = have_clash l.rest ≡ have_clash l.claims

abbrev pub decreases-loop-rest : goal.decreases-loop-rest
decreases-loop-rest l = length l.rest
