use Rattle.land_fraction.proofs.Moves.{sum_kept}
use Rattle.land_fraction.proofs.laws.moving_keeps_the_sum.Goals as goal

pub returns : goal.returns
returns c = sum_kept
