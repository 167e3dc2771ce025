use Rattle.land_fraction.proofs.Moves.{parts-sum}
use Rattle.land_fraction.proofs.laws.parts_of_sums.Goals as goal

pub returns : goal.returns
returns c = parts-sum
