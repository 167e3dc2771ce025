use Rattle.land_fraction.proofs.Moves.{parts-difference}
use Rattle.land_fraction.proofs.laws.parts_of_differences.Goals as goal

pub returns : goal.returns
returns c = parts-difference
