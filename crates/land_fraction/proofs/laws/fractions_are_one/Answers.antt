use Rattle.land_fraction.proofs.Fractions.{one_fraction}
use Rattle.land_fraction.proofs.laws.fractions_are_one.Goals as goal

pub returns : goal.returns
returns c = one_fraction
