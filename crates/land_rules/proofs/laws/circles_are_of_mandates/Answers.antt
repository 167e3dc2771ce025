use Rattle.land_rules.proofs.InCircles.{are_of_mandates}
use Rattle.land_rules.proofs.laws.circles_are_of_mandates.Goals as goal

pub returns : goal.returns
returns c = are_of_mandates
