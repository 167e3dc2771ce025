use Rattle.land_rules.proofs.InCircles.{alone}
use Rattle.land_rules.proofs.laws.circles_without_mandates.Goals as goal

pub returns : goal.returns
returns c = alone
