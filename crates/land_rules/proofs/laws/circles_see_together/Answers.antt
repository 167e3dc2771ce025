use Rattle.land_rules.proofs.CircleLaws.{circles_see_together}
use Rattle.land_rules.proofs.laws.circles_see_together.Goals as goal

pub returns : goal.returns
returns c = circles_see_together
