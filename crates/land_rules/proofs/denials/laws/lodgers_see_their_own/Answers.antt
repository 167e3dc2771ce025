use Rattle.land_rules.proofs.Telling.{lodgers_see_their_own}
use Rattle.land_rules.proofs.denials.laws.lodgers_see_their_own.Goals as goal

pub returns : goal.returns
returns c = lodgers_see_their_own
