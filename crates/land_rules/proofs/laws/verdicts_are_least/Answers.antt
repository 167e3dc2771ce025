use Rattle.land_rules.proofs.Denied.{verdicts_least}
use Rattle.land_rules.proofs.laws.verdicts_are_least.Goals as goal

pub returns : goal.returns
returns c = verdicts_least
