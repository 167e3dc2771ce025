use Rattle.land_rules.proofs.ActLaws.{lodgers_do_not_decide}
use Rattle.land_rules.proofs.laws.lodgers_do_not_decide.Goals as goal

pub returns : goal.returns
returns c = lodgers_do_not_decide
