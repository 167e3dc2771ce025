use Rattle.land_rules.proofs.ActLaws.{administrators_decide}
use Rattle.land_rules.proofs.laws.administrators_decide_for_others.Goals as goal

pub returns : goal.returns
returns c = administrators_decide
