use Rattle.land_rules.proofs.MandateRules.{citizens_give}
use Rattle.land_rules.proofs.laws.citizens_give_mandates.Goals as goal

pub returns : goal.returns
returns c = citizens_give
