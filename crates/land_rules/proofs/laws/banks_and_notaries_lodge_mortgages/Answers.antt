use Rattle.land_rules.proofs.StandingLaws.{mortgages_are_left}
use Rattle.land_rules.proofs.laws.banks_and_notaries_lodge_mortgages.Goals as goal

pub returns : goal.returns
returns c = mortgages_are_left
