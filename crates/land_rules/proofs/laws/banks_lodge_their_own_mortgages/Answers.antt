use Rattle.land_rules.proofs.StandingLaws.{own_mortgages}
use Rattle.land_rules.proofs.laws.banks_lodge_their_own_mortgages.Goals as goal

pub returns : goal.returns
returns c = own_mortgages
