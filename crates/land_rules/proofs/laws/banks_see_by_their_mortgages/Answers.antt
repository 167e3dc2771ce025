use Rattle.land_rules.proofs.SightLaws.{banks_see}
use Rattle.land_rules.proofs.laws.banks_see_by_their_mortgages.Goals as goal

pub returns : goal.returns
returns c = banks_see
