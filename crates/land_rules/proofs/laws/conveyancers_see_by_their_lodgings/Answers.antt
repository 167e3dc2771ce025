use Rattle.land_rules.proofs.SightLaws.{conveyancers_see}
use Rattle.land_rules.proofs.laws.conveyancers_see_by_their_lodgings.Goals as goal

pub returns : goal.returns
returns c = conveyancers_see
