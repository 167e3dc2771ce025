use Rattle.land_rules.proofs.StandingLaws.{transfers_are_left}
use Rattle.land_rules.proofs.laws.conveyancers_and_notaries_lodge_transfers.Goals as goal

pub returns : goal.returns
returns c = transfers_are_left
