use Rattle.land_rules.proofs.SightLaws.{members_are_holders}
use Rattle.land_rules.proofs.laws.members_are_holders.Goals as goal

pub returns : goal.returns
returns c = members_are_holders
