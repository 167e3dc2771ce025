use Rattle.land_rules.proofs.SightLaws.{members_see}
use Rattle.land_rules.proofs.laws.members_see_their_groups.Goals as goal

pub returns : goal.returns
returns c = members_see
