use Rattle.land_rules.proofs.SightByInterest.{names_decide_interests}
use Rattle.land_rules.proofs.denials.laws.names_decide_interests.Goals as goal

pub returns : goal.returns
returns c = names_decide_interests
