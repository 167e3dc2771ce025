use Rattle.land_rules.proofs.SightByInterest.{interests_decide_sight}
use Rattle.land_rules.proofs.denials.laws.interests_decide_sight.Goals as goal

pub returns : goal.returns
returns c = interests_decide_sight c.soundness_by_number.ensures
