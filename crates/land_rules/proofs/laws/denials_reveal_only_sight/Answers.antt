use Rattle.land_rules.proofs.SightDenials.{denials_reveal_only_sight}
use Rattle.land_rules.proofs.laws.denials_reveal_only_sight.Goals as goal

pub returns : goal.returns
returns c = denials_reveal_only_sight
