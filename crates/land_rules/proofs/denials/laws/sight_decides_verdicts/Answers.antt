use Rattle.land_rules.proofs.Telling.{sight_decides_verdicts}
use Rattle.land_rules.proofs.denials.laws.sight_decides_verdicts.Goals as goal

pub returns : goal.returns
returns c = sight_decides_verdicts c.denials_reveal_only_sight.ensures
