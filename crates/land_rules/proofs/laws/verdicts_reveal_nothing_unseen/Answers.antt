use Rattle.land_rules.proofs.Alike.{same_verdicts}
use Rattle.land_rules.proofs.laws.verdicts_reveal_nothing_unseen.Goals as goal

pub returns : goal.returns
returns c = same_verdicts
