use Rattle.land_acts.proofs.MutationLaws.{decisions_stay}
use Rattle.land_acts.proofs.laws.decisions_stay.Goals as goal

pub returns : goal.returns
returns c = decisions_stay
