use Rattle.land_acts.proofs.MutationLaws.{lodgings_stay}
use Rattle.land_acts.proofs.laws.lodgings_stay.Goals as goal

pub returns : goal.returns
returns c = lodgings_stay
