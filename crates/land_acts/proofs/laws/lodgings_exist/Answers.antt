use Rattle.land_acts.proofs.MutationLaws.{lodgings_exist}
use Rattle.land_acts.proofs.laws.lodgings_exist.Goals as goal

pub returns : goal.returns
returns c = lodgings_exist
