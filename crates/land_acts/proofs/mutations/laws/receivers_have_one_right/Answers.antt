use Rattle.land_acts.proofs.TransferLaws.{receivers_have_one_right}
use Rattle.land_acts.proofs.mutations.laws.receivers_have_one_right.Goals as goal

pub returns : goal.returns
returns c = receivers_have_one_right
