use Rattle.land_acts.proofs.Accepted.{tells_stamp}
use Rattle.land_acts.proofs.laws.accepted_acts_return_their_stamp.Goals as goal

pub returns : goal.returns
returns c = tells_stamp
