use Rattle.land_acts.proofs.Accepted.{nothing_unstamped}
use Rattle.land_acts.proofs.laws.nothing_is_accepted_without_a_stamp.Goals as goal

pub returns : goal.returns
returns c = nothing_unstamped
