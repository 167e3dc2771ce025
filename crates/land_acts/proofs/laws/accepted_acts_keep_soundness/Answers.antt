use Rattle.land_acts.proofs.Accepted.{accepted_sound}
use Rattle.land_acts.proofs.laws.accepted_acts_keep_soundness.Goals as goal

pub returns : goal.returns
returns c = accepted_sound
