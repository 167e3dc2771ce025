use Rattle.land_acts.proofs.Accepted.{accepted_once}
use Rattle.land_acts.proofs.laws.changes_name_keys_once.Goals as goal

pub returns : goal.returns
returns c = accepted_once
