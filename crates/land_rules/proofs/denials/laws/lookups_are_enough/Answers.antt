use Rattle.land_rules.proofs.LookedUp.{lookups_are_enough}
use Rattle.land_rules.proofs.denials.laws.lookups_are_enough.Goals as goal

pub returns : goal.returns
returns c = lookups_are_enough
