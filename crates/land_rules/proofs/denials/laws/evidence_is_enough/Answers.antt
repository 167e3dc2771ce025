use Rattle.land_rules.proofs.Enough.{evidence_is_enough}
use Rattle.land_rules.proofs.denials.laws.evidence_is_enough.Goals as goal

pub returns : goal.returns
returns c = evidence_is_enough
