use Rattle.land_wire_json.proofs.WellFormed.{bodies, contents}
use Rattle.land_wire_json.proofs.bodies.laws.readings_are_well_formed.Goals as goal

pub returns-clause-bodies : goal.returns-clause-bodies
returns-clause-bodies c = bodies

pub returns-clause-contents : goal.returns-clause-contents
returns-clause-contents c = contents
