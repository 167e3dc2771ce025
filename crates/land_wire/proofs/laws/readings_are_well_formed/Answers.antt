use Rattle.land_wire.proofs.WellFormed.{reading-well_formed}
use Rattle.land_wire.proofs.laws.readings_are_well_formed.Goals as goal

pub returns : goal.returns
returns c = reading-well_formed c.readings_are_well_formed.ensures.bodies
