use Rattle.land_acts.proofs.RegisterAreas.{approved_registers_keep_their_area}
use Rattle.land_acts.proofs.laws.approved_registers_keep_their_area.Goals as goal

pub returns : goal.returns
returns c = approved_registers_keep_their_area
