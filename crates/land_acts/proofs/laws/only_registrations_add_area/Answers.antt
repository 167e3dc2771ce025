use Rattle.land_acts.proofs.RegisterAreas.{only_registrations_add_area}
use Rattle.land_acts.proofs.laws.only_registrations_add_area.Goals as goal

pub returns : goal.returns
returns c = only_registrations_add_area
