use Rattle.land_acts.proofs.AreaLaws.{subdivisions_keep_ground}
use Rattle.land_acts.proofs.laws.subdivisions_keep_ground.Goals as goal

pub returns : goal.returns
returns c = subdivisions_keep_ground
