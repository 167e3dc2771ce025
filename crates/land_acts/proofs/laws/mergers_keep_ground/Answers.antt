use Rattle.land_acts.proofs.AreaLaws.{mergers_keep_ground}
use Rattle.land_acts.proofs.laws.mergers_keep_ground.Goals as goal

pub returns : goal.returns
returns c = mergers_keep_ground
