use Rattle.land_acts.proofs.AreaLaws.{mergers_keep_areas}
use Rattle.land_acts.proofs.laws.mergers_keep_areas.Goals as goal

pub returns : goal.returns
returns c = mergers_keep_areas
