use Rattle.land_tables.proofs.One.{stands_for_one}
use Rattle.land_tables.proofs.timelines.laws.histories_represent_one_timeline.Goals as goal

pub returns : goal.returns
returns c = stands_for_one c.soundness_by_number.ensures
