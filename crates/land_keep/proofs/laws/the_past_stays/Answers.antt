use Rattle.land_keep.proofs.Past.{past_stays}
use Rattle.land_keep.proofs.laws.the_past_stays.Goals as goal

pub returns : goal.returns
returns c = past_stays
