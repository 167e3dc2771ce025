use Rattle.land_keep.proofs.Past.{change_stands}
use Rattle.land_keep.proofs.laws.a_change_applies_from_its_stamp.Goals as goal

pub returns : goal.returns
returns c = change_stands
