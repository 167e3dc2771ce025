use Rattle.land_core.proofs.RecordLookups.{by_look_ups}
use Rattle.land_core.proofs.laws.soundness_by_number.Goals as goal

pub returns : goal.returns
returns c = by_look_ups c.wholeness_of_lists.ensures
