use Rattle.land_select_queries.proofs.Nobody.{nobodies_alike}
use Rattle.land_select_queries.proofs.sights.laws.out_of_range_see_alike.Goals as goal

pub returns : goal.returns
returns c = nobodies_alike c.soundness_by_number.ensures c.unreferenced_see_least.ensures
