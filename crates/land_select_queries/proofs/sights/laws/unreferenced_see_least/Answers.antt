use Rattle.land_select_queries.proofs.Nobody.{unnamed_alike}
use Rattle.land_select_queries.proofs.sights.laws.unreferenced_see_least.Goals as goal

pub returns : goal.returns
returns c = unnamed_alike
