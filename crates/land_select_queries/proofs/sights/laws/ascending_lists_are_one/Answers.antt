use Rattle.land_select_queries.proofs.Ascending.{one_list}
use Rattle.land_select_queries.proofs.sights.laws.ascending_lists_are_one.Goals as goal

pub returns : goal.returns
returns c = one_list
