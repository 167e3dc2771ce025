use Rattle.land_select_queries.proofs.Seeing.{the_rules}
use Rattle.land_select_queries.proofs.sights.laws.selections_are_the_rules.Goals as goal

pub returns : goal.returns
returns c = the_rules c.seen_lists_are_exact.ensures c.soundness_by_number.ensures
