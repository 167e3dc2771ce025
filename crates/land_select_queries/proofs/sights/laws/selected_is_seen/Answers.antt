use Rattle.land_select_queries.proofs.Seeing.{one_seen}
use Rattle.land_select_queries.proofs.sights.laws.selected_is_seen.Goals as goal

pub returns : goal.returns
returns c = one_seen c.selections_are_the_rules.ensures c.seen_lists_are_exact.ensures
