use Rattle.land_select_queries.proofs.Selected.{texts_select}
use Rattle.land_select_queries.proofs.joins.laws.texts_select.Goals as goal

pub returns : goal.returns
returns c = texts_select
