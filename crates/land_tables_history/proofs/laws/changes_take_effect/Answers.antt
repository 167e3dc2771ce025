use Rattle.land_tables_history.proofs.Changes.{change_stands}
use Rattle.land_tables_history.proofs.laws.changes_take_effect.Goals as goal

pub returns : goal.returns
returns c = change_stands
