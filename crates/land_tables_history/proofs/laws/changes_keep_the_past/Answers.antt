use Rattle.land_tables_history.proofs.Changes.{past_stands}
use Rattle.land_tables_history.proofs.laws.changes_keep_the_past.Goals as goal

pub returns : goal.returns
returns c = past_stands
