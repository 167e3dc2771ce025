use Rattle.land_tables_history.proofs.Kept.{changes_keep_intervals}
use Rattle.land_tables_history.proofs.laws.changes_keep_intervals.Goals as goal

pub returns : goal.returns
returns c = changes_keep_intervals
