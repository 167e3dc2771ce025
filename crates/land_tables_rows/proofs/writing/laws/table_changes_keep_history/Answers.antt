use Rattle.land_tables_rows.proofs.Histories.{table_changes_keep_history}
use Rattle.land_tables_rows.proofs.writing.laws.table_changes_keep_history.Goals as goal

pub returns : goal.returns
returns c = table_changes_keep_history
