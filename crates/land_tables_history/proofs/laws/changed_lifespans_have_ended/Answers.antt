use Rattle.land_tables_history.proofs.Changes.{changed_have_ended}
use Rattle.land_tables_history.proofs.laws.changed_lifespans_have_ended.Goals as goal

pub returns : goal.returns
returns c = changed_have_ended
