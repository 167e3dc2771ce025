use Rattle.land_tables_history.proofs.WrittenVersions.{closes_all}
use Rattle.land_tables_history.proofs.laws.writes_close_all.Goals as goal

pub returns : goal.returns
returns c = closes_all
