use Rattle.land_tables.proofs.KeptIntervals.{writes_keep_intervals}
use Rattle.land_tables.proofs.timelines.writing_laws.writes_keep_intervals.Goals as goal

pub returns : goal.returns
returns c = writes_keep_intervals
