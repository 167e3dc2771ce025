use Rattle.land_tables.proofs.WrittenVersions.{writes_represent_timelines}
use Rattle.land_tables.proofs.timelines.writing_laws.writes_represent_timelines.Goals as goal

pub returns : goal.returns
returns c = writes_represent_timelines
