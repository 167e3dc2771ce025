use Rattle.land_tables.proofs.AdoptedTimelines.{lawful_stands}
use Rattle.land_tables.proofs.timelines.laws.valid_histories_represent_timelines.Goals as goal

pub returns : goal.returns
returns c = lawful_stands
