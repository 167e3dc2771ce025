use Rattle.land_tables.proofs.One.{last_is}
use Rattle.land_tables.proofs.timelines.laws.the_last_moment_is_the_last_stamp.Goals as goal

pub returns : goal.returns
returns c = last_is
