use Rattle.land_tables.proofs.One.{reads}
use Rattle.land_tables.proofs.timelines.laws.reading_is_the_register.Goals as goal

pub returns : goal.returns
returns c = reads c.soundness_by_number.ensures
