use Rattle.land_tables.proofs.Lawfulness.{sound_is_lawful}
use Rattle.land_tables.proofs.timelines.validation_laws.sound_timelines_are_valid.Goals as goal

pub returns : goal.returns
returns c = sound_is_lawful c.soundness_by_number.ensures
