use Rattle.land_keep.proofs.Timelines.{written_sound}
use Rattle.land_keep.proofs.laws.writing_keeps_soundness.Goals as goal

pub returns : goal.returns
returns c = written_sound
