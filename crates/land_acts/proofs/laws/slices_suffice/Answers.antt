use Rattle.land_acts.proofs.SlicedOutcomes.{slices_suffice}
use Rattle.land_acts.proofs.laws.slices_suffice.Goals as goal

pub returns : goal.returns
returns c = slices_suffice
