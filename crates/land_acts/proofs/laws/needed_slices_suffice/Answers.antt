use Rattle.land_acts.proofs.SlicedOutcomes.{needed_slices_suffice}
use Rattle.land_acts.proofs.laws.needed_slices_suffice.Goals as goal

pub returns : goal.returns
returns c = needed_slices_suffice
