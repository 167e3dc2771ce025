use Rattle.land_acts.proofs.MutationLaws.{repeats_are_told}
use Rattle.land_acts.proofs.laws.repeats_get_the_first_receipt.Goals as goal

pub returns : goal.returns
returns c = repeats_are_told
