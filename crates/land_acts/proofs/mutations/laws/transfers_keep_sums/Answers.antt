use Rattle.land_acts.proofs.TransferLaws.{transfers_keep_sums}
use Rattle.land_acts.proofs.mutations.laws.transfers_keep_sums.Goals as goal

pub returns : goal.returns
returns c = transfers_keep_sums
