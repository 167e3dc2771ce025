use Rattle.land_keep.proofs.WholeShares.{shares_are_whole}
use Rattle.land_keep.proofs.laws.shares_are_whole.Goals as goal

pub returns : goal.returns
returns c = shares_are_whole
