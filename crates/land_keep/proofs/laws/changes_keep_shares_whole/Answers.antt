use Rattle.land_keep.proofs.WholeShares.{changes_keep_shares_whole}
use Rattle.land_keep.proofs.laws.changes_keep_shares_whole.Goals as goal

pub returns : goal.returns
returns c = changes_keep_shares_whole
