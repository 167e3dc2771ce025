use Rattle.land_keep.proofs.Unseen.{replies_reveal_nothing_unseen}
use Rattle.land_keep.proofs.laws.replies_reveal_nothing_unseen.Goals as goal

pub returns : goal.returns
returns c = replies_reveal_nothing_unseen
