use Rattle.land_digest.proofs.LastStamps.{last_stamp_same}
use Rattle.land_digest.proofs.laws.last_stamp_ignores_order.Goals as goal

pub returns : goal.returns
returns c = last_stamp_same
