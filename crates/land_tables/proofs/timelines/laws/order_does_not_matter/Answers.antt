use Rattle.land_tables.proofs.Reordered.{reordered}
use Rattle.land_tables.proofs.timelines.laws.order_does_not_matter.Goals as goal

pub returns : goal.returns
returns c = reordered
