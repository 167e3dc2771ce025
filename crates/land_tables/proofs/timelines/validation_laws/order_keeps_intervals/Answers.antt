use Rattle.land_tables.proofs.IntervalOrders.{intervals_anyhow}
use Rattle.land_tables.proofs.timelines.validation_laws.order_keeps_intervals.Goals as goal

pub returns : goal.returns
returns c = intervals_anyhow
