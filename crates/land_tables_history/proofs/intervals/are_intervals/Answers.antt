use Rattle.std.proofs.Common.{◌∙◌, sym}
use Rattle.land_tables_history.proofs.SpanOrders.{all_begun}
use Rattle.land_tables_history.proofs.intervals.are_intervals.Goals as goal

pub are_apart-requires : goal.are_apart-requires
are_apart-requires g c = all_begun c.args.stamps.now c.args.versions.now (sym c.all_intervals_of.ensures ∙ c.if-all_intervals_of.true)
