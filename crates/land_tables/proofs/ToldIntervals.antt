-- The decoded intervals of tables are valid if and only if those of the versions that they hold are.
use Rattle.std.proofs.Common.{◌≡◌}
use Rattle.land_keep.specs.Timeline.{Timeline}
use Rattle.land_tables.proofs.IntervalOrders.{intervals_anyhow}
use Rattle.land_tables.proofs.Tellings.{held_is_said, told_reordered}
use Rattle.land_tables.specs.Standing.{HoldsTimeline}
use Rattle.land_tables_history.specs.Intervals.{has_intervals}
use Rattle.land_tables_rows.proofs.ToldTables.{told_is}
use Rattle.land_tables_rows.specs.Listing.Reading.{moments}
use Rattle.land_tables_rows.specs.Listing.Told.{decoded_history, decode_rows}
use Rattle.sqlite_trees.specs.Tree.{Trees}

pub told_intervals : (db : Trees) (tl : Timeline) (holds : HoldsTimeline db tl) → has_intervals (decode_rows moments db) (decoded_history db) ≡ has_intervals holds.listed holds.history
told_intervals db tl holds =
    intervals_anyhow holds.listed (decode_rows moments db) holds.history (decoded_history db) (told_is moments db holds.listed holds.holds.the_moments)
    (told_reordered db holds.history (held_is_said db holds.listed holds.history holds.holds))
