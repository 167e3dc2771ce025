use Rattle.std.proofs.Common.{◌≡◌, ◌-◌, ◌^◌}
use Rattle.land_tables_rows.proofs.Streaming.{IsUnderWay}
use Rattle.land_tables_rows.proofs.listing.reading.read_rows.Given as goal

abbrev pub invariant-rows : goal.invariant-rows
invariant-rows g l =
    (l.rows.conn.ghost_name ≡ l.initial.rows.conn.ghost_name) × IsUnderWay g.S.Store g.X.Listed.listing l.fn.text l.fn.conn l.rows.conn.now l.read

-- The number of rows is a u64.
abbrev pub decreases-rows : goal.decreases-rows
decreases-rows g l = 2 ^ 64 - l.count
