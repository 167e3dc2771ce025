use Rattle.std.proofs.Common.{◌≡◌, ◌-◌, ◌^◌, length}
use Rattle.land_select_queries.proofs.Streamed.{IsUnderWay}
use Rattle.land_select_queries.proofs.joins.running.stream_numbers.Given as goal

abbrev pub invariant-rows : goal.invariant-rows
invariant-rows g l =
    (l.rows.conn.ghost_name ≡ l.initial.rows.conn.ghost_name) × IsUnderWay g.S.Store l.fn.selection l.fn.caller l.fn.at l.fn.conn l.rows.conn.now l.found

-- The length of a list is a usize.
abbrev pub decreases-rows : goal.decreases-rows
decreases-rows g l = 2 ^ 64 - length l.found
