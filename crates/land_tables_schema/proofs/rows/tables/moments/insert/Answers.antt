use Rattle.std.proofs.Common.{of_z, rules, to_z, w64, ◌≡◌}
use Rattle.land_tables_schema.proofs.MomentRows.{puts_in}
use Rattle.land_tables_schema.proofs.Steps.{statement_steps}
use Rattle.land_tables_schema.specs.Rows.Forms.{Appends}
use Rattle.land_tables_schema.specs.Rows.Moments.{Moment, moment_row}
use Rattle.land_tables_schema.specs.Tables as table
use Rattle.sqlite.specs.Held.{state}
use Rattle.land_tables_schema.proofs.rows.tables.moments.insert.Goals as goal

pub returns-clause-step : goal.returns-clause-step
returns-clause-step g c =
    let e = c.execute.ensures in
    let stamp : to_z w64 (of_z w64 c.args.stamp) ≡ c.args.stamp = search rules in
    let m : Moment = record { stamp = c.args.stamp; next = c.args.next } in
    statement_steps g.S.Store c.args.tx.now.conn.now c.execute.new.self.conn.now _ _ _ (Appends table.moments moment_row m) c.execute.result e.ended e.runs e.survives
    (λ clean count ran. puts_in (state g.S.Store c.args.tx.now.conn.now) (state g.S.Store c.execute.new.self.conn.now) m count (c.requires.has_tables clean)
    (rw (c.of_moment.ensures, c.of_number.ensures, stamp) at ran.0))
