use Rattle.std.proofs.Common.{◌≡◌, of_z, rules, to_z, w64}
use Rattle.land_tables_rows.proofs.RewritesTables.{versioned}
use Rattle.land_tables_schema.proofs.Steps.{step_fails, step_then}
use Rattle.sqlite.specs.Held.{state}
use Rattle.land_tables_rows.proofs.change_writing.change.write_change.Goals as goal

pub returns-in_err-insert-clause-step : goal.returns-in_err-insert-clause-step
returns-in_err-insert-clause-step g c =
    step_fails (state g.S.Store c.args.tx.now.conn.now) (state g.S.Store c.write_objects.new.tx.conn.now) (state g.S.Store c.insert.new.tx.conn.now) _ c.from_residual-in_err-insert.ensures.0
    c.in_ok-write_objects.ensures.step c.insert.ensures.step

pub returns-clause-step : goal.returns-clause-step
returns-clause-step g c =
    let same : to_z w64 (of_z w64 c.args.stamp) ≡ c.args.stamp = search rules in
    let first = rw (same) at c.in_ok-write_objects.ensures.step in
    let last = rw (same) at c.in_ok-insert.ensures.step in
    step_then (state g.S.Store c.args.tx.now.conn.now) (state g.S.Store c.write_objects.new.tx.conn.now) (state g.S.Store c.insert.new.tx.conn.now) first last
    (λ clean one two. versioned c.table_changes_keep_history.ensures c.args.change.now c.args.next c.args.stamp _ _ _ one two)
