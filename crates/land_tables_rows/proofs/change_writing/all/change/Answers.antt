use Rattle.std.proofs.Common.{◌≡◌, ◌++◌, Ok, map, of_z, rules, to_z, w64}
use Rattle.std.specs.List.{list_any}
use Rattle.land_tables_history.specs.Written.{existing_records}
use Rattle.land_tables_rows.proofs.Loops.{changes, more_closed, step_after}
use Rattle.land_tables_rows.specs.Writing.Holding.{ClosesVersions}
use Rattle.land_tables_schema.proofs.Steps.{step_fails, step_then}
use Rattle.land_tables_schema.specs.Steps.{IsTransactionStep}
use Rattle.sqlite.specs.Held.{state}
use Rattle.sqlite.specs.declared.error.Error.{Error}
use Rattle.land_tables_rows.proofs.change_writing.all.change.Goals as goal

pub returns-in_err-close_all-clause-step : goal.returns-in_err-close_all-clause-step
returns-in_err-close_all-clause-step g c =
    step_fails (state g.S.Store c.args.tx.now.conn.now) (state g.S.Store c.close_put.new.tx.conn.now) (state g.S.Store c.close_all.new.tx.conn.now) _ c.from_residual-in_err-close_all.ensures.0
    c.in_ok-close_put.ensures.step c.close_all.ensures.step

pub returns-clause-step : goal.returns-clause-step
returns-clause-step g c =
    let stamp : to_z w64 (of_z w64 c.args.stamp) ≡ c.args.stamp = search rules in
    let a = state g.S.Store c.args.tx.now.conn.now in
    let b = state g.S.Store c.close_put.new.tx.conn.now in
    let d = state g.S.Store c.close_all.new.tx.conn.now in
    let e = state g.S.Store c.begin_all.new.tx.conn.now in
    let put = map g.X.HasKey.key (existing_records g.X.HasKey.number c.args.next c.args.put.now) in
    let first = rw (stamp) at c.in_ok-close_put.ensures.step in
    let next = rw (stamp) at c.in_ok-close_all.ensures.step in
    let last = rw (stamp) at c.begin_all.ensures.step in
    let ends : IsTransactionStep {X = Unit {0}} {E = Error} (Ok tt) (ClosesVersions g.X.Versioned.reading (λ x. list_any (g.X.Closable.has x) (put ++ c.args.ended.now)) c.args.stamp) a d =
    step_then a b d first next (λ clean far one. more_closed g.X.Versioned.reading g.X.Closable.has c.args.stamp c.requires.moment put c.args.ended.now _ _ _ far one) in
    step_after a d e c.begin_all.result ends last
    (λ clean far one. changes g.X.Versioned.reading c.args.put.now (λ x. list_any (g.X.Closable.has x) (put ++ c.args.ended.now)) c.args.stamp _ _ _ far one)
