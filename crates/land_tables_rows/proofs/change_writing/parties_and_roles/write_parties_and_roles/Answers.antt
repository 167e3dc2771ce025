use Rattle.std.proofs.Common.{◌≡◌, Ok, of_z, rules, to_z, w64}
use Rattle.land_tables_rows.proofs.RewritesTables.{four_steps, mandates_edit, members_edit, parties_edit, roles_edit, two_steps}
use Rattle.land_tables_rows.proofs.Fitting.{parties_known}
use Rattle.land_tables_schema.proofs.Steps.{step_fails}
use Rattle.sqlite.specs.Held.{state}
use Rattle.land_tables_rows.proofs.change_writing.parties_and_roles.write_parties_and_roles.Goals as goal

pub change_kind-requires-clause-keys : goal.change_kind-requires-clause-keys
change_kind-requires-clause-keys g c = parties_known c.args.change.now c.requires.fits

pub returns-in_err-change_members-clause-step : goal.returns-in_err-change_members-clause-step
returns-in_err-change_members-clause-step g c =
    let same : to_z w64 (of_z w64 c.args.stamp) ≡ c.args.stamp = search rules in
    let put = c.args.change.now.put in
    let ended = c.args.change.now.ended in
    let laws = c.table_changes_keep_history.ensures in
    let before = two_steps _ _ (state g.S.Store c.args.tx.now.conn.now) (state g.S.Store c.change_kind.new.tx.conn.now) (state g.S.Store c.change_kind-2.new.tx.conn.now)
    (rw (same) at c.in_ok-change_kind.ensures.step) (rw (same) at c.in_ok-change_kind-2.ensures.step)
    (λ done. parties_edit laws c.args.stamp _ _ c.args.next put.parties ended.parties done) (λ done. roles_edit laws c.args.stamp _ _ c.args.next put.roles ended.roles done) in
    step_fails (state g.S.Store c.args.tx.now.conn.now) (state g.S.Store c.change_kind-2.new.tx.conn.now) (state g.S.Store c.change_members.new.tx.conn.now) _ c.from_residual-in_err-change_members.ensures.0 before c.change_members.ensures.step

pub returns-clause-step : goal.returns-clause-step
returns-clause-step g c =
    let same : to_z w64 (of_z w64 c.args.stamp) ≡ c.args.stamp = search rules in
    let put = c.args.change.now.put in
    let ended = c.args.change.now.ended in
    let laws = c.table_changes_keep_history.ensures in
    four_steps _ _ _ _ (state g.S.Store c.args.tx.now.conn.now) (state g.S.Store c.change_kind.new.tx.conn.now) (state g.S.Store c.change_kind-2.new.tx.conn.now) (state g.S.Store c.change_members.new.tx.conn.now) (state g.S.Store c.change_kind-3.new.tx.conn.now)
    c.change_kind-3.result (rw (same) at c.in_ok-change_kind.ensures.step) (rw (same) at c.in_ok-change_kind-2.ensures.step) (rw (same) at c.in_ok-change_members.ensures.step) (rw (same) at c.change_kind-3.ensures.step)
    (λ done. parties_edit laws c.args.stamp _ _ c.args.next put.parties ended.parties done) (λ done. roles_edit laws c.args.stamp _ _ c.args.next put.roles ended.roles done) (λ done. members_edit laws c.args.stamp _ _ c.args.next put.members ended.members done)
    (λ done. mandates_edit laws c.args.stamp _ _ c.args.next put.mandates ended.mandates done)
