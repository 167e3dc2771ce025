use Rattle.std.proofs.Common.{◌≡◌, of_z, rules, to_z, w64}
use Rattle.land_tables_rows.proofs.RewritesTables.{parcels_edit, rrrs_edit, three_steps, units_edit}
use Rattle.land_tables_rows.proofs.Fitting.{parcels_known, rrrs_known, units_known}
use Rattle.sqlite.specs.Held.{state}
use Rattle.land_tables_rows.proofs.change_writing.units_and_entries.write_units_and_entries.Goals as goal

pub change_kind-requires-clause-keys : goal.change_kind-requires-clause-keys
change_kind-requires-clause-keys g c = units_known c.args.change.now c.requires.fits

pub change_kind-requires-2-clause-keys : goal.change_kind-requires-2-clause-keys
change_kind-requires-2-clause-keys g c = parcels_known c.args.change.now c.requires.fits

pub change_kind-requires-3-clause-keys : goal.change_kind-requires-3-clause-keys
change_kind-requires-3-clause-keys g c = rrrs_known c.args.change.now c.requires.fits

pub returns-clause-step : goal.returns-clause-step
returns-clause-step g c =
    let same : to_z w64 (of_z w64 c.args.stamp) ≡ c.args.stamp = search rules in
    let put = c.args.change.now.put in
    let ended = c.args.change.now.ended in
    let laws = c.table_changes_keep_history.ensures in
    three_steps _ _ _ (state g.S.Store c.args.tx.now.conn.now) (state g.S.Store c.change_kind.new.tx.conn.now) (state g.S.Store c.change_kind-2.new.tx.conn.now) (state g.S.Store c.change_kind-3.new.tx.conn.now)
    c.change_kind-3.result (rw (same) at c.in_ok-change_kind.ensures.step) (rw (same) at c.in_ok-change_kind-2.ensures.step) (rw (same) at c.change_kind-3.ensures.step)
    (λ done. units_edit laws c.args.stamp _ _ c.args.next put.units ended.units done) (λ done. parcels_edit laws c.args.stamp _ _ c.args.next put.parcels ended.parcels done) (λ done. rrrs_edit laws c.args.stamp _ _ c.args.next put.rrrs ended.rrrs done)
