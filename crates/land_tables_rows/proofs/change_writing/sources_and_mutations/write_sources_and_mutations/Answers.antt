use Rattle.std.proofs.Common.{◌≡◌, of_z, rules, to_z, w64}
use Rattle.land_tables_rows.proofs.RewritesTables.{mutations_edit, namings_edit, sources_edit, three_steps}
use Rattle.land_tables_rows.proofs.Fitting.{mutations_known, sources_known}
use Rattle.sqlite.specs.Held.{state}
use Rattle.land_tables_rows.proofs.change_writing.sources_and_mutations.write_sources_and_mutations.Goals as goal

pub change_kind-requires-clause-keys : goal.change_kind-requires-clause-keys
change_kind-requires-clause-keys g c = sources_known c.args.change.now c.requires.fits

pub change_kind-requires-2-clause-keys : goal.change_kind-requires-2-clause-keys
change_kind-requires-2-clause-keys g c = mutations_known c.args.change.now c.requires.fits

pub returns-clause-step : goal.returns-clause-step
returns-clause-step g c =
    let same : to_z w64 (of_z w64 c.args.stamp) ≡ c.args.stamp = search rules in
    let put = c.args.change.now.put in
    let ended = c.args.change.now.ended in
    let laws = c.table_changes_keep_history.ensures in
    three_steps _ _ _ (state g.S.Store c.args.tx.now.conn.now) (state g.S.Store c.change_kind.new.tx.conn.now) (state g.S.Store c.change_kind-2.new.tx.conn.now) (state g.S.Store c.begin_names.new.tx.conn.now)
    c.begin_names.result (rw (same) at c.in_ok-change_kind.ensures.step) (rw (same) at c.in_ok-change_kind-2.ensures.step) (rw (same) at c.begin_names.ensures.step)
    (λ done. sources_edit laws c.args.stamp _ _ c.args.next put.sources ended.sources done) (λ done. mutations_edit laws c.args.stamp _ _ c.args.next put.mutations ended.mutations done) (λ done. namings_edit laws c.args.stamp _ _ c.args.next put.mutations done)
