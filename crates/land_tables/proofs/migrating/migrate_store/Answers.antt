use Rattle.land_tables.proofs.Migrations.{judged_settled, migrated_not, migrated_then}
use Rattle.sqlite.specs.Held.{state}
use Rattle.land_tables.proofs.migrating.migrate_store.Goals as goal

pub upgrade_store-requires-clause-settled : goal.upgrade_store-requires-clause-settled
upgrade_store-requires-clause-settled g c = judged_settled (state g.S.Store c.args.conn.now) (state g.S.Store c.open_v1_store.new.conn) c.in-Ok.latest c.in-Ok.ensures.judgement

pub returns-in-Ok-clause-migration : goal.returns-in-Ok-clause-migration
returns-in-Ok-clause-migration g c =
    let e = c.upgrade_store.ensures in
    migrated_then (state g.S.Store c.args.conn.now) (state g.S.Store c.open_v1_store.new.conn) (state g.S.Store c.upgrade_store.new.conn) c.in-Ok.latest c.in-Ok.ensures.judgement e.crash c.migrated_registers_are_held.ensures
    c.histories_represent_one_timeline.ensures c.order_does_not_matter.ensures c.upgrade_store.result e.latest e.raisable e.done e.committed e.open e.fault e.same e.undone

pub returns-in-Err-clause-migration : goal.returns-in-Err-clause-migration
returns-in-Err-clause-migration g c = migrated_not (state g.S.Store c.args.conn.now) (state g.S.Store c.open_v1_store.new.conn) c.in-Err.fault c.in-Err.ensures.judgement
