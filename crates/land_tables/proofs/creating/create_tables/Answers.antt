use Rattle.land_keep.specs.Timeline.{new_timeline}
use Rattle.land_tables.proofs.Begun.{undone, untouched}
use Rattle.land_tables.proofs.News.{new_holds, new_office}
use Rattle.land_tables.specs.Standing.{HoldsTimeline}
use Rattle.land_tables_schema.specs.Rows.Held.{HoldsRows, new_rows}
use Rattle.sqlite.proofs.StateLemmas.{survives_then, survives_weaker}
use Rattle.sqlite.specs.Held.{state}
use Rattle.land_tables.proofs.creating.create_tables.Goals as goal

pub returns-in-Ok-clause-made : goal.returns-in-Ok-clause-made
returns-in-Ok-clause-made g c clean =
    let e = c.in-Ok.ensures in
    new_office c.valid_histories_represent_timelines.ensures c.new_rows_hold_new_register.ensures c.histories_represent_one_timeline.ensures c.order_does_not_matter.ensures (state g.S.Store c.make_register.new.conn) (e.made clean) (e.committed clean) (e.open clean)

pub returns-in-Ok-clause-crash : goal.returns-in-Ok-clause-crash
returns-in-Ok-clause-crash g c =
    survives_weaker (state g.S.Store c.args.conn.now) (state g.S.Store c.make_register.new.conn) (λ db. HoldsRows db new_rows) (λ db. HoldsTimeline db new_timeline)
    (λ _ db rows. new_holds c.valid_histories_represent_timelines.ensures c.new_rows_hold_new_register.ensures db rows) c.in-Ok.ensures.crash

pub returns-in-Err-clause-neither : goal.returns-in-Err-clause-neither
returns-in-Err-clause-neither g c clean is_open =
    (undone (state g.S.Store c.args.conn.now) (state g.S.Store c.make_register.new.conn) (state g.S.Store c.fault_after.new.conn) c.fault_after.ensures.survives c.fault_after.ensures.left c.in-Err.ensures.neither clean is_open).0

pub returns-in-Err-clause-untouched : goal.returns-in-Err-clause-untouched
returns-in-Err-clause-untouched g c clean other =
    untouched (state g.S.Store c.args.conn.now) (state g.S.Store c.make_register.new.conn) (state g.S.Store c.fault_after.new.conn) c.fault_after.ensures.survives c.fault_after.result c.fault_after.ensures.same c.in-Err.ensures.neither clean other

pub returns-in-Err-clause-crash : goal.returns-in-Err-clause-crash
returns-in-Err-clause-crash g c =
    survives_then (state g.S.Store c.args.conn.now) (state g.S.Store c.make_register.new.conn) (state g.S.Store c.fault_after.new.conn)
    (λ db. HoldsRows db new_rows) (λ _. ⊥) (λ db. HoldsTimeline db new_timeline)
    (λ _ db rows. new_holds c.valid_histories_represent_timelines.ensures c.new_rows_hold_new_register.ensures db rows) (λ _ _ n. absurd n) c.in-Err.ensures.crash c.fault_after.ensures.survives
