use Rattle.std.proofs.Common.{false, of_z, rules, subst, sym, to_z, w64, Err, Ok, ◌≡◌, ◌≢◌, ◌≤ℤ◌}
use Rattle.std.specs.Prelude.{ℤ}
use Rattle.land_core.specs.Numbers.{last_moment}
use Rattle.land_keep.specs.Machine.{written_timeline}
use Rattle.land_keep.specs.declared.store_fault.StoreFault.TheVariants.{Store}
use Rattle.land_tables.proofs.Written.{crash_written, leaves_either, rests, text_written, timeline_written, whole_unwritten, whole_written}
use Rattle.land_tables.specs.Calls.{IsSafeWrite, MayWriteChange}
use Rattle.land_tables.specs.TablesState.{IsTablesState, TablesState, held_timeline}
use Rattle.land_tables_rows.specs.Recording.Whole.{WritesChange}
use Rattle.sqlite.specs.Held.{state}
use Rattle.land_tables.proofs.tables.Tables.write.Goals as goal

pub invariant_of-self : goal.invariant_of-self
invariant_of-self g c =
    let t : to_z w64 (of_z w64 c.args.stamp) ≡ c.args.stamp = search rules in
    let S = g.S.Store in
    let conn = c.record.new.conn in
    let whole = subst (IsTablesState S) c.self.view_is c.self.invariant in
    let safe = subst (λ (x : ℤ). IsSafeWrite {X = Unit {0}} (Ok tt) (WritesChange c.args.change.now c.self.inside.next x) (MayWriteChange c.args.change.now c.self.inside.next x (state S c.self.inside.conn).now) (state S c.self.inside.conn) (state S conn)) t c.in-Ok.ensures.safe in
    let safe_now = subst (λ (o : TablesState _). IsSafeWrite {X = Unit {0}} (Ok tt) (WritesChange c.args.change.now o.next c.args.stamp) (MayWriteChange c.args.change.now o.next c.args.stamp (state S o.conn).now) (state S o.conn) (state S conn)) c.self.view_is safe in
    let open_still : c.args.self.now.is_closed ≡ false = subst (λ (o : TablesState _). o.is_closed ≡ false) c.self.view_is c.if-self.false in
    let moment = subst (λ (x : ℤ). x ≤ℤ last_moment) t c.in-Ok.ensures.moment in
    subst (λ (x : ℤ). IsTablesState S (record { conn = conn; last = x; next = c.args.change.now.next; is_closed = c.self.inside.is_closed })) (sym t)
    (whole_written S c.histories_represent_one_timeline.ensures c.order_does_not_matter.ensures c.writes_represent_timelines.ensures c.writing_keeps_soundness.ensures c.args.change.now c.args.stamp c.args.self.now whole open_still c.requires conn c.self.inside.is_closed c.record.ensures.ended moment safe_now)

pub invariant_of-self-in-Err : goal.invariant_of-self-in-Err
invariant_of-self-in-Err g c =
    let t : to_z w64 (of_z w64 c.args.stamp) ≡ c.args.stamp = search rules in
    let S = g.S.Store in
    let conn = c.record.new.conn in
    let whole = subst (IsTablesState S) c.self.view_is c.self.invariant in
    let safe = subst (λ (x : ℤ). IsSafeWrite {X = Unit {0}} (Err c.in-Err.fault) (WritesChange c.args.change.now c.self.inside.next x) (MayWriteChange c.args.change.now c.self.inside.next x (state S c.self.inside.conn).now) (state S c.self.inside.conn) (state S conn)) t c.in-Err.ensures.safe in
    let safe_now = subst (λ (o : TablesState _). IsSafeWrite {X = Unit {0}} (Err c.in-Err.fault) (WritesChange c.args.change.now o.next c.args.stamp) (MayWriteChange c.args.change.now o.next c.args.stamp (state S o.conn).now) (state S o.conn) (state S conn)) c.self.view_is safe in
    let open_still : c.args.self.now.is_closed ≡ false = subst (λ (o : TablesState _). o.is_closed ≡ false) c.self.view_is c.if-self.false in
    let other : c.eq-self-inside.result ≡ false → c.in-Err.fault ≢ Store = search rules in
    subst (λ (o : TablesState _). IsTablesState S (record { conn = conn; last = o.last; next = o.next; is_closed = c.eq-self-inside.result })) (sym c.self.view_is)
    (whole_unwritten S c.histories_represent_one_timeline.ensures c.order_does_not_matter.ensures c.writes_represent_timelines.ensures c.writing_keeps_soundness.ensures c.args.change.now c.args.stamp c.args.self.now whole open_still c.requires conn c.in-Err.fault c.eq-self-inside.result other c.record.ensures.ended safe_now)

pub returns-in-Ok-clause-ok : goal.returns-in-Ok-clause-ok
returns-in-Ok-clause-ok g c live =
    let t : to_z w64 (of_z w64 c.args.stamp) ≡ c.args.stamp = search rules in
    let S = g.S.Store in
    let conn = c.record.new.conn in
    let whole = subst (IsTablesState S) c.self.view_is c.self.invariant in
    let safe = subst (λ (x : ℤ). IsSafeWrite {X = Unit {0}} (Ok tt) (WritesChange c.args.change.now c.self.inside.next x) (MayWriteChange c.args.change.now c.self.inside.next x (state S c.self.inside.conn).now) (state S c.self.inside.conn) (state S conn)) t c.in-Ok.ensures.safe in
    let safe_now = subst (λ (o : TablesState _). IsSafeWrite {X = Unit {0}} (Ok tt) (WritesChange c.args.change.now o.next c.args.stamp) (MayWriteChange c.args.change.now o.next c.args.stamp (state S o.conn).now) (state S o.conn) (state S conn)) c.self.view_is safe in
    let open_still : c.args.self.now.is_closed ≡ false = subst (λ (o : TablesState _). o.is_closed ≡ false) c.self.view_is c.if-self.false in
    timeline_written S c.histories_represent_one_timeline.ensures c.order_does_not_matter.ensures c.writes_represent_timelines.ensures c.writing_keeps_soundness.ensures c.args.change.now c.args.stamp c.args.self.now whole open_still c.requires conn safe_now live.0

pub returns-in-Ok-clause-text : goal.returns-in-Ok-clause-text
returns-in-Ok-clause-text g c live =
    let t : to_z w64 (of_z w64 c.args.stamp) ≡ c.args.stamp = search rules in
    let S = g.S.Store in
    let conn = c.record.new.conn in
    let whole = subst (IsTablesState S) c.self.view_is c.self.invariant in
    let safe = subst (λ (x : ℤ). IsSafeWrite {X = Unit {0}} (Ok tt) (WritesChange c.args.change.now c.self.inside.next x) (MayWriteChange c.args.change.now c.self.inside.next x (state S c.self.inside.conn).now) (state S c.self.inside.conn) (state S conn)) t c.in-Ok.ensures.safe in
    let safe_now = subst (λ (o : TablesState _). IsSafeWrite {X = Unit {0}} (Ok tt) (WritesChange c.args.change.now o.next c.args.stamp) (MayWriteChange c.args.change.now o.next c.args.stamp (state S o.conn).now) (state S o.conn) (state S conn)) c.self.view_is safe in
    let open_still : c.args.self.now.is_closed ≡ false = subst (λ (o : TablesState _). o.is_closed ≡ false) c.self.view_is c.if-self.false in
    text_written S c.histories_represent_one_timeline.ensures c.order_does_not_matter.ensures c.writes_represent_timelines.ensures c.writing_keeps_soundness.ensures c.args.change.now c.args.stamp c.args.self.now whole open_still c.requires conn c.appending_keeps_text.ensures safe_now live.0

pub returns-in-Ok-clause-survives : goal.returns-in-Ok-clause-survives
returns-in-Ok-clause-survives g c open_still =
    let t : to_z w64 (of_z w64 c.args.stamp) ≡ c.args.stamp = search rules in
    let S = g.S.Store in
    let conn = c.record.new.conn in
    let whole = subst (IsTablesState S) c.self.view_is c.self.invariant in
    let safe = subst (λ (x : ℤ). IsSafeWrite {X = Unit {0}} (Ok tt) (WritesChange c.args.change.now c.self.inside.next x) (MayWriteChange c.args.change.now c.self.inside.next x (state S c.self.inside.conn).now) (state S c.self.inside.conn) (state S conn)) t c.in-Ok.ensures.safe in
    let safe_now = subst (λ (o : TablesState _). IsSafeWrite {X = Unit {0}} (Ok tt) (WritesChange c.args.change.now o.next c.args.stamp) (MayWriteChange c.args.change.now o.next c.args.stamp (state S o.conn).now) (state S o.conn) (state S conn)) c.self.view_is safe in
    crash_written S c.histories_represent_one_timeline.ensures c.order_does_not_matter.ensures c.writes_represent_timelines.ensures c.writing_keeps_soundness.ensures c.args.change.now c.args.stamp c.args.self.now whole open_still c.requires conn (Ok tt) safe_now

pub returns-in-Err-clause-survives : goal.returns-in-Err-clause-survives
returns-in-Err-clause-survives g c open_still =
    let t : to_z w64 (of_z w64 c.args.stamp) ≡ c.args.stamp = search rules in
    let S = g.S.Store in
    let conn = c.record.new.conn in
    let whole = subst (IsTablesState S) c.self.view_is c.self.invariant in
    let safe = subst (λ (x : ℤ). IsSafeWrite {X = Unit {0}} (Err c.in-Err.fault) (WritesChange c.args.change.now c.self.inside.next x) (MayWriteChange c.args.change.now c.self.inside.next x (state S c.self.inside.conn).now) (state S c.self.inside.conn) (state S conn)) t c.in-Err.ensures.safe in
    let safe_now = subst (λ (o : TablesState _). IsSafeWrite {X = Unit {0}} (Err c.in-Err.fault) (WritesChange c.args.change.now o.next c.args.stamp) (MayWriteChange c.args.change.now o.next c.args.stamp (state S o.conn).now) (state S o.conn) (state S conn)) c.self.view_is safe in
    crash_written S c.histories_represent_one_timeline.ensures c.order_does_not_matter.ensures c.writes_represent_timelines.ensures c.writing_keeps_soundness.ensures c.args.change.now c.args.stamp c.args.self.now whole open_still c.requires conn (Err c.in-Err.fault) safe_now

pub returns-in-Ok-clause-crash : goal.returns-in-Ok-clause-crash
returns-in-Ok-clause-crash g c =
    let S = g.S.Store in
    let before = c.args.self.now in
    leaves_either S before (record before { conn = c.record.new.conn }) (written_timeline (held_timeline S before) c.args.change.now c.args.stamp)
    (λ db stays may. g.met.S.Store.settled before.conn.store db stays may) (subst (IsTablesState S) c.self.view_is c.self.invariant) (returns-in-Ok-clause-survives g c)

pub returns-in-Err-clause-crash : goal.returns-in-Err-clause-crash
returns-in-Err-clause-crash g c =
    let S = g.S.Store in
    let before = c.args.self.now in
    leaves_either S before (record before { conn = c.record.new.conn }) (written_timeline (held_timeline S before) c.args.change.now c.args.stamp)
    (λ db stays may. g.met.S.Store.settled before.conn.store db stays may) (subst (IsTablesState S) c.self.view_is c.self.invariant) (returns-in-Err-clause-survives g c)

pub returns-in-Ok-clause-rests : goal.returns-in-Ok-clause-rests
returns-in-Ok-clause-rests g c =
    let S = g.S.Store in
    rests S _ (λ db stays may. g.met.S.Store.settled c.record.new.conn.store db stays may) (invariant_of-self g c)

pub returns-in-Err-clause-rests : goal.returns-in-Err-clause-rests
returns-in-Err-clause-rests g c =
    let S = g.S.Store in
    rests S _ (λ db stays may. g.met.S.Store.settled c.record.new.conn.store db stays may) (invariant_of-self-in-Err g c)
