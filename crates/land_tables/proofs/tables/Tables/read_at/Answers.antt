use Rattle.std.proofs.Common.{false, of_z, rules, subst, sym, to_z, w64, Err, ◌≡◌, ◌≢◌}
use Rattle.std.specs.Prelude.{ℤ}
use Rattle.land_core.specs.declared.register.Register.{Register}
use Rattle.land_keep.specs.Timeline.{register_at}
use Rattle.land_keep.specs.declared.store_fault.StoreFault.TheVariants.{Store}
use Rattle.land_tables.proofs.Written.{whole_read}
use Rattle.land_tables.specs.Calls.{IsSafeRead}
use Rattle.land_tables.specs.TablesState.{IsTablesState, TablesState, held_timeline}
use Rattle.land_tables.specs.Standing.{decoded_timeline}
use Rattle.sqlite.specs.Held.{state}
use Rattle.land_tables.proofs.tables.Tables.read_at.Goals as goal

pub invariant_of-self-in-Err : goal.invariant_of-self-in-Err
invariant_of-self-in-Err g c =
    let S = g.S.Store in
    let conn = c.register_in.new.conn in
    let whole = subst (IsTablesState S) c.self.view_is c.self.invariant in
    let open_still : c.args.self.now.is_closed ≡ false = subst (λ (o : TablesState _). o.is_closed ≡ false) c.self.view_is c.if-self.false in
    let other : c.eq-self-inside.result ≡ false → c.in-Err.fault ≢ Store = search rules in
    let at : to_z w64 (of_z w64 c.args.at) ≡ c.args.at = search rules in
    let safe_at = subst (λ (x : ℤ). IsSafeRead {X = Register} (Err c.in-Err.fault) (λ it. it ≡ register_at (decoded_timeline (state S c.self.inside.conn).now.trees) x) (state S c.self.inside.conn) (state S conn)) at c.in-Err.ensures.safe in
    let safe = subst (λ (o : TablesState _). IsSafeRead {X = Register} (Err c.in-Err.fault) (λ it. it ≡ register_at (decoded_timeline (state S o.conn).now.trees) c.args.at) (state S o.conn) (state S conn)) c.self.view_is safe_at in
    subst (λ (o : TablesState _). IsTablesState S (record { conn = conn; last = o.last; next = o.next; is_closed = c.eq-self-inside.result })) (sym c.self.view_is)
    (whole_read S c.args.self.now whole open_still conn c.eq-self-inside.result (c.in-Err.ensures.autocommit c.self.invariant.alone) c.in-Err.fault (λ (it : Register). it ≡ register_at (held_timeline S c.args.self.now) c.args.at) other safe)
