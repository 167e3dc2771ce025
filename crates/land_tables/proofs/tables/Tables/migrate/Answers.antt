use Rattle.std.proofs.Common.{◌≡◌, false, of_z, to_z, w64, refl, rules, subst, sym}
use Rattle.std.specs.Prelude.{ℤ, ◌≤ℤ◌}
use Rattle.land_core.specs.Numbers.{last_moment}
use Rattle.land_tables.proofs.Adopted.{refused_holds_none}
use Rattle.land_tables.proofs.Migrations.{err_leaves, held_rests, same_leaves, stays_same}
use Rattle.land_tables.specs.TablesState.{IsConsistentState}
use Rattle.land_tables.specs.Registers.{version_1}
use Rattle.sqlite.specs.Held.{state}
use Rattle.land_tables.proofs.tables.Tables.migrate.Goals as goal

pub returns-in-Ok-clause-migrated : goal.returns-in-Ok-clause-migrated
returns-in-Ok-clause-migrated g c =
    let b = state g.S.Store c.migrate_store.new.conn in
    let it = c.in-Ok.ensures.migration in
    let stamp : to_z w64 (of_z w64 c.in-Ok.moment.stamp) ≡ c.in-Ok.moment.stamp = search rules in
    record {
      is_open = refl;
      register = λ clean. (it.migrated clean).register.register;
      raisable = λ clean. (it.migrated clean).raisable;
      raised = λ clean. (it.migrated clean).raised;
      office = λ clean. subst (λ z. IsConsistentState b z c.in-Ok.moment.next) (sym stamp) (it.migrated clean).office;
      timeline = λ clean. (it.migrated clean).timeline;
      mandates = λ clean. (it.migrated clean).mandates;
    }

pub returns-in-Ok-clause-rests : goal.returns-in-Ok-clause-rests
returns-in-Ok-clause-rests g c =
    held_rests g.S.Store (record { conn = c.migrate_store.new.conn; last = c.in-Ok.moment.stamp; next = c.in-Ok.moment.next; is_closed = false })
    (λ db stays may. g.met.S.Store.settled c.migrate_store.new.conn.store db stays may) (λ clean. (c.in-Ok.ensures.migration.migrated clean).office.register)

pub returns-in-Err-clause-none : goal.returns-in-Err-clause-none
returns-in-Err-clause-none g c clean = refused_holds_none version_1 c.in-Err.fault (state g.S.Store c.args.conn).now (c.in-Err.ensures.migration.refused clean)

pub returns-in-Err-clause-same : goal.returns-in-Err-clause-same
returns-in-Err-clause-same g c clean other =
    stays_same (state g.S.Store c.args.conn) (state g.S.Store c.migrate_store.new.conn) (λ db stays may. g.met.S.Store.settled c.migrate_store.new.conn.store db stays may)
    (c.in-Err.ensures.migration.same clean other)

pub returns-in-Err-clause-kept : goal.returns-in-Err-clause-kept
returns-in-Err-clause-kept g c alone clean is_open =
    stays_same (state g.S.Store c.args.conn) (state g.S.Store c.migrate_store.new.conn) (λ db stays may. g.met.S.Store.settled c.migrate_store.new.conn.store db stays may)
    (c.in-Err.ensures.migration.kept clean is_open)

pub returns-in-Err-clause-either : goal.returns-in-Err-clause-either
returns-in-Err-clause-either g c =
    err_leaves (state g.S.Store c.args.conn) (state g.S.Store c.migrate_store.new.conn) (λ db stays may. g.met.S.Store.settled c.args.conn.store db stays may) c.in-Err.ensures.migration.survives

pub returns-else-is_autocommit-clause-either : goal.returns-else-is_autocommit-clause-either
returns-else-is_autocommit-clause-either g c = same_leaves (state g.S.Store c.args.conn) (λ db stays may. g.met.S.Store.settled c.args.conn.store db stays may)

pub invariant_of-result : goal.invariant_of-result
invariant_of-result g c =
    let b = state g.S.Store c.migrate_store.new.conn in
    let it = c.in-Ok.ensures.migration in
    let stamp : to_z w64 (of_z w64 c.in-Ok.moment.stamp) ≡ c.in-Ok.moment.stamp = search rules in
    record {
      alone = c.in-Ok.ensures.ended;
      moment = subst (λ (z : ℤ). z ≤ℤ last_moment) (sym stamp) c.in-Ok.ensures.moment;
      office = λ live. subst (λ z. IsConsistentState b z c.in-Ok.moment.next) (sym stamp) (it.migrated live.0).office;
    }
