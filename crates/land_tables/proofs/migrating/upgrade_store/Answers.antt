use Rattle.land_tables.proofs.Begun.{undone}
use Rattle.land_tables_schema.specs.Rows.SchemaMigration.{MayMigrate}
use Rattle.sqlite.proofs.StateLemmas.{survives_then}
use Rattle.sqlite.specs.Held.{state}
use Rattle.land_tables.proofs.migrating.upgrade_store.Goals as goal

pub returns-in-Err-clause-undone : goal.returns-in-Err-clause-undone
returns-in-Err-clause-undone g c clean is_open =
    undone (state g.S.Store c.args.conn.now) (state g.S.Store c.migrate_register.new.conn) (state g.S.Store c.migration_fault.new.conn) c.migration_fault.ensures.survives c.migration_fault.ensures.left c.in-Err.ensures.neither clean is_open

pub returns-in-Err-clause-crash : goal.returns-in-Err-clause-crash
returns-in-Err-clause-crash g c =
    let may = MayMigrate (state g.S.Store c.args.conn.now).now in
    survives_then (state g.S.Store c.args.conn.now) (state g.S.Store c.migrate_register.new.conn) (state g.S.Store c.migration_fault.new.conn)
    may (λ _. ⊥) may (λ _ _ x. x) (λ _ _ n. absurd n) c.in-Err.ensures.crash c.migration_fault.ensures.survives
