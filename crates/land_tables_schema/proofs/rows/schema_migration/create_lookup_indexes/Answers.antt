use Rattle.std.proofs.Common.{sym, subst}
use Rattle.land_tables_schema.proofs.Indexing.{indexes_ready}
use Rattle.land_tables_schema.proofs.SchemaMigration.{makes_indexes}
use Rattle.land_tables_schema.proofs.Steps.{step_says, was_clean}
use Rattle.land_tables_schema.specs.Definitions.{AreReady}
use Rattle.land_tables_schema.specs.Making.{DefinesAll}
use Rattle.sqlite.specs.Held.{state}
use Rattle.land_tables_schema.proofs.rows.schema_migration.create_lookup_indexes.Goals as goal

pub define_all-requires : goal.define_all-requires
define_all-requires g c clean =
    let schema = (state g.S.Store c.args.tx.now.conn.now).now.schema in
    subst (AreReady schema) (sym c.index_statements.ensures) (indexes_ready schema (c.requires clean)).0

pub returns-clause-step : goal.returns-clause-step
returns-clause-step g c =
    let old = state g.S.Store c.args.tx.now.conn.now in
    let new = state g.S.Store c.define_all.new.tx.conn.now in
    let step = c.define_all.ensures.step in
    step_says old new c.define_all.result step
    (λ clean did. makes_indexes old.now new.now (c.requires (was_clean old new step.survives clean)) (subst (λ l. DefinesAll l old.now new.now) c.index_statements.ensures did))
