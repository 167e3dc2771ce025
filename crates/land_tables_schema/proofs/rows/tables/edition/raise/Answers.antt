use Rattle.land_tables_schema.proofs.SchemaMigration.{rewrites}
use Rattle.land_tables_schema.proofs.Steps.{statement_steps}
use Rattle.land_tables_schema.specs.Rows.Edition.{v2_edition, v1_edition}
use Rattle.land_tables_schema.specs.Rows.SchemaMigration.{Rewrites}
use Rattle.sqlite.specs.Held.{state}
use Rattle.land_tables_schema.proofs.rows.tables.edition.raise.Goals as goal

pub returns-clause-step : goal.returns-clause-step
returns-clause-step g c =
    let e = c.execute.ensures in
    statement_steps g.S.Store c.args.tx.now.conn.now c.execute.new.self.conn.now _ _ _ (Rewrites v1_edition v2_edition) c.execute.result e.ended e.runs e.survives
    (λ clean count ran. rewrites (state g.S.Store c.args.tx.now.conn.now) (state g.S.Store c.execute.new.self.conn.now) count (c.requires clean) ran.0)
