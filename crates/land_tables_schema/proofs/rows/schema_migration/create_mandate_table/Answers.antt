use Rattle.land_tables_schema.proofs.Mandating.{makes_table}
use Rattle.land_tables_schema.proofs.Steps.{statement_steps}
use Rattle.land_tables_schema.specs.Rows.SchemaMigration.{CreatesMandateTable}
use Rattle.sqlite.specs.Held.{state}
use Rattle.land_tables_schema.proofs.rows.schema_migration.create_mandate_table.Goals as goal

pub returns-clause-step : goal.returns-clause-step
returns-clause-step g c =
    let e = c.execute.ensures in
    statement_steps g.S.Store c.args.tx.now.conn.now c.execute.new.self.conn.now _ _ _ CreatesMandateTable c.execute.result e.ended e.runs e.survives
    (λ clean count ran. makes_table (state g.S.Store c.args.tx.now.conn.now) (state g.S.Store c.execute.new.self.conn.now) count (c.requires.first clean) (c.requires.next clean) ran.0)
