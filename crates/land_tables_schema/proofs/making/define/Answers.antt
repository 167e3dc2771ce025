use Rattle.land_tables_schema.proofs.Creates.{defines}
use Rattle.land_tables_schema.proofs.Steps.{statement_steps}
use Rattle.land_tables_schema.specs.Making.{Defines}
use Rattle.sqlite.specs.Held.{state}
use Rattle.land_tables_schema.proofs.making.define.Goals as goal

pub returns-clause-step : goal.returns-clause-step
returns-clause-step g c =
    let e = c.execute.ensures in
    statement_steps g.S.Store c.args.tx.now.conn.now c.execute.new.self.conn.now c.args.text.now _ _ (Defines c.args.text.now) c.execute.result e.ended e.runs e.survives
    (λ clean count ran. defines (state g.S.Store c.args.tx.now.conn.now) (state g.S.Store c.execute.new.self.conn.now) c.args.text.now count (c.requires clean) ran.0)
