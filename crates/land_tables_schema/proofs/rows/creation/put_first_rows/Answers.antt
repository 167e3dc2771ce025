use Rattle.land_tables_schema.proofs.First.{first_steps}
use Rattle.sqlite.specs.Held.{state}
use Rattle.land_tables_schema.proofs.rows.creation.put_first_rows.Goals as goal

pub returns-clause-step : goal.returns-clause-step
returns-clause-step g c =
    first_steps (state g.S.Store c.args.tx.now.conn.now) (state g.S.Store c.insert.new.tx.conn.now) (state g.S.Store c.insert-2.new.tx.conn.now) (state g.S.Store c.begin.new.tx.conn.now)
    (state g.S.Store c.begin-2.new.tx.conn.now) c.requires c.in_ok-insert.ensures.step c.in_ok-insert-2.ensures.step c.in_ok-begin.ensures.step c.in_ok-begin-2.ensures.step
