use Rattle.land_tables_schema.proofs.Creates.{texts_define, texts_make}
use Rattle.land_tables_schema.proofs.Steps.{step_says, was_clean}
use Rattle.sqlite.specs.Held.{state}
use Rattle.land_tables_schema.proofs.making.create_schema.Goals as goal

pub define_all-requires : goal.define_all-requires
define_all-requires g c clean = texts_define _ _ (c.requires clean) c.texts.ensures c.statements_create_schema.ensures

pub returns-clause-step : goal.returns-clause-step
returns-clause-step g c =
    let old = state g.S.Store c.args.tx.now.conn.now in
    let new = state g.S.Store c.define_all.new.tx.conn.now in
    let step = c.define_all.ensures.step in
    step_says old new c.define_all.result step (λ clean did. texts_make _ _ _ (c.requires (was_clean old new step.survives clean)) c.texts.ensures c.statements_create_schema.ensures did)
