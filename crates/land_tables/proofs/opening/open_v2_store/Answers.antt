use Rattle.std.proofs.Common.{Ok}
use Rattle.land_tables.proofs.Judgements.{judged_err, judged_ok}
use Rattle.land_tables.specs.Registers.{version_2}
use Rattle.land_tables_schema.proofs.Looking.{look_told}
use Rattle.sqlite.specs.Held.{state}
use Rattle.land_tables.proofs.opening.open_v2_store.Goals as goal

pub returns-in-Ok-clause-judgement : goal.returns-in-Ok-clause-judgement
returns-in-Ok-clause-judgement g c =
    let a = state g.S.Store c.args.conn.now in
    let b = state g.S.Store c.validate_v2.new.conn in
    judged_ok version_2 a b c.requires.settled c.in-Ok.found.1 (look_told a b (Ok c.in-Ok.found.1) c.in-Ok.ensures.reads_only (λ _ it. it.register))

pub returns-in-Ok-clause-contents : goal.returns-in-Ok-clause-contents
returns-in-Ok-clause-contents g c = c.in-Ok.ensures.reads_only.given

pub returns-in-Err-clause-judgement : goal.returns-in-Err-clause-judgement
returns-in-Err-clause-judgement g c =
    judged_err version_2 (state g.S.Store c.args.conn.now) (state g.S.Store c.validate_v2.new.conn) c.requires.settled (state g.S.Store c.fault_after.new.conn) c.in-Err.fault c.fault_after.result
    c.in-Err.ensures.reads_only c.in-Err.ensures.refused c.fault_after.ensures.fault c.fault_after.ensures.same c.fault_after.ensures.left c.fault_after.ensures.survives
