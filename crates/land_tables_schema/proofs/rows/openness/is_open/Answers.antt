use Rattle.std.proofs.Common.{IsTrue, subst}
use Rattle.std.proofs.lemmas.Bool.{false≢true}
use Rattle.land_tables_schema.proofs.Looking.{unchanged_left}
use Rattle.land_tables_schema.proofs.Refusals.{not_run_left, refused_unchanged}
use Rattle.land_tables_schema.proofs.rows.openness.is_open.Goals.{in-Ok, in-Err-SqlInputError, in-Err}
use Rattle.sqlite.specs.Held.{state}
use Rattle.land_tables_schema.proofs.rows.openness.is_open.Goals as goal

pub returns-clause-same : goal.returns-clause-same
returns-clause-same g c = λ clean yes. elim c.match-prepare.branch [
  | in-Ok w ↦ (w.in-Ok.ensures.ok clean).1
  | in-Err-SqlInputError w ↦
      let refused = w.in-Err-SqlInputError in
      refused_unchanged (state g.S.Store c.args.conn.now) (state g.S.Store c.prepare.new.self) _ refused.field-0 refused.field-0-0 refused.field-0-is (refused.ensures.err clean)
  | in-Err w ↦ absurd (false≢true (subst IsTrue w.result-is yes))
]

pub returns-clause-left : goal.returns-clause-left
returns-clause-left g c = λ clean is_open. elim c.match-prepare.branch [
  | in-Ok w ↦ unchanged_left (state g.S.Store c.args.conn.now) (state g.S.Store c.prepare.new.self) (w.in-Ok.ensures.ok clean).1
  | in-Err-SqlInputError w ↦
      let refused = w.in-Err-SqlInputError in
      not_run_left (state g.S.Store c.args.conn.now) (state g.S.Store c.prepare.new.self) _ refused.field-0 (refused.ensures.err clean) is_open
  | in-Err w ↦ not_run_left (state g.S.Store c.args.conn.now) (state g.S.Store c.prepare.new.self) _ w.in-Err.field-0 (w.in-Err.ensures.err clean) is_open
]
