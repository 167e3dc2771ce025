use Rattle.std.proofs.Common.{◌≡◌, ◌+◌, ◌++◌, ◌∷◌, [], arith, of_z, refl, rules, subst, sym, take, to_z, w64, Ok, ◌∙◌}
use Rattle.std.proofs.lemmas.Grind.{common_steps}
use Rattle.land_tables_rows.proofs.Loops.{land_stays, more_begun, none_begun, one_begun}
use Rattle.land_tables_rows.specs.Recording.{BeginsAll}
use Rattle.land_tables_schema.proofs.Steps.{no_step, step_fails, step_says, step_then}
use Rattle.sqlite.specs.Held.{state}
use Rattle.land_tables_rows.proofs.change_writing.all.begin_all.Goals as goal

pub loop-x-init : goal.loop-x-init
loop-x-init g c = (refl, no_step tt _ (state g.S.Store c.args.tx.now.conn.now) (λ clean. none_begun g.X.Versioned.reading _ (state g.S.Store c.args.tx.now.conn.now).now))

pub begin-requires-clause-has_tables : goal.begin-requires-clause-has_tables
begin-requires-clause-has_tables g c =
    land_stays (state g.S.Store c.args.tx.now.conn.now) (state g.S.Store c.loop-x.tx.conn.now) c.loop-x.invariant.1 (λ done. done.schema) c.requires.has_tables

pub loop-x-preserved : goal.loop-x-preserved
loop-x-preserved g c =
    let e = c.in_ok-begin.ensures in
    let x = c.x-item.result in
    let done = take c.loop-x.x-index c.args.put.now in
    let more : take (c.loop-x.x-index + 1) c.args.put.now ≡ done ++ x ∷ [] = grind (arith, common_steps) in
    let since = to_z w64 (of_z w64 c.args.since) in (
      e.same_reference ∙ c.loop-x.invariant.0,
      step_then (state g.S.Store c.args.tx.now.conn.now) (state g.S.Store c.loop-x.tx.conn.now) (state g.S.Store c.begin.new.tx.conn.now) c.loop-x.invariant.1 e.step
          (λ clean far one. subst (λ l. BeginsAll g.X.Versioned.reading l since (state g.S.Store c.args.tx.now.conn.now).now (state g.S.Store c.begin.new.tx.conn.now).now) (sym more)
          (more_begun g.X.Versioned.reading since done (x ∷ []) _ _ _ far (one_begun g.X.Versioned.reading since x _ _ one))),
    )

pub returns-in_err-begin-clause-step : goal.returns-in_err-begin-clause-step
returns-in_err-begin-clause-step g c = step_fails (state g.S.Store c.args.tx.now.conn.now) (state g.S.Store c.loop-x.tx.conn.now) (state g.S.Store c.begin.new.tx.conn.now) _ c.from_residual.ensures.0 c.loop-x.invariant.1 c.begin.ensures.step

pub returns-clause-step : goal.returns-clause-step
returns-clause-step g c =
    let all : take c.loop-x.x-index c.args.put.now ≡ c.args.put.now = grind (arith, common_steps) in
    let since : to_z w64 (of_z w64 c.args.since) ≡ c.args.since = search rules in
    step_says (state g.S.Store c.args.tx.now.conn.now) (state g.S.Store c.loop-x.tx.conn.now) (Ok tt) c.loop-x.invariant.1 (λ clean far.
    subst (λ l. BeginsAll g.X.Versioned.reading l c.args.since (state g.S.Store c.args.tx.now.conn.now).now (state g.S.Store c.loop-x.tx.conn.now).now) all
    (subst (λ m. BeginsAll g.X.Versioned.reading (take c.loop-x.x-index c.args.put.now) m (state g.S.Store c.args.tx.now.conn.now).now (state g.S.Store c.loop-x.tx.conn.now).now) since far))
