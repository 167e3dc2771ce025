use Rattle.std.proofs.Common.{◌≡◌, ◌+◌, ◌++◌, ◌∷◌, [], arith, of_z, refl, rules, subst, sym, take, to_z, w64, Ok, ◌∙◌}
use Rattle.std.proofs.lemmas.Grind.{common_steps}
use Rattle.std.specs.List.{list_any}
use Rattle.land_core.specs.Numbers.{IsMoment}
use Rattle.land_tables_rows.proofs.Loops.{land_stays, more_closed, none_closed, one_closed}
use Rattle.land_tables_rows.specs.Writing.Holding.{ClosesVersions}
use Rattle.land_tables_schema.proofs.Steps.{no_step, step_fails, step_says, step_then}
use Rattle.sqlite.specs.Held.{state}
use Rattle.land_tables_rows.proofs.change_writing.all.close_all.Goals as goal

pub loop-key-init : goal.loop-key-init
loop-key-init g c =
    let same : to_z w64 (of_z w64 c.args.stamp) ≡ c.args.stamp = search rules in
    let moment : IsMoment (to_z w64 (of_z w64 c.args.stamp)) = subst IsMoment (sym same) c.requires.moment in
    (refl, no_step tt _ (state g.S.Store c.args.tx.now.conn.now) (λ clean. none_closed g.X.Versioned.reading g.X.Closable.has _ moment (state g.S.Store c.args.tx.now.conn.now).now))

pub close-requires-clause-has_tables : goal.close-requires-clause-has_tables
close-requires-clause-has_tables g c =
    land_stays (state g.S.Store c.args.tx.now.conn.now) (state g.S.Store c.loop-key.tx.conn.now) c.loop-key.invariant.1 (λ done. done.schema) c.requires.has_tables

pub loop-key-preserved : goal.loop-key-preserved
loop-key-preserved g c =
    let e = c.in_ok-close.ensures in
    let key = c.key-item.result in
    let done = take c.loop-key.key-index c.args.keys.now in
    let more : take (c.loop-key.key-index + 1) c.args.keys.now ≡ done ++ key ∷ [] = grind (arith, common_steps) in
    let stamp = to_z w64 (of_z w64 c.args.stamp) in
    let same : to_z w64 (of_z w64 c.args.stamp) ≡ c.args.stamp = search rules in
    let moment : IsMoment (to_z w64 (of_z w64 c.args.stamp)) = subst IsMoment (sym same) c.requires.moment in (
      e.same_reference ∙ c.loop-key.invariant.0,
      step_then (state g.S.Store c.args.tx.now.conn.now) (state g.S.Store c.loop-key.tx.conn.now) (state g.S.Store c.close.new.tx.conn.now) c.loop-key.invariant.1 e.step
          (λ clean far one. subst (λ l. ClosesVersions g.X.Versioned.reading (λ x. list_any (g.X.Closable.has x) l) stamp (state g.S.Store c.args.tx.now.conn.now).now (state g.S.Store c.close.new.tx.conn.now).now) (sym more)
          (more_closed g.X.Versioned.reading g.X.Closable.has stamp moment done (key ∷ []) _ _ _ far (one_closed g.X.Versioned.reading g.X.Closable.has stamp moment key _ _ one))),
    )

pub returns-in_err-close-clause-step : goal.returns-in_err-close-clause-step
returns-in_err-close-clause-step g c = step_fails (state g.S.Store c.args.tx.now.conn.now) (state g.S.Store c.loop-key.tx.conn.now) (state g.S.Store c.close.new.tx.conn.now) _ c.from_residual.ensures.0 c.loop-key.invariant.1 c.close.ensures.step

pub returns-clause-step : goal.returns-clause-step
returns-clause-step g c =
    let all : take c.loop-key.key-index c.args.keys.now ≡ c.args.keys.now = grind (arith, common_steps) in
    let stamp : to_z w64 (of_z w64 c.args.stamp) ≡ c.args.stamp = search rules in
    step_says (state g.S.Store c.args.tx.now.conn.now) (state g.S.Store c.loop-key.tx.conn.now) (Ok tt) c.loop-key.invariant.1 (λ clean far.
    subst (λ l. ClosesVersions g.X.Versioned.reading (λ x. list_any (g.X.Closable.has x) l) c.args.stamp (state g.S.Store c.args.tx.now.conn.now).now (state g.S.Store c.loop-key.tx.conn.now).now) all
    (subst (λ m. ClosesVersions g.X.Versioned.reading (λ x. list_any (g.X.Closable.has x) (take c.loop-key.key-index c.args.keys.now)) m (state g.S.Store c.args.tx.now.conn.now).now (state g.S.Store c.loop-key.tx.conn.now).now) stamp far))
