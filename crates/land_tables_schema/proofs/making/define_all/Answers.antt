use Rattle.std.proofs.Common.{Bor, ℕ, List, slice_index_or, ◌≡◌, ◌+◌, ◌∷◌, ◌++◌, [], arith, take, drop, map, refl, subst, ◌∙◌}
use Rattle.std.proofs.lemmas.Grind.{common_steps}
use Rattle.land_tables_schema.proofs.Creates.{none_defined, next_defines, defined_more}
use Rattle.land_tables_schema.proofs.Steps.{no_step, step_then, step_fails}
use Rattle.land_tables_schema.specs.Making.{DefinesAll}
use Rattle.sqlite.specs.Held.{state}
use Rattle.land_tables_schema.proofs.making.define_all.Goals as goal

abbrev no_text : Bor (List ℕ)
no_text = record { ref_ptr = (0, 0); now = [] }

pub loop-text-init : goal.loop-text-init
loop-text-init g c = (refl, no_step tt _ (state g.S.Store c.args.tx.now.conn.now) (λ clean. none_defined _ _ (c.requires clean)))

pub define-requires : goal.define-requires
define-requires g c clean =
    let left : drop c.loop-text.text-index c.args.texts.now ≡ slice_index_or c.args.texts.now c.loop-text.text-index no_text ∷ drop (c.loop-text.text-index + 1) c.args.texts.now = grind (arith, common_steps) in
    next_defines (λ t. t.now) _ _ _ left (c.loop-text.invariant.1.done clean).definitions

pub loop-text-preserved : goal.loop-text-preserved
loop-text-preserved g c =
    let e = c.in_ok-define.ensures in
    let left : drop c.loop-text.text-index c.args.texts.now ≡ slice_index_or c.args.texts.now c.loop-text.text-index no_text ∷ drop (c.loop-text.text-index + 1) c.args.texts.now = grind (arith, common_steps) in
    let more : take (c.loop-text.text-index + 1) c.args.texts.now ≡ take c.loop-text.text-index c.args.texts.now ++ slice_index_or c.args.texts.now c.loop-text.text-index no_text ∷ [] = grind (arith, common_steps) in (
      e.same_reference ∙ c.loop-text.invariant.0,
      step_then (state g.S.Store c.args.tx.now.conn.now) (state g.S.Store c.loop-text.tx.conn.now) (state g.S.Store c.define.new.tx.conn.now) c.loop-text.invariant.1 e.step
          (λ clean far one. defined_more _ _ _ (λ t. t.now) _ _ (slice_index_or c.args.texts.now c.loop-text.text-index no_text) left more far one),
    )

pub returns-in_err-define-clause-step : goal.returns-in_err-define-clause-step
returns-in_err-define-clause-step g c = step_fails (state g.S.Store c.args.tx.now.conn.now) (state g.S.Store c.loop-text.tx.conn.now) (state g.S.Store c.define.new.tx.conn.now) _ c.from_residual.ensures.0 c.loop-text.invariant.1 c.define.ensures.step

pub returns-clause-step : goal.returns-clause-step
returns-clause-step g c =
    let all : take c.loop-text.text-index c.args.texts.now ≡ c.args.texts.now = grind (arith, common_steps) in
    let far = c.loop-text.invariant.1 in
    record {
      done = λ clean. subst (λ l. DefinesAll (map (λ t. t.now) l) (state g.S.Store c.args.tx.now.conn.now).now (state g.S.Store c.loop-text.tx.conn.now).now) all (far.done clean).defined;
      inside = far.inside;
      kept = far.kept;
      survives = far.survives;
    }
