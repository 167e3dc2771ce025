use Rattle.std.proofs.Common.{rules, ◌≡◌, slice_index_or, ◌+◌, ◌∷◌, ◌++◌, [], arith, take, to_z, of_z, w64, sym, ap, subst, subst₂, ◌∙◌}
use Rattle.std.proofs.lemmas.Grind.{common_steps}
use Rattle.land_core.specs.declared.kind.Kind.TheVariants.{Party}
use Rattle.land_select_queries.proofs.United.{one_more}
use Rattle.land_select_queries.specs.Joins.Execution.{AreNumbersOf, AreNumbersOfAny}
use Rattle.land_select_queries.specs.declared.sights.selection.Selection.TheVariants.{All}
use Rattle.land_tables_schema.proofs.Looking.{look_then, look_told}
use Rattle.sqlite.specs.Effect.{Database}
use Rattle.sqlite.specs.Held.{state}
use Rattle.land_select_queries.proofs.joins.running.collect_numbers.Goals as goal

pub loop-selection-preserved : goal.loop-selection-preserved
loop-selection-preserved g c =
    let a = state g.S.Store c.args.conn.now in
    let b = state g.S.Store c.loop-selection.conn in
    let d = state g.S.Store c.numbers.new.conn in
    let k = c.loop-selection.selection-index in
    let s = slice_index_or c.args.selections.now k (All Party) in
    let when : to_z w64 (of_z w64 c.args.at) ≡ c.args.at = search rules in
    let reads_only = rw when at c.in_ok-more.ensures.reads_only in
    let before = rw when at c.loop-selection.invariant.0 in
    let more : take (k + 1) c.args.selections.now ≡ take k c.args.selections.now ++ s ∷ [] = grind (arith, common_steps) in
    let items : c.extend_from_slice.new.self.items ≡ c.loop-selection.found.items ++ c.in_ok-more.more = c.in_ok-extend_from_slice.ensures.items ∙ ap (λ l. c.loop-selection.found.items ++ l) c.as_slice.ensures in (
      rw when (look_then a b d before reads_only
          (λ clean same all those. subst₂ (λ ss xs. AreNumbersOfAny ss c.args.at c.args.caller a.now.trees xs) (sym more) (sym items)
          (one_more (take k c.args.selections.now) s c.args.at c.args.caller a.now.trees c.loop-selection.found.items c.in_ok-more.more all
          (subst (λ (now : Database). AreNumbersOf s c.args.at c.args.caller now.trees c.in_ok-more.more) same those)))),
      λ autocommit. c.in_ok-more.ensures.autocommit (c.loop-selection.invariant.1 autocommit),
    )

pub returns-clause-reads_only : goal.returns-clause-reads_only
returns-clause-reads_only g c =
    let a = state g.S.Store c.args.conn.now in
    let when : to_z w64 (of_z w64 c.args.at) ≡ c.args.at = search rules in
    let before = rw when at c.loop-selection.invariant.0 in
    let all : take c.loop-selection.selection-index c.args.selections.now ≡ c.args.selections.now = grind (arith, common_steps) in
    look_told a (state g.S.Store c.loop-selection.conn) _ before
    (λ clean these. subst (λ ss. AreNumbersOfAny ss c.args.at c.args.caller a.now.trees c.loop-selection.found.items) all these)
