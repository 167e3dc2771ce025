use Rattle.std.proofs.Common.{rules, ◌≡◌, slice_index_or, ◌+◌, ◌∷◌, ◌++◌, [], Ok, arith, take, to_z, of_z, w64, sym, ap, subst, subst₂, ◌∙◌}
use Rattle.std.proofs.lemmas.Grind.{common_steps}
use Rattle.land_select_queries.proofs.United.{one_caller_more}
use Rattle.land_select_queries.specs.Joins.Execution.{AreNumbersForAny, AreNumbersOfAny}
use Rattle.land_tables_rows.specs.declared.listing.fault.ReadFault.{ReadFault}
use Rattle.land_tables_schema.proofs.Looking.{look_fails, look_lost, look_then, look_told}
use Rattle.land_tables_schema.specs.Rows.ReadQueries.{IsStoreRead}
use Rattle.sqlite.specs.Effect.{Database}
use Rattle.sqlite.specs.Held.{state}
use Rattle.land_select_queries.proofs.joins.running.collect_numbers_for.Goals as goal

pub loop-caller-preserved : goal.loop-caller-preserved
loop-caller-preserved g c =
    let a = state g.S.Store c.args.conn.now in
    let b = state g.S.Store c.loop-caller.conn in
    let d = state g.S.Store c.collect_numbers.new.conn in
    let k = c.loop-caller.caller-index in
    let s = slice_index_or c.args.callers.now k 0 in
    let found = c.in_ok-given.given.items in
    let when : to_z w64 (of_z w64 c.args.at) ≡ c.args.at = search rules in
    let reads_only = rw when at c.in_ok-given.ensures.reads_only in
    let before = rw when at c.loop-caller.invariant.0 in
    let more : take (k + 1) c.args.callers.now ≡ take k c.args.callers.now ++ s ∷ [] = grind (arith, common_steps) in
    let items : c.extend_from_slice.new.self.items ≡ c.loop-caller.found.items ++ found = c.in_ok-extend_from_slice.ensures.items ∙ ap (λ l. c.loop-caller.found.items ++ l) c.as_slice.ensures.value in (
      rw when (look_then a b d before reads_only
          (λ clean same all those. subst₂ (λ cs xs. AreNumbersForAny c.args.selections.now c.args.at cs a.now.trees xs) (sym more) (sym items)
          (one_caller_more c.args.selections.now (take k c.args.callers.now) s c.args.at a.now.trees c.loop-caller.found.items found all
          (subst (λ (now : Database). AreNumbersOfAny c.args.selections.now c.args.at s now.trees found) same those)))),
      λ autocommit. c.in_ok-given.ensures.autocommit (c.loop-caller.invariant.1 autocommit),
    )

pub returns-clause-reads_only : goal.returns-clause-reads_only
returns-clause-reads_only g c =
    let a = state g.S.Store c.args.conn.now in
    let when : to_z w64 (of_z w64 c.args.at) ≡ c.args.at = search rules in
    let before = rw when at c.loop-caller.invariant.0 in
    let all : take c.loop-caller.caller-index c.args.callers.now ≡ c.args.callers.now = grind (arith, common_steps) in
    look_told a (state g.S.Store c.loop-caller.conn) _ before
    (λ clean these. subst (λ cs. AreNumbersForAny c.args.selections.now c.args.at cs a.now.trees c.loop-caller.found.items) all these)

pub returns-in_err-given-clause-reads_only : goal.returns-in_err-given-clause-reads_only
returns-in_err-given-clause-reads_only g c =
    let a = state g.S.Store c.args.conn.now in
    let b = state g.S.Store c.loop-caller.conn in
    let when : to_z w64 (of_z w64 c.args.at) ≡ c.args.at = search rules in
    let before = rw when at c.loop-caller.invariant.0 in
    look_fails a b (state g.S.Store c.collect_numbers.new.conn) c.from_residual.result c.from_residual.ensures.0 before c.in_err-given.ensures.reads_only

pub returns-in_err-extend_from_slice-clause-reads_only : goal.returns-in_err-extend_from_slice-clause-reads_only
returns-in_err-extend_from_slice-clause-reads_only g c =
    let a = state g.S.Store c.args.conn.now in
    let b = state g.S.Store c.loop-caller.conn in
    let d = state g.S.Store c.collect_numbers.new.conn in
    let when : to_z w64 (of_z w64 c.args.at) ≡ c.args.at = search rules in
    let before = rw when at c.loop-caller.invariant.0 in
    let both : IsStoreRead {X = Unit {0}} {E = ReadFault} (Ok tt) (λ _. Unit {0}) a d = look_then a b d before c.in_ok-given.ensures.reads_only (λ _ _ _ _. tt) in
    look_lost a d c.from_residual-in_err-extend_from_slice.result c.from_residual-in_err-extend_from_slice.ensures.0 both
