use Rattle.std.proofs.Common.{rules, ◌≡◌, slice_index_or, ◌+◌, ◌∷◌, ◌++◌, [], arith, ℕ, Bool, take, to_z, of_z, w64, sym, subst}
use Rattle.std.proofs.lemmas.Grind.{common_steps}
use Rattle.land_select.proofs.SlicedRegisters.{with_last}
use Rattle.land_select.specs.Slices.Gathered.{KnowsMore, with_number, with_numbers}
use Rattle.land_tables_schema.proofs.Looking.{look_then, look_told}
use Rattle.sqlite.specs.Effect.{Database}
use Rattle.sqlite.specs.Held.{state}
use Rattle.land_select.proofs.slices.gathers.gather_all.Goals as goal

pub loop-number-preserved : goal.loop-number-preserved
loop-number-preserved g c =
    let a = state g.S.Store c.args.conn.now in
    let b = state g.S.Store c.loop-number.conn in
    let d = state g.S.Store c.gather.new.conn in
    let k = c.loop-number.number-index in
    let s = slice_index_or c.args.numbers.now k 0 in
    let it = c.in_ok-gathered.gathered in
    let knows = g.G.Gathers.knows in
    let when : to_z w64 (of_z w64 c.args.at) ≡ c.args.at = search rules in
    let reads_only = rw when at c.in_ok-gathered.ensures.reads_only in
    let before = rw when at c.loop-number.invariant.0 in
    let more : take (k + 1) c.args.numbers.now ≡ take k c.args.numbers.now ++ s ∷ [] = grind (arith, common_steps) in (
      rw when (look_then a b d before reads_only
          (λ clean same all those moments h held r have stands asked known.
          subst (λ ns. knows r (with_numbers ns asked) it) (sym more)
          (subst (λ (w : ℕ → Bool). knows r w it) (sym (with_last (take k c.args.numbers.now) s asked))
          (subst (λ (now : Database). KnowsMore knows (with_number s) c.loop-number.gathered it c.args.at now.trees) same those moments h held r have stands (with_numbers (take k c.args.numbers.now) asked)
          (all moments h held r have stands asked known))))),
      λ autocommit. c.in_ok-gathered.ensures.autocommit (c.loop-number.invariant.1 autocommit),
    )

pub returns-clause-reads_only : goal.returns-clause-reads_only
returns-clause-reads_only g c =
    let a = state g.S.Store c.args.conn.now in
    let when : to_z w64 (of_z w64 c.args.at) ≡ c.args.at = search rules in
    let before = rw when at c.loop-number.invariant.0 in
    let all : take c.loop-number.number-index c.args.numbers.now ≡ c.args.numbers.now = grind (arith, common_steps) in
    look_told a (state g.S.Store c.loop-number.conn) _ before
    (λ clean these moments h held r have stands asked known.
    subst (λ ns. g.G.Gathers.knows r (with_numbers ns asked) c.loop-number.gathered) all (these moments h held r have stands asked known))
