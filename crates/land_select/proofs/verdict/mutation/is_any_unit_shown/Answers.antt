use Rattle.std.proofs.Common.{rules, ◌≡◌, ◌<◌, ◌+◌, ◌++◌, ◌∷◌, [], arith, Bool, ℕ, length, slice_index_or, take, to_z, of_z, w64, subst, sym}
use Rattle.std.proofs.lemmas.Grind.{common_steps}
use Rattle.land_core.specs.declared.register.Register.{Register}
use Rattle.land_rules.specs.Denials.Interests.{interest_at, shows_unit}
use Rattle.land_select.proofs.Passing.{NonePasses, nor_the_next, one_passes}
use Rattle.land_select_queries.specs.Lookups.Parts.{ReadsPart}
use Rattle.land_tables_schema.proofs.Looking.{look_then, look_told}
use Rattle.sqlite.specs.Effect.{Database}
use Rattle.sqlite.specs.Held.{state}
use Rattle.land_select.proofs.verdict.mutation.is_any_unit_shown.Goals as goal

pub returns-then-branch-clause-reads_only : goal.returns-then-branch-clause-reads_only
returns-then-branch-clause-reads_only g c =
    let a = state g.S.Store c.args.conn.now in
    let k = c.loop-unit.unit-index in
    let s = slice_index_or c.args.units.now k 0 in
    let t = c.args.at in
    let it = c.in_ok-is_unit_shown.field-0 in
    let passes : Register → ℕ → Bool = λ r unit. shows_unit (interest_at r c.args.caller unit) in
    let when : to_z w64 (of_z w64 t) ≡ t = search rules in
    let before = rw when at c.loop-unit.invariant.0 in
    let reads_only = rw when at c.in_ok-is_unit_shown.ensures.reads_only in
    let there : k < length c.args.units.now = grind (arith, common_steps) in
    look_then a (state g.S.Store c.loop-unit.conn) (state g.S.Store c.is_unit_shown.new.conn) before reads_only
    (λ clean same none one.
    one_passes passes t a.now.trees c.args.units.now k there
    (subst (λ (b : Bool). ReadsPart (λ r. passes r s) t a.now.trees b) c.if-branch.true
    (subst (λ (now : Database). ReadsPart (λ r. passes r s) t now.trees it) same one)))

pub loop-unit-preserved : goal.loop-unit-preserved
loop-unit-preserved g c =
    let a = state g.S.Store c.args.conn.now in
    let k = c.loop-unit.unit-index in
    let s = slice_index_or c.args.units.now k 0 in
    let t = c.args.at in
    let it = c.in_ok-is_unit_shown.field-0 in
    let passes : Register → ℕ → Bool = λ r unit. shows_unit (interest_at r c.args.caller unit) in
    let when : to_z w64 (of_z w64 t) ≡ t = search rules in
    let before = rw when at c.loop-unit.invariant.0 in
    let reads_only = rw when at c.in_ok-is_unit_shown.ensures.reads_only in
    let more : take (k + 1) c.args.units.now ≡ take k c.args.units.now ++ s ∷ [] = grind (arith, common_steps) in (
      rw when (look_then a (state g.S.Store c.loop-unit.conn) (state g.S.Store c.is_unit_shown.new.conn) before reads_only
          (λ clean same none one.
          subst (NonePasses passes t a.now.trees) (sym more)
          (nor_the_next passes t a.now.trees (take k c.args.units.now) s none
          (subst (λ (b : Bool). ReadsPart (λ r. passes r s) t a.now.trees b) c.if-branch.false
          (subst (λ (now : Database). ReadsPart (λ r. passes r s) t now.trees it) same one))))),
      λ autocommit. c.in_ok-is_unit_shown.ensures.autocommit (c.loop-unit.invariant.1 autocommit),
    )

pub returns-clause-reads_only : goal.returns-clause-reads_only
returns-clause-reads_only g c =
    let a = state g.S.Store c.args.conn.now in
    let t = c.args.at in
    let passes : Register → ℕ → Bool = λ r unit. shows_unit (interest_at r c.args.caller unit) in
    let when : to_z w64 (of_z w64 t) ≡ t = search rules in
    let before = rw when at c.loop-unit.invariant.0 in
    let all : take c.loop-unit.unit-index c.args.units.now ≡ c.args.units.now = grind (arith, common_steps) in
    look_told a (state g.S.Store c.loop-unit.conn) _ before (λ clean none. subst (NonePasses passes t a.now.trees) all none)
