use Rattle.std.proofs.Common.{◌≡◌, ◌<◌, ◌≤◌, ℕ, ◌+◌, ◌++◌, ◌∷◌, [], ap, arith, map, of_z, refl, rules, subst, sym, take, to_z, w64, Ok, ◌∙◌}
use Rattle.std.proofs.lemmas.Grind.{common_steps}
use Rattle.std.proofs.lemmas.List.{map-append}
use Rattle.std.specs.List.{list_any}
use Rattle.land_core.specs.Numbers.{IsMoment}
use Rattle.land_tables_history.specs.Written.{existing_records}
use Rattle.land_tables_rows.proofs.Existing.{existing_more, new_more}
use Rattle.land_tables_rows.proofs.Loops.{land_stays, more_closed, none_closed, one_closed}
use Rattle.land_tables_rows.specs.Writing.Holding.{ClosesVersions}
use Rattle.land_tables_schema.proofs.Steps.{no_step, step_fails, step_says, step_then}
use Rattle.land_tables_schema.specs.Steps.{IsTransactionStep}
use Rattle.sqlite.specs.Held.{state}
use Rattle.sqlite.specs.declared.error.Error.{Error}
use Rattle.sqlite.specs.declared.transaction.Transaction.{Transaction}
use Rattle.land_tables_rows.proofs.change_writing.all.close_put.Goals.{then-number-next+in_ok-close, else-number-next}
use Rattle.land_tables_rows.proofs.change_writing.all.close_put.Goals as goal

pub loop-x-init : goal.loop-x-init
loop-x-init g c =
    let same : to_z w64 (of_z w64 c.args.stamp) ≡ c.args.stamp = search rules in
    let moment : IsMoment (to_z w64 (of_z w64 c.args.stamp)) = subst IsMoment (sym same) c.requires.moment in
    (refl, no_step tt _ (state g.S.Store c.args.tx.now.conn.now) (λ clean. none_closed g.X.Versioned.reading g.X.Closable.has _ moment (state g.S.Store c.args.tx.now.conn.now).now))

pub close-requires-clause-has_tables : goal.close-requires-clause-has_tables
close-requires-clause-has_tables g c =
    land_stays (state g.S.Store c.args.tx.now.conn.now) (state g.S.Store c.loop-x.tx.conn.now) c.loop-x.invariant.1 (λ done. done.schema) c.requires.has_tables

pub loop-x-preserved : goal.loop-x-preserved
loop-x-preserved g c =
    let x = c.x-item.result in
    let number = g.P.HasKey.number in
    let key = g.P.HasKey.key in
    let next = c.args.next in
    let done = take c.loop-x.x-index c.args.put.now in
    let keys = map key (existing_records number next done) in
    let more : take (c.loop-x.x-index + 1) c.args.put.now ≡ done ++ x ∷ [] = grind (arith, common_steps) in
    let start = state g.S.Store c.args.tx.now.conn.now in
    let stamp = to_z w64 (of_z w64 c.args.stamp) in
    let same : to_z w64 (of_z w64 c.args.stamp) ≡ c.args.stamp = search rules in
    let moment : IsMoment (to_z w64 (of_z w64 c.args.stamp)) = subst IsMoment (sym same) c.requires.moment in
    let Holds : Transaction g.row.S.Denot → Type 0 = λ (tx : Transaction g.row.S.Denot).
    (tx.conn.ghost_name ≡ c.args.tx.now.conn.ghost_name)
    × IsTransactionStep {X = Unit {0}} {E = Error} (Ok tt)
    (ClosesVersions g.X.Versioned.reading (λ y. list_any (g.X.Closable.has y) (map key (existing_records number next (take (c.loop-x.x-index + 1) c.args.put.now)))) stamp) start (state g.S.Store tx.conn.now) in
    elim c.if-number-next.branch [
      | then-number-next+in_ok-close w ↦
          let less : number x < next = subst (λ (n : ℕ). n < next) c.number.ensures w.if-number-next.true in
          let named : map key (existing_records number next (take (c.loop-x.x-index + 1) c.args.put.now)) ≡ keys ++ w.key.result.now ∷ [] =
          ap (λ l. map key (existing_records number next l)) more ∙ ap (map key) (existing_more number next done x less) ∙ map-append key (existing_records number next done) (x ∷ []) ∙ ap (λ k. keys ++ k ∷ []) (sym w.key.ensures) in
          subst Holds (sym w.tx-is) (
            w.in_ok-close.ensures.same_reference ∙ c.loop-x.invariant.0,
            step_then start (state g.S.Store c.loop-x.tx.conn.now) (state g.S.Store w.close.new.tx.conn.now) c.loop-x.invariant.1 w.in_ok-close.ensures.step
                (λ clean far one. subst (λ l. ClosesVersions g.X.Versioned.reading (λ y. list_any (g.X.Closable.has y) l) stamp start.now (state g.S.Store w.close.new.tx.conn.now).now) (sym named)
                (more_closed g.X.Versioned.reading g.X.Closable.has stamp moment keys (w.key.result.now ∷ []) _ _ _ far (one_closed g.X.Versioned.reading g.X.Closable.has stamp moment w.key.result.now _ _ one))),
          )
      | else-number-next w ↦
          let least : next ≤ number x = subst (λ (n : ℕ). next ≤ n) c.number.ensures w.if-number-next.false in
          let named : map key (existing_records number next (take (c.loop-x.x-index + 1) c.args.put.now)) ≡ keys = ap (λ l. map key (existing_records number next l)) more ∙ ap (map key) (new_more number next done x least) in
          subst Holds (sym w.tx-is) (
            c.loop-x.invariant.0,
            step_says start (state g.S.Store c.loop-x.tx.conn.now) (Ok tt) c.loop-x.invariant.1
                (λ clean far. subst (λ l. ClosesVersions g.X.Versioned.reading (λ y. list_any (g.X.Closable.has y) l) stamp start.now (state g.S.Store c.loop-x.tx.conn.now).now) (sym named) far),
          )
    ]

pub returns-in_err-close-clause-step : goal.returns-in_err-close-clause-step
returns-in_err-close-clause-step g c = step_fails (state g.S.Store c.args.tx.now.conn.now) (state g.S.Store c.loop-x.tx.conn.now) (state g.S.Store c.close.new.tx.conn.now) _ c.from_residual.ensures.0 c.loop-x.invariant.1 c.close.ensures.step

pub returns-clause-step : goal.returns-clause-step
returns-clause-step g c =
    let all : take c.loop-x.x-index c.args.put.now ≡ c.args.put.now = grind (arith, common_steps) in
    let stamp : to_z w64 (of_z w64 c.args.stamp) ≡ c.args.stamp = search rules in
    step_says (state g.S.Store c.args.tx.now.conn.now) (state g.S.Store c.loop-x.tx.conn.now) (Ok tt) c.loop-x.invariant.1 (λ clean far.
    subst (λ l. ClosesVersions g.X.Versioned.reading (λ x. list_any (g.X.Closable.has x) (map g.P.HasKey.key (existing_records g.P.HasKey.number c.args.next l))) c.args.stamp (state g.S.Store c.args.tx.now.conn.now).now (state g.S.Store c.loop-x.tx.conn.now).now) all
    (subst (λ m. ClosesVersions g.X.Versioned.reading (λ x. list_any (g.X.Closable.has x) (map g.P.HasKey.key (existing_records g.P.HasKey.number c.args.next (take c.loop-x.x-index c.args.put.now)))) m (state g.S.Store c.args.tx.now.conn.now).now (state g.S.Store c.loop-x.tx.conn.now).now) stamp far))
