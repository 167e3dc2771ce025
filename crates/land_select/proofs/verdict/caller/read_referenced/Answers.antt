use Rattle.std.proofs.Common.{rules, ◌≡◌, subst, to_z, of_z, w64}
use Rattle.land_rules.specs.Denials.Standing.{mutation_of_ask, entry_of_ask}
use Rattle.land_select.proofs.Judged.{both_parts}
use Rattle.land_select.specs.Verdicts.{record_at}
use Rattle.land_select_queries.specs.Lookups.Parts.{ReadsPart}
use Rattle.land_tables_schema.proofs.Looking.{look_fails, look_then}
use Rattle.sqlite.specs.Effect.{Database}
use Rattle.sqlite.specs.Held.{state}
use Rattle.land_select.proofs.verdict.caller.read_referenced.Goals as goal

pub returns-in_err-mutation-clause-reads_only : goal.returns-in_err-mutation-clause-reads_only
returns-in_err-mutation-clause-reads_only g c =
    look_fails (state g.S.Store c.args.conn.now) (state g.S.Store c.entry_at.new.conn) (state g.S.Store c.mutation_at.new.conn) c.from_residual-in_err-mutation.result c.from_residual-in_err-mutation.ensures.0 c.in_ok-entry.ensures.reads_only c.in_err-mutation.ensures.reads_only

pub returns-clause-reads_only : goal.returns-clause-reads_only
returns-clause-reads_only g c =
    let a = state g.S.Store c.args.conn.now in
    let ask = c.args.ask.now in
    let t = c.args.at in
    let when : to_z w64 (of_z w64 t) ≡ t = search rules in
    look_then a (state g.S.Store c.entry_at.new.conn) (state g.S.Store c.mutation_at.new.conn) (rw (when, c.entry_of_ask.ensures) at c.in_ok-entry.ensures.reads_only) (rw (when, c.mutation_of_ask.ensures) at c.in_ok-mutation.ensures.reads_only)
    (λ clean same one two.
    both_parts (λ r. record_at r.rrrs (entry_of_ask ask)) (λ r. record_at r.mutations (mutation_of_ask ask)) t a.now.trees c.in_ok-entry.entry c.in_ok-mutation.mutation one
    (subst (λ (now : Database). ReadsPart (λ r. record_at r.mutations (mutation_of_ask ask)) t now.trees c.in_ok-mutation.mutation) same two))
