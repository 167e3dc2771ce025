use Rattle.std.proofs.Common.{rules, ◌≡◌, ap, cond, sym, to_z, of_z, w64, ◌∙◌}
use Rattle.std.specs.FinMap as map
use Rattle.land_tables_schema.proofs.Looking.{look_told}
use Rattle.sqlite.specs.Held.{state}
use Rattle.land_select.proofs.verdict.conveyancer.pending_entries.Goals as goal

pub returns-then-branch-clause-reads_only : goal.returns-then-branch-clause-reads_only
returns-then-branch-clause-reads_only g c =
    let when : to_z w64 (of_z w64 c.args.at) ≡ c.args.at = search rules in
    let reads_only = rw when at c.in_ok-has_pending_mutation_on.ensures.reads_only in
    look_told (state g.S.Store c.args.conn.now) (state g.S.Store c.has_pending_mutation_on.new.conn) _ reads_only
    (λ clean is moments h held r have stands. ap (λ b. cond b c.args.entries map.empty) (sym c.if-branch.true ∙ is moments h held r have stands))

pub returns-clause-reads_only : goal.returns-clause-reads_only
returns-clause-reads_only g c =
    let when : to_z w64 (of_z w64 c.args.at) ≡ c.args.at = search rules in
    let reads_only = rw when at c.in_ok-has_pending_mutation_on.ensures.reads_only in
    look_told (state g.S.Store c.args.conn.now) (state g.S.Store c.has_pending_mutation_on.new.conn) _ reads_only
    (λ clean is moments h held r have stands. c.new.ensures ∙ ap (λ b. cond b c.args.entries map.empty) (sym c.if-branch.false ∙ is moments h held r have stands))
