use Rattle.std.proofs.Common.{rules, ◌≡◌, to_z, of_z, w64, ◌∙◌, subst, sym}
use Rattle.land_rules.specs.Denials.Standing.{mutation_of_ask}
use Rattle.land_select.proofs.CachedValue.{decided_cached, reads_decide_none}
use Rattle.land_select.proofs.Judged.{looked_at_nothing}
use Rattle.land_select.proofs.KnownRoles.{holder_told}
use Rattle.land_select.specs.Verdicts.{IsDecidedValue}
use Rattle.land_tables_schema.proofs.Looking.{look_told}
use Rattle.sqlite.specs.Held.{state}
use Rattle.land_select.proofs.verdict.caller.read_standing_verdict.Goals as goal

pub returns-clause-reads_only : goal.returns-clause-reads_only
returns-clause-reads_only g c =
    let when : to_z w64 (of_z w64 c.args.at) ≡ c.args.at = search rules in
    let reads_only = rw when at c.in_ok-evidence.ensures.reads_only in
    look_told (state g.S.Store c.args.conn.now) (state g.S.Store c.evidence.new.conn) _ reads_only
    (λ clean is moments h held r premise stand given.
    let enough = is moments h held r premise stand given in (
      c.standing_verdict-verdict.ensures ∙ c.evidence_is_enough.ensures c.in_ok-evidence.evidence r c.args.caller c.args.ask.now c.args.past enough,
      subst (IsDecidedValue r c.args.caller (mutation_of_ask c.args.ask.now)) (sym c.cached_mutations.ensures) (decided_cached r c.args.caller (mutation_of_ask c.args.ask.now) c.in_ok-evidence.evidence.mutations enough.mutation),
    ))

pub returns-then-is_read-clause-reads_only : goal.returns-then-is_read-clause-reads_only
returns-then-is_read-clause-reads_only g c =
    looked_at_nothing _ _ (state g.S.Store c.args.conn.now) c.requires.open
    (λ clean moments h held r premise stand given.
    let reads = sym c.is_read.ensures ∙ c.if-is_read.true in
    (c.holder_verdict.ensures ∙ holder_told c.soundness_by_number.ensures r premise c.args.caller c.args.ask.now c.args.past reads (given c.if-is_held.true), reads_decide_none r c.args.caller c.args.ask.now reads))
