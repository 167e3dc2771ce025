use Rattle.std.proofs.Common.{rules, ◌≡◌, ap, subst, to_z, of_z, w64, Ok}
use Rattle.land_rules.specs.Denials.Standing.{mutation_of_ask, entry_of_ask}
use Rattle.land_select.proofs.Judged.{evidence_suffices}
use Rattle.land_select.proofs.Viewed.{have_members}
use Rattle.land_select.specs.Verdicts.{IsCallerWithRoles, record_at}
use Rattle.land_select_queries.specs.Lookups.Parts.{ReadsPart}
use Rattle.land_tables_rows.specs.declared.listing.fault.ReadFault.{ReadFault}
use Rattle.land_tables_schema.proofs.Looking.{look_fails, look_lost, look_then, look_told}
use Rattle.land_tables_schema.specs.Rows.ReadQueries.{IsStoreRead}
use Rattle.sqlite.specs.Effect.{Database}
use Rattle.sqlite.specs.Held.{state}
use Rattle.land_select.proofs.verdict.caller.evidence.Goals as goal

pub returns-in_err-asked-clause-reads_only : goal.returns-in_err-asked-clause-reads_only
returns-in_err-asked-clause-reads_only g c =
    look_fails (state g.S.Store c.args.conn.now) (state g.S.Store c.caller_and_roles.new.conn) (state g.S.Store c.read_referenced.new.conn) c.from_residual-in_err-asked.result c.from_residual-in_err-asked.ensures.0 c.in_ok-asking.ensures.reads_only c.in_err-asked.ensures.reads_only

pub returns-in_err-evidence_of-clause-reads_only : goal.returns-in_err-evidence_of-clause-reads_only
returns-in_err-evidence_of-clause-reads_only g c =
    let a = state g.S.Store c.args.conn.now in
    let d = state g.S.Store c.read_referenced.new.conn in
    let two : IsStoreRead {X = Unit {0}} {E = ReadFault} (Ok tt) (λ _. Unit {0}) a d = look_then a (state g.S.Store c.caller_and_roles.new.conn) d c.in_ok-asking.ensures.reads_only c.in_ok-asked.ensures.reads_only (λ _ _ _ _. tt) in
    look_lost a d c.from_residual-in_err-evidence_of.result c.from_residual-in_err-evidence_of.ensures.0 two

pub returns-clause-reads_only : goal.returns-clause-reads_only
returns-clause-reads_only g c =
    let a = state g.S.Store c.args.conn.now in
    let d = state g.S.Store c.read_referenced.new.conn in
    let caller = c.args.caller in
    let ask = c.args.ask.now in
    let t = c.args.at in
    let when : to_z w64 (of_z w64 t) ≡ t = search rules in
    let asking = c.in_ok-asking.asking in
    let asked = c.in_ok-asked.asked in
    let made = rw c.placeholder_party-party.ensures at c.in_ok-evidence_of.ensures in
    let both : IsStoreRead {X = Unit {0}} {E = ReadFault} (Ok tt)
    (λ _. IsCallerWithRoles caller c.args.is_held t a.now.trees asking × ReadsPart (λ r. (record_at r.rrrs (entry_of_ask ask), record_at r.mutations (mutation_of_ask ask))) t a.now.trees asked) a d =
    look_then a (state g.S.Store c.caller_and_roles.new.conn) d (rw when at c.in_ok-asking.ensures.reads_only) (rw when at c.in_ok-asked.ensures.reads_only)
    (λ clean same one two. (one, subst (λ (now : Database). ReadsPart (λ r. (record_at r.rrrs (entry_of_ask ask), record_at r.mutations (mutation_of_ask ask))) t now.trees asked) same two)) in
    look_told a d _ both
    (λ clean both moments h held r premise stand given.
    let records = both.1 moments h held r (have_members c.soundness_by_number.ensures r premise) stand in
    evidence_suffices c.lookups_are_enough.ensures r caller ask asking.0 asking.1 asked.0 asked.1 _ made (both.0 moments h held r premise stand given) (ap (λ them. them.0) records) (ap (λ them. them.1) records))
