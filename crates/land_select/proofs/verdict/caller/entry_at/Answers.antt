use Rattle.std.proofs.Common.{rules, ◌≡◌, subst, sym, to_z, of_z, w64, Option, ap, ℕ}
use Rattle.land_select.proofs.Judged.{looked_at_nothing}
use Rattle.land_select.specs.Verdicts.{record_at}
use Rattle.land_select_queries.specs.Lookups.Parts.{ReadsPart}
use Rattle.land_tables_schema.specs.Rows.ReadQueries.{IsStoreRead}
use Rattle.sqlite.specs.Held.{state}
use Rattle.land_select.proofs.verdict.caller.entry_at.Goals as goal

pub returns-in-Some-clause-reads_only : goal.returns-in-Some-clause-reads_only
returns-in-Some-clause-reads_only g c =
    let a = state g.S.Store c.args.conn.now in
    let t = c.args.at in
    let when : to_z w64 (of_z w64 t) ≡ t = search rules in
    subst (λ (o : Option ℕ). IsStoreRead c.record.result (ReadsPart (λ r. record_at r.rrrs o) t a.now.trees) a (state g.S.Store c.record.new.conn)) (sym c.in-Some.is) (rw when at c.record.ensures.reads_only)

pub returns-in-None-clause-reads_only : goal.returns-in-None-clause-reads_only
returns-in-None-clause-reads_only g c =
    let a = state g.S.Store c.args.conn.now in
    looked_at_nothing _ _ a c.requires.open (λ clean moments h held r have stands. ap (record_at r.rrrs) (sym c.in-None.is))
