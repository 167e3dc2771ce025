use Rattle.std.proofs.Common.{rules, ◌≡◌, subst, sym, to_z, of_z, w64}
use Rattle.land_core.specs.declared.ask.Ask.{Ask}
use Rattle.land_select.specs.Cache.{IsSightVerdictWith}
use Rattle.land_tables_schema.specs.Rows.ReadQueries.{IsStoreRead}
use Rattle.sqlite.specs.Held.{state}
use Rattle.land_select.proofs.verdict.query.read_sight_verdict.Goals as goal

pub returns-in-View-clause-reads_only : goal.returns-in-View-clause-reads_only
returns-in-View-clause-reads_only g c =
    let a = state g.S.Store c.args.conn.now in
    let t = c.args.at in
    let when : to_z w64 (of_z w64 t) ≡ t = search rules in
    let reads_only = rw when at c.read_view_verdict.ensures.reads_only in
    subst (λ (it : Ask). IsStoreRead c.read_view_verdict.result (IsSightVerdictWith c.args.caller it t a.now.trees) a (state g.S.Store c.read_view_verdict.new.conn)) (sym c.in-View.is) reads_only

pub returns-in-Sheet-clause-reads_only : goal.returns-in-Sheet-clause-reads_only
returns-in-Sheet-clause-reads_only g c =
    let a = state g.S.Store c.args.conn.now in
    let t = c.args.at in
    let when : to_z w64 (of_z w64 t) ≡ t = search rules in
    let reads_only = rw when at c.read_sheet_verdict.ensures.reads_only in
    subst (λ (it : Ask). IsStoreRead c.read_sheet_verdict.result (IsSightVerdictWith c.args.caller it t a.now.trees) a (state g.S.Store c.read_sheet_verdict.new.conn)) (sym c.in-Sheet.is) reads_only
