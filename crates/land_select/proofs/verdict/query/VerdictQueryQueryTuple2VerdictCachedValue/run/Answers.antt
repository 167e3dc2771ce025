use Rattle.std.proofs.Common.{of_z, rules, subst, to_z, w64, ◌≡◌}
use Rattle.std.specs.Prelude.{ℤ}
use Rattle.land_select.specs.Verdicts.{IsVerdictWith}
use Rattle.land_tables_schema.specs.Rows.ReadQueries.{IsStoreRead}
use Rattle.sqlite.specs.Held.{state}
use Rattle.land_select.proofs.verdict.query.VerdictQueryQueryTuple2VerdictCachedValue.run.Goals as goal

pub returns-clause-reads_only : goal.returns-clause-reads_only
returns-clause-reads_only g c =
    let a = state g.S.Store c.args.conn.now in
    let it = c.args.self.now in
    let t : to_z w64 (of_z w64 it.moment) ≡ it.moment = search rules in
    subst (λ (x : ℤ). IsStoreRead c.read_verdict.result (IsVerdictWith it.caller it.is_held it.ask.now it.past x a.now.trees) a (state g.S.Store c.read_verdict.new.conn)) t c.read_verdict.ensures.reads_only
