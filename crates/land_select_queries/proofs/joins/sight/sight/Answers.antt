use Rattle.std.proofs.Common.{rules, ◌≡◌, false, true, to_z, of_z, w64}
use Rattle.std.proofs.lemmas.Bool.{false≢true}
use Rattle.land_tables_schema.proofs.Looking.{look_told}
use Rattle.sqlite.specs.Held.{state}
use Rattle.land_select_queries.proofs.joins.sight.sight.Goals as goal

pub returns-clause-reads_only : goal.returns-clause-reads_only
returns-clause-reads_only g c =
    let when : to_z w64 (of_z w64 c.args.at) ≡ c.args.at = search rules in
    let reads_only = rw when at c.in_ok-told.ensures.reads_only in
    look_told (state g.S.Store c.args.conn.now) (state g.S.Store c.sight_and_mandates.new.conn) _ reads_only
    (λ clean is moments h held r sound stands. (is moments h held r sound stands (λ same. absurd (false≢true same))).0)
