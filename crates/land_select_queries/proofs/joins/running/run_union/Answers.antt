use Rattle.std.proofs.Common.{rules, ◌≡◌, to_z, of_z, w64}
use Rattle.std.proofs.lemmas.Result.{IfOk-weaker}
use Rattle.land_select_queries.proofs.United.{all_through}
use Rattle.land_tables_schema.proofs.Looking.{look_told}
use Rattle.sqlite.specs.Held.{state}
use Rattle.land_select_queries.proofs.joins.running.run_union.Goals as goal

pub returns-clause-reads_only : goal.returns-clause-reads_only
returns-clause-reads_only g c =
    let a = state g.S.Store c.args.conn.now in
    let when : to_z w64 (of_z w64 c.args.at) ≡ c.args.at = search rules in
    let reads_only = rw when at c.in_ok-collect_numbers.ensures.reads_only in
    look_told a (state g.S.Store c.collect_numbers.new.conn) c.sort_unique.result reads_only
    (λ clean all. IfOk-weaker c.sort_unique.result _ _ (λ it same. all_through c.args.selections.now c.args.at c.args.caller a.now.trees it _ same all) c.sort_unique.ensures.same)
