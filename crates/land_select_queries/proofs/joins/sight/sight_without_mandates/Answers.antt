use Rattle.std.proofs.Common.{rules, ◌≡◌, to_z, of_z, w64}
use Rattle.land_select_queries.proofs.United.{look_known}
use Rattle.sqlite.specs.Held.{state}
use Rattle.land_select_queries.proofs.joins.sight.sight_without_mandates.Goals as goal

pub returns-clause-reads_only : goal.returns-clause-reads_only
returns-clause-reads_only g c =
    let when : to_z w64 (of_z w64 c.args.at) ≡ c.args.at = search rules in
    let reads_only = rw (c.selections.ensures, when) at c.run_union.ensures.reads_only in
    look_known (state g.S.Store c.args.conn.now) (state g.S.Store c.run_union.new.conn) c.run_union.result reads_only c.run_union.ensures.ascending
    (λ it clean all rising moments h held r sound stands. c.selected_is_seen.ensures r h c.args.at sound stands c.args.caller c.args.kind it rising (all moments h held))
