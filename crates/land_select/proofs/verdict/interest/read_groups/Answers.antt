use Rattle.std.proofs.Common.{rules, ◌≡◌, to_z, of_z, w64}
use Rattle.land_select.proofs.ReadQueries.{look_means}
use Rattle.land_select.proofs.ShownByInterest.{groups_are}
use Rattle.sqlite.specs.Held.{state}
use Rattle.land_select.proofs.verdict.interest.read_groups.Goals as goal

pub returns-clause-reads_only : goal.returns-clause-reads_only
returns-clause-reads_only g c =
    let when : to_z w64 (of_z w64 c.args.at) ≡ c.args.at = search rules in
    let reads_only = rw when at c.run_union_for.ensures.reads_only in
    look_means (state g.S.Store c.args.conn.now) (state g.S.Store c.run_union_for.new.conn) c.run_union_for.result reads_only
    (λ it all moments h held r stands. groups_are r c.args.at h stands c.args.callers.now it (all moments h held))
