use Rattle.std.proofs.Common.{rules, ◌≡◌, to_z, of_z, w64}
use Rattle.land_select.proofs.ReadQueries.{look_means}
use Rattle.land_select.proofs.Viewed.{have_members}
use Rattle.sqlite.specs.Held.{state}
use Rattle.land_select.proofs.view.read_unit_record.Goals as goal

pub returns-in-Object-clause-reads_only : goal.returns-in-Object-clause-reads_only
returns-in-Object-clause-reads_only g c =
    let when : to_z w64 (of_z w64 c.args.at) ≡ c.args.at = search rules in
    let reads_only = rw when at c.record.ensures.reads_only in
    look_means (state g.S.Store c.args.conn.now) (state g.S.Store c.record.new.conn) c.record.result reads_only
    (λ it is moments h held r premise stands found. is moments h held r (have_members c.soundness_by_number.ensures r premise) stands)
