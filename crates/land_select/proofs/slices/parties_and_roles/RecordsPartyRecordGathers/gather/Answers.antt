use Rattle.std.proofs.Common.{rules, ◌≡◌, ap, to_z, of_z, w64, ◌∙◌}
use Rattle.land_select.proofs.Gathering.{one_kept}
use Rattle.land_select.specs.Slices.Gathered.{put_one}
use Rattle.land_tables_schema.proofs.Looking.{look_told}
use Rattle.sqlite.specs.Held.{state}
use Rattle.land_select.proofs.slices.parties_and_roles.RecordsPartyRecordGathers.gather.Goals as goal

pub returns-clause-reads_only : goal.returns-clause-reads_only
returns-clause-reads_only g c =
    let n = c.args.number in
    let found = c.in_ok-party.party in
    let when : to_z w64 (of_z w64 c.args.at) ≡ c.args.at = search rules in
    let reads_only = rw when at c.in_ok-party.ensures.reads_only in
    look_told (state g.S.Store c.args.conn.now) (state g.S.Store c.record.new.conn) _ reads_only
    (λ clean is moments h held r have stands asked known.
    c.in_ok-put_one.ensures ∙ ap (λ m. put_one m n found) known ∙ one_kept asked r.parties n found (is moments h held r have stands))
