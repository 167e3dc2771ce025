use Rattle.std.proofs.Common.{rules, ◌≡◌, ap₂, nat_eq, to_z, of_z, w64, ◌∙◌}
use Rattle.std.specs.Cmp.{nat_cmp_total}
use Rattle.std.specs.FinMap.{nat_cmp-IsAntisymmetric}
use Rattle.land_select.proofs.Gathering.{both_kept}
use Rattle.land_select.specs.Slices.Gathered.{put_all}
use Rattle.land_tables_schema.proofs.Looking.{look_told}
use Rattle.sqlite.specs.Held.{state}
use Rattle.land_select.proofs.slices.parties_and_roles.RecordsMembersGathers.gather.Goals as goal

pub returns-clause-reads_only : goal.returns-clause-reads_only
returns-clause-reads_only g c =
    let n = c.args.number in
    let when : to_z w64 (of_z w64 c.args.at) ≡ c.args.at = search rules in
    let reads_only = rw when at c.in_ok-members.ensures.reads_only in
    look_told (state g.S.Store c.args.conn.now) (state g.S.Store c.members.new.conn) _ reads_only
    (λ clean is moments h held r have stands asked known.
    c.in_ok-put_all.ensures ∙ ap₂ put_all known (is moments h held r have stands) ∙ both_kept nat_cmp_total nat_cmp-IsAntisymmetric r.members (λ k v. asked k) (λ k v. nat_eq k n))
