use Rattle.std.proofs.Common.{rules, ◌≡◌, ap₂, nat_eq, to_z, of_z, w64, ◌∙◌}
use Rattle.land_core.proofs.FiniteSets.{exact_grants, grants_total}
use Rattle.land_select.proofs.Gathering.{both_kept}
use Rattle.land_select.specs.Slices.Gathered.{put_all}
use Rattle.land_tables_schema.proofs.Looking.{look_told}
use Rattle.sqlite.specs.Held.{state}
use Rattle.land_select.proofs.slices.parties_and_roles.RolesGathers.gather.Goals as goal

pub returns-clause-reads_only : goal.returns-clause-reads_only
returns-clause-reads_only g c =
    let n = c.args.number in
    let when : to_z w64 (of_z w64 c.args.at) ≡ c.args.at = search rules in
    let reads_only = rw when at c.in_ok-roles.ensures.reads_only in
    look_told (state g.S.Store c.args.conn.now) (state g.S.Store c.roles.new.conn) _ reads_only
    (λ clean is moments h held r have stands asked known.
    c.in_ok-put_roles.ensures ∙ ap₂ put_all known (is moments h held r have stands) ∙ both_kept grants_total exact_grants r.roles (λ k v. asked k.party) (λ k v. nat_eq k.party n))
