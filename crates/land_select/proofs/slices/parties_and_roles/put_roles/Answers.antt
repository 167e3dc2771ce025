use Rattle.std.proofs.Common.{ap, ◌∙◌}
use Rattle.std.specs.FinMap as map
use Rattle.land_core.proofs.FiniteSets.{set_entries-keys}
use Rattle.land_core.specs.Entries.{with_entries}
use Rattle.land_core.specs.Grants.{grants_in, set_entries}
use Rattle.land_select.proofs.slices.parties_and_roles.put_roles.Goals as goal

-- the grants in order are the keys of their map
pub loop-grant-init : goal.loop-grant-init
unfolding grants_in
loop-grant-init c =
    let gives = c.into_iter-grant-iterator.ensures.into_iter_gives in
    let rest = c.iter-grant-items.ensures.rest in
    ap (λ grants. with_entries c.args.roles (set_entries grants)) (gives ∙ rest) ∙ ap (with_entries c.args.roles) (set_entries-keys (map.entries c.args.more.now))
