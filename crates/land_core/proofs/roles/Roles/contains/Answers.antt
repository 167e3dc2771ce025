use Rattle.std.proofs.Common.{sym, ap, ◌∙◌}
use Rattle.std.specs.Prelude.{is_some}
use Rattle.land_core.proofs.FiniteMaps.{get_entries}
use Rattle.land_core.proofs.FiniteSets.{grants_total, exact_grants, lookup-set_entries, marked}
use Rattle.land_core.specs.Grants.{has_grant, set_entries}
use Rattle.land_core.proofs.roles.Roles.contains.Goals as goal

pub returns : goal.returns
returns c =
    c.contains.ensures ∙ sym (marked _) ∙ ap is_some (sym (lookup-set_entries _ c.self.inside.grants.keys))
    ∙ ap is_some (sym (get_entries grants_total exact_grants (set_entries c.self.inside.grants.keys) c.args.grant)) ∙ ap (λ s. has_grant s c.args.grant) c.self.view_is
