use Rattle.std.proofs.Common.{sym, ap, ◌∙◌}
use Rattle.std.specs.Prelude.{is_some}
use Rattle.land_core.proofs.FiniteMaps.{get_entries}
use Rattle.land_core.proofs.FiniteSets.{mandates_total, exact_mandates, lookup-set_entries, marked}
use Rattle.land_core.specs.Grants.{set_entries}
use Rattle.land_core.specs.Mandates.{has_mandate}
use Rattle.land_core.proofs.mandates.Mandates.contains.Goals as goal

pub returns : goal.returns
returns c =
    c.contains.ensures ∙ sym (marked _) ∙ ap is_some (sym (lookup-set_entries _ c.self.inside.pairs.keys))
    ∙ ap is_some (sym (get_entries mandates_total exact_mandates (set_entries c.self.inside.pairs.keys) c.args.mandate)) ∙ ap (λ s. has_mandate s c.args.mandate) c.self.view_is
