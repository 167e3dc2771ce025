use Rattle.std.proofs.Common.{sym, ap, ◌∙◌, subst, List}
use Rattle.std.specs.List.Sorted.{IsStrictlySortedBy}
use Rattle.std.specs.Map.{keys_of}
use Rattle.land_core.proofs.FiniteMaps.{entries_entries}
use Rattle.land_core.proofs.FiniteSets.{mandates_total, exact_mandates, keys-set_entries}
use Rattle.land_core.specs.Grants.{set_entries}
use Rattle.land_core.specs.Mandates.{mandate_cmp, mandates_in}
use Rattle.land_core.specs.declared.mandates.Mandate.{Mandate}
use Rattle.land_core.proofs.mandates.Mandates.iter.Goals as goal

pub returns-clause-rest : goal.returns-clause-rest
unfolding mandates_in
returns-clause-rest c =
    let keys = c.self.inside.pairs.keys in
    c.iter.ensures.rest ∙ sym (keys-set_entries keys)
    ∙ ap keys_of (sym (entries_entries mandates_total exact_mandates (set_entries keys) (subst (λ (ks : List Mandate). IsStrictlySortedBy mandate_cmp ks) (sym (keys-set_entries keys)) c.iter.ensures.ordered)))
    ∙ ap mandates_in c.self.view_is
