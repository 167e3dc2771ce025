use Rattle.std.proofs.Common.{sym, ap, ◌∙◌, subst, List}
use Rattle.std.specs.List.Sorted.{IsStrictlySortedBy}
use Rattle.std.specs.Map.{keys_of}
use Rattle.land_core.proofs.FiniteMaps.{entries_entries}
use Rattle.land_core.proofs.FiniteSets.{grants_total, exact_grants, keys-set_entries}
use Rattle.land_core.specs.Grants.{grants_in, set_entries, grant_cmp}
use Rattle.land_core.specs.declared.roles.Grant.{Grant}
use Rattle.land_core.proofs.roles.Roles.iter.Goals as goal

pub returns-clause-rest : goal.returns-clause-rest
unfolding grants_in
returns-clause-rest c =
    let keys = c.self.inside.grants.keys in
    c.iter.ensures.rest ∙ sym (keys-set_entries keys)
    ∙ ap keys_of (sym (entries_entries grants_total exact_grants (set_entries keys) (subst (λ (ks : List Grant). IsStrictlySortedBy grant_cmp ks) (sym (keys-set_entries keys)) c.iter.ensures.ordered)))
    ∙ ap grants_in c.self.view_is
