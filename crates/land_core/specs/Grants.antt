-- Grants: roles of parties. The roles of all parties are a set of grants.
use Rattle.std.specs.Prelude.{ℕ, List, Bool, is_some, map as map_list}
use Rattle.std.specs.FinMap as map
use Rattle.std.specs.FinMap.{FinMap}
use Rattle.std.proofs.Common.{ap}
use Rattle.std.specs.Ordering.{nat_cmp, ordering_then}
use Rattle.std.specs.declared.cmp.Ordering.{Ordering}
use Rattle.std.specs.Coded.{Coded, code_by, coded×, coded_ℕ}
use Rattle.land_core.specs.Role.{role_index, role_cmp, role_at, role_at_place}
use Rattle.land_core.specs.declared.role.Role.{Role}
use Rattle.land_core.specs.declared.roles.Grant.{Grant}

abbrev pub grant_to : ℕ → Role → Grant
grant_to party role = record { party = party; role = role }

-- by party, and then by role
abbrev pub grant_cmp : Grant → Grant → Ordering
grant_cmp a b = ordering_then (nat_cmp a.party b.party) (role_cmp a.role b.role)

-- a grant is determined by its party's number and its role's position
abbrev pub coded_grant : Coded Grant
coded_grant = code_by (ℕ × ℕ) (coded× coded_ℕ coded_ℕ) (λ g. (g.party, role_index g.role))
    (λ p. record { party = p.0; role = role_at p.1 })
    (λ g. ap (λ r. record { party = g.party; role = r }) (role_at_place g.role))

-- a set of keys, as entries
abbrev pub set_entries : {K : Type 0} → List K → List (K × Unit {0})
set_entries {K} ks = map_list {B = K × Unit {0}} (λ k. (k, tt)) ks

-- the set of current grants
abbrev pub Grants : Type 0
Grants = FinMap grant_cmp (Unit {0})

abbrev pub has_grant : Grants → Grant → Bool
has_grant grants grant = is_some (map.get grants grant)

-- all grants, by party and then by role
unfoldable pub grants_in : Grants → List Grant
grants_in grants = map.keys grants
