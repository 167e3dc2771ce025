-- Mandates: the agent sees as the principal does. The current mandates are a set of pairs.
use Rattle.std.proofs.Common.{refl}
use Rattle.std.specs.Prelude.{ℕ, List, Bool, is_some}
use Rattle.std.specs.FinMap as map
use Rattle.std.specs.FinMap.{FinMap}
use Rattle.std.specs.Ordering.{nat_cmp, ordering_then}
use Rattle.std.specs.declared.cmp.Ordering.{Ordering}
use Rattle.std.specs.Coded.{Coded, code_by, coded×, coded_ℕ}
use Rattle.land_core.specs.declared.mandates.Mandate.{Mandate}

abbrev pub mandate_between : (principal agent : ℕ) → Mandate
mandate_between principal agent = record { principal = principal; agent = agent }

-- by principal, and then by agent
abbrev pub mandate_cmp : Mandate → Mandate → Ordering
mandate_cmp a b = ordering_then (nat_cmp a.principal b.principal) (nat_cmp a.agent b.agent)

-- a mandate is determined by its two numbers
abbrev pub coded_mandate : Coded Mandate
coded_mandate = code_by (ℕ × ℕ) (coded× coded_ℕ coded_ℕ) (λ m. (m.principal, m.agent))
    (λ p. record { principal = p.0; agent = p.1 }) (λ m. refl)

-- the set of current mandates
abbrev pub Mandates : Type 0
Mandates = FinMap mandate_cmp (Unit {0})

abbrev pub has_mandate : Mandates → Mandate → Bool
has_mandate mandates mandate = is_some (map.get mandates mandate)

-- all mandates, by principal and then by agent
unfoldable pub mandates_in : Mandates → List Mandate
mandates_in mandates = map.keys mandates
