-- The principals of a party are those of the current mandates that it holds; with the party they are its
-- circle.
use Rattle.std.proofs.Common.{◌≡◌, ◌↔◌, inl, inr, ℕ, ℤ, ◌&&◌, ◌++◌, nat_eq, List, [], ◌∷◌, filter, map as map_list, sym, subst, IsPermutation}
use Rattle.std.proofs.lemmas.List.Sorted.{Contains-permutation, IsPermutation-map, IsPermutation-sym}
use Rattle.std.specs.List.{Contains}
use Rattle.land_core.specs.Mandates.{mandates_in}
use Rattle.land_core.specs.declared.mandates.Mandate.{Mandate}
use Rattle.land_core.specs.declared.register.Register.{Register}
use Rattle.land_rules.specs.Circles.{principals_of}
use Rattle.land_select_queries.proofs.Containing.{first, first_or_later, in_nothing, later}
use Rattle.land_select_queries.proofs.Records.{found_of}
use Rattle.land_select_queries.proofs.United.{contains_both}
use Rattle.land_tables_history.specs.History.{IsRegisterAt}
use Rattle.land_tables_history.specs.Standing.{is_current}
use Rattle.land_tables_history.specs.declared.history.History.{History}
use Rattle.land_tables_history.specs.declared.version.Version.{Version}
use Rattle.sqlite_keyed.proofs.ListLemmas.{map-map}

-- of the current mandates, those of an agent are returned, and their principals are the agent's
pub are_principals : (r : Register) (t : ℤ) (h : History) → IsRegisterAt t h r → (agent : ℕ) (found : List (Version Mandate)) → IsPermutation found (filter (λ v. is_current t v && nat_eq v.what.agent agent) h.mandates)
    → (numbers : List ℕ) → numbers ≡ map_list (λ (v : Version Mandate). v.what.principal) found → IsPermutation numbers (principals_of r agent)
are_principals r t h is agent found are numbers all =
    let whats : List Mandate = map_list (λ (v : Version Mandate). v.what) found in
    let held : IsPermutation whats (filter (λ (m : Mandate). nat_eq m.agent agent) (mandates_in r.mandates)) = found_of t (λ (m : Mandate). nat_eq m.agent agent) h.mandates (mandates_in r.mandates) is.mandates found are in
    subst (λ l. IsPermutation l (principals_of r agent)) (sym all)
    (subst (λ l. IsPermutation l (principals_of r agent)) (map-map (λ (m : Mandate). m.principal) (λ (v : Version Mandate). v.what) found)
    (IsPermutation-map (λ (m : Mandate). m.principal) whats (filter (λ (m : Mandate). nat_eq m.agent agent) (mandates_in r.mandates)) held))

-- the party is added to its principals
pub are_circle : (party : ℕ) (others principals : List ℕ) → IsPermutation others principals → (circle : List ℕ) → circle ≡ others ++ party ∷ [] → (number : ℕ) → Contains circle number ↔ Contains (party ∷ principals) number
are_circle party others principals are circle grown number = (
  (λ among. elim ((contains_both others (party ∷ []) number).0 (subst (λ l. Contains l number) grown among)) [
    | inl other ↦ later party principals number (Contains-permutation others principals number are other)
    | inr itself ↦ elim (first_or_later party [] number itself) [
      | inl same ↦ subst (Contains (party ∷ principals)) same (first party principals)
      | inr none ↦ absurd (in_nothing number none)
    ]
  ]),
  (λ among. subst (λ l. Contains l number) (sym grown) ((contains_both others (party ∷ []) number).1 (elim (first_or_later party principals number among) [
    | inl same ↦ inr (subst (Contains (party ∷ [])) same (first party []))
    | inr other ↦ inl (Contains-permutation principals others number (IsPermutation-sym others principals are) other)
  ]))),
)
