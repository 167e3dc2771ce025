-- A set of keys as a finite map with nothing at each key.
use Rattle.std.proofs.Common.{◌≡◌, ℕ, Bool, true, false, cond, ◌||◌, List, [], ◌∷◌, Option, Some, None, refl, sym, ap, ◌∙◌}
use Rattle.std.specs.Prelude.{is_some}
use Rattle.std.specs.List.{list_any}
use Rattle.std.specs.Map.{lookup, keys_of}
use Rattle.std.specs.Ordering.{nat_cmp}
use Rattle.std.specs.declared.cmp.Ordering.{Ordering}
use Rattle.std.specs.BTreeMap.{is_at}
use Rattle.std.specs.Cmp.{IsTotalOrder, nat_cmp_total}
use Rattle.std.specs.FinMap as map
use Rattle.std.specs.FinMap.{IsAntisymmetric}
use Rattle.std.proofs.lemmas.Cmp.{on_total, then_total}
use Rattle.std.proofs.lemmas.Map.Lookups.{exact_pairs, exact_unsigned}
use Rattle.land_core.proofs.FiniteMaps.{one_inserted, one_removed}
use Rattle.land_core.specs.Grants.{grant_cmp, set_entries}
use Rattle.land_core.specs.Mandates.{mandate_cmp}
use Rattle.land_core.specs.Role.{role_index, role_at, role_at_place}
use Rattle.land_core.specs.declared.mandates.Mandate.{Mandate}
use Rattle.land_core.specs.declared.roles.Grant.{Grant}

pub grants_total : IsTotalOrder grant_cmp
grants_total = then_total (on_total (λ g. g.party) nat_cmp_total) (on_total (λ g. role_index g.role) nat_cmp_total)

unpacked : ℕ × ℕ → Grant
unpacked p = record { party = p.0; role = role_at p.1 }

unpacked_packed : (g : Grant) → unpacked (g.party, role_index g.role) ≡ g
unfolding unpacked
unpacked_packed g = ap (λ r. let it : Grant = record { party = g.party; role = r } in it) (role_at_place g.role)

pub exact_grants : IsAntisymmetric grant_cmp
exact_grants a b h = sym (unpacked_packed a) ∙ ap unpacked (exact_pairs nat_cmp nat_cmp exact_unsigned exact_unsigned (a.party, role_index a.role) (b.party, role_index b.role) h) ∙ unpacked_packed b

pub mandates_total : IsTotalOrder mandate_cmp
mandates_total = then_total (on_total (λ m. m.principal) nat_cmp_total) (on_total (λ m. m.agent) nat_cmp_total)

pair_of : ℕ × ℕ → Mandate
pair_of p = record { principal = p.0; agent = p.1 }

pair_itself : (m : Mandate) → pair_of (m.principal, m.agent) ≡ m
unfolding pair_of
pair_itself m = refl

pub exact_mandates : IsAntisymmetric mandate_cmp
exact_mandates a b h = sym (pair_itself a) ∙ ap pair_of (exact_pairs nat_cmp nat_cmp exact_unsigned exact_unsigned (a.principal, a.agent) (b.principal, b.agent) h) ∙ pair_itself b

abbrev pub mark : Bool → Option (Unit {0})
mark b = cond b (Some tt) None

pub marked : (b : Bool) → is_some (mark b) ≡ b
marked true = refl
marked false = refl

mark_or : (a b : Bool) → cond a (Some tt) (mark b) ≡ mark (a || b)
mark_or true b = refl
mark_or false b = refl

mark_then : (a b c : Bool) → mark (cond a b c) ≡ cond a (mark b) (mark c)
mark_then true b c = refl
mark_then false b c = refl

pub lookup-set_entries : {K : Type 0} (t : K → Bool) (ks : List K) → lookup t (set_entries ks) ≡ mark (list_any t ks)
lookup-set_entries t [] = refl
lookup-set_entries t (k ∷ ks) = ap (cond (t k) (Some tt)) (lookup-set_entries t ks) ∙ mark_or (t k) _

pub keys-set_entries : {K : Type 0} (ks : List K) → keys_of (set_entries ks) ≡ ks
keys-set_entries [] = refl
keys-set_entries (k ∷ ks) = ap (λ it. k ∷ it) (keys-set_entries ks)

-- a set's keys as a map
module _ {K : Type 0} {R : K → K → Ordering} where
  pub key_inserted : IsTotalOrder R → IsAntisymmetric R → (ks js : List K) (k : K)
      → ((q : K) → list_any (is_at (R q)) js ≡ cond (is_at (R k) q) true (list_any (is_at (R q)) ks))
      → map.from_entries {R = R} (set_entries js) ≡ map.insert (map.from_entries (set_entries ks)) k tt
  key_inserted o same ks js k h = one_inserted o same (set_entries ks) (set_entries js) k tt (λ q.
      lookup-set_entries _ js ∙ ap mark (h q) ∙ mark_then (is_at (R k) q) _ _ ∙ ap (cond (is_at (R k) q) (Some tt)) (sym (lookup-set_entries _ ks)))

  pub key_removed : IsTotalOrder R → IsAntisymmetric R → (ks js : List K) (k : K)
      → ((q : K) → list_any (is_at (R q)) js ≡ cond (is_at (R k) q) false (list_any (is_at (R q)) ks))
      → map.from_entries {R = R} (set_entries js) ≡ map.remove (map.from_entries (set_entries ks)) k
  key_removed o same ks js k h = one_removed o same (set_entries ks) (set_entries js) k (λ q.
      lookup-set_entries _ js ∙ ap mark (h q) ∙ mark_then (is_at (R k) q) _ _ ∙ ap (cond (is_at (R k) q) None) (sym (lookup-set_entries _ ks)))

-- the entries of a set are its keys
pub set_entries-keys : {K : Type 0} (es : List (K × Unit {0})) → set_entries (keys_of es) ≡ es
set_entries-keys [] = refl
set_entries-keys (e ∷ es) = ap (λ it. e ∷ it) (set_entries-keys es)
