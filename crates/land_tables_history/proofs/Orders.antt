-- A finite map built from its entries in any order.
use Rattle.std.proofs.Common.{◌≡◌, ◌≤◌, ◌+◌, ℕ, ℤ, suc, subst, Bool, true, false, cond, not, List, [], ◌∷◌, Option, Some, None, length, refl, sym, ap, ◌∙◌, arith, IsPermutation}
use Rattle.std.specs.Prelude.{filter}
use Rattle.std.proofs.lemmas.List.Sorted.{All-permutation, length_permutation, IsPermutation-map}
use Rattle.std.proofs.lemmas.List.Elements.{All-cons, All-nil}
use Rattle.std.specs.Ordering.{eq_by_cmp, nat_cmp}
use Rattle.std.specs.declared.cmp.Ordering.{Ordering}
use Rattle.std.specs.Cmp.{IsTotalOrder, nat_cmp_total}
use Rattle.std.specs.FinMap as map
use Rattle.std.specs.FinMap.{FinMap, find, IsAntisymmetric, nat_cmp-IsAntisymmetric}
use Rattle.std.specs.FinMap.Entries.{length_without, where_key}
use Rattle.land_core.proofs.FiniteSets.{exact_grants, exact_mandates, grants_total, mandates_total, set_entries-keys}
use Rattle.land_core.specs.Entries.{with_entries}
use Rattle.land_core.specs.Grants.{Grants, grants_in, set_entries}
use Rattle.land_core.specs.Mandates.{Mandates, mandates_in}
use Rattle.land_core.specs.declared.mandates.Mandate.{Mandate}
use Rattle.land_core.specs.declared.roles.Grant.{Grant}
use Rattle.land_tables_history.proofs.Permutations.{filter_permuted}
use Rattle.land_tables_history.specs.Standing.{AreMandatesAt, AreRolesAt, IsPartAt, mandates_at, part_at, roles_at, current_values}
use Rattle.land_tables_history.specs.declared.version.Version.{Version}

last_of : {K V : Type 0} → Option V → List (K × V) → Option V
last_of d [] = d
last_of d (e ∷ es) = last_of (Some e.1) es

unfoldable pub first_of : {K V : Type 0} → List (K × V) → Option V
first_of [] = None
first_of (e ∷ es) = Some e.1

one_has_no_order : {K V : Type 0} (es : List (K × V)) → length es ≤ 1 → last_of None es ≡ first_of es
unfolding last_of first_of
one_has_no_order [] few = refl
one_has_no_order (e ∷ []) few = refl
one_has_no_order (e ∷ f ∷ es) few = absurd (omega (arith, few))

pub no_more : {X : Type 0} (ys : List X) → length ys ≡ 0 → ys ≡ []
no_more [] e = refl
no_more (y ∷ ys) e = absurd (omega (arith, e))

at_most : (b : Bool) (a c n : ℕ) → a + c ≡ n → cond b 1 0 + c ≡ n → a ≤ 1
at_most true a c n e f = omega (arith, e, f)
at_most false a c n e f = omega (arith, e, f)

pub one_same : {X : Type 0} (x : X) (ys : List X) → IsPermutation (x ∷ []) ys → x ∷ [] ≡ ys
one_same x [] h = absurd (omega (arith, length_permutation (x ∷ []) [] h))
one_same x (y ∷ []) h = ap (λ z. z ∷ []) (sym (All-permutation (λ z. z ≡ x) (x ∷ []) (y ∷ []) h (All-cons (λ z. z ≡ x) x [] refl (All-nil (λ z. z ≡ x))) 0 x (omega arith)))
one_same x (y ∷ z ∷ ys) h = absurd (omega (arith, length_permutation (x ∷ []) (y ∷ z ∷ ys) h))

module _ {K : Type 0} {R : K → K → Ordering} (o : IsTotalOrder R) (same : IsAntisymmetric R) {V : Type 0} where
  -- the entries of a key
  abbrev pub at_key : K → List (K × V) → List (K × V)
  at_key q es = filter (λ e. eq_by_cmp R q e.0) es

  put_last : (m : FinMap R V) (es : List (K × V)) (q : K) → map.get (with_entries m es) q ≡ last_of (map.get m q) (at_key q es)
  unfolding last_of
  put_last m [] q = refl
  put_last m (e ∷ es) q =
      put_last (map.insert m e.0 e.1) es q ∙ ap (λ d. last_of d (at_key q es)) (map.get-insert o m e.0 e.1 q)
      ∙ elim (eq_by_cmp R q e.0) as (λ b. last_of (cond b (Some e.1) (map.get m q)) (at_key q es) ≡ last_of (map.get m q) (cond b (e ∷ at_key q es) (at_key q es))) [ true ↦ refl | false ↦ refl ]

  pub found_first : (es : List (K × V)) (q : K) → find R q es ≡ first_of (at_key q es)
  unfolding first_of
  found_first [] q = refl
  found_first (e ∷ es) q = ap (cond (eq_by_cmp R q e.0) (Some e.1)) (found_first es q)
      ∙ elim (eq_by_cmp R q e.0) as (λ b. cond b (Some e.1) (first_of (at_key q es)) ≡ first_of (cond b (e ∷ at_key q es) (at_key q es))) [ true ↦ refl | false ↦ refl ]

  counted : (q : K) (es : List (K × V)) → length (at_key q es) + length (where_key R (λ x. not (eq_by_cmp R q x)) es) ≡ length es
  counted q [] = refl
  counted q (e ∷ es) =
      let rest = counted q es in
      elim (eq_by_cmp R q e.0) as (λ b. length (cond b (e ∷ at_key q es) (at_key q es)) + length (cond (not b) (e ∷ where_key R (λ x. not (eq_by_cmp R q x)) es) (where_key R (λ x. not (eq_by_cmp R q x)) es)) ≡ suc (length es)) [
        | true ↦ omega (arith, rest)
        | false ↦ omega (arith, rest)
      ]

  pub at_once : (m : FinMap R V) (q : K) → length (at_key q (map.entries m)) ≤ 1
  at_once m q = at_most _ _ _ _ (counted q (map.entries m)) (length_without R o q (map.entries m) (map.entries_sorted m))

  -- the entries of a map, in any order, build that map
  pub in_any_order : (m : FinMap R V) (es : List (K × V)) → IsPermutation es (map.entries m) → with_entries map.empty es ≡ m
  in_any_order m es p = map.same_map o same _ m (λ q.
      let turned : IsPermutation (at_key q es) (at_key q (map.entries m)) = filter_permuted (λ e. eq_by_cmp R q e.0) es (map.entries m) p in
      let long = length_permutation (at_key q es) (at_key q (map.entries m)) turned in
      let few : length (at_key q es) ≤ 1 = omega (arith, at_once m q, long) in
      put_last map.empty es q ∙ ap (λ d. last_of d (at_key q es)) (map.get-empty R q) ∙ one_has_no_order (at_key q es) few
      ∙ ap first_of (few_same (at_key q es) (at_key q (map.entries m)) few turned) ∙ sym (found_first (map.entries m) q) ∙ sym (map.get-entries m q))
    where
      few_same : (xs ys : List (K × V)) → length xs ≤ 1 → IsPermutation xs ys → xs ≡ ys
      few_same [] ys few h = sym (no_more ys (length_permutation [] ys h))
      few_same (x ∷ []) ys few h = one_same x ys h
      few_same (x ∷ y ∷ xs) ys few h = absurd (omega (arith, few))

-- if the current values of versions are the entries of a map, they build it
pub given : {V : Type 0} (t : ℤ) (versions : List (Version (ℕ × V))) (m : FinMap nat_cmp V) → IsPartAt t versions m → part_at t versions ≡ m
given t versions m p = in_any_order nat_cmp_total nat_cmp-IsAntisymmetric m (current_values t versions) p

-- if the current values of versions are the grants of roles, they build them
pub granted : (t : ℤ) (versions : List (Version Grant)) (grants : Grants) → AreRolesAt t versions grants → roles_at t versions ≡ grants
unfolding grants_in
granted t versions grants p =
    in_any_order grants_total exact_grants grants (set_entries (current_values t versions))
    (subst (λ l. IsPermutation (set_entries (current_values t versions)) l) (set_entries-keys (map.entries grants))
    (IsPermutation-map (λ k. (k, tt)) (current_values t versions) (map.keys grants) p))

-- if the current values of versions are these mandates, they build them
pub mandated : (t : ℤ) (versions : List (Version Mandate)) (mandates : Mandates) → AreMandatesAt t versions mandates → mandates_at t versions ≡ mandates
unfolding mandates_in
mandated t versions mandates p =
    in_any_order mandates_total exact_mandates mandates (set_entries (current_values t versions))
    (subst (λ l. IsPermutation (set_entries (current_values t versions)) l) (set_entries-keys (map.entries mandates))
    (IsPermutation-map (λ k. (k, tt)) (current_values t versions) (map.keys mandates) p))
