-- A finite map built from entries has exactly these entries.
use Rattle.std.proofs.Common.{◌≡◌, ℕ, Bool, true, false, cond, not, ◌||◌, ◌&&◌, ◌==◌, List, [], ◌∷◌, ◌++◌, Some, None, map as map_list, refl, sym, ap, ◌∙◌, subst, arith, IsPermutation, append-nil}
use Rattle.std.proofs.lemmas.Bool.Decides.{nat_tests}
use Rattle.std.proofs.lemmas.List.Sorted.{IsPermutation-append_left, IsPermutation-cons, IsPermutation-map, IsPermutation-middle, IsPermutation-refl, IsPermutation-sym, IsPermutation-trans}
use Rattle.std.specs.Cmp.{IsTotalOrder, eq_by_cmp_equiv, nat_cmp_total}
use Rattle.std.specs.FinMap as map
use Rattle.std.specs.FinMap.{FinMap, find, put}
use Rattle.std.specs.FinMap.Entries.{by_order}
use Rattle.std.specs.List.{AllByRecursion, list_any}
use Rattle.std.specs.Ordering.{eq_by_cmp, is_eq, nat_cmp}
use Rattle.std.specs.declared.cmp.Ordering.{Ordering}
use Rattle.std.specs.declared.cmp.Ordering.TheVariants.{Less, Equal, Greater}
use Rattle.std.proofs.lemmas.Bool.{and_parts, not-true, or_parts}
use Rattle.land_core.proofs.FiniteMaps.{none_is_not_some, nothing_from_length}
use Rattle.land_core.proofs.FiniteSets.{grants_total, keys-set_entries, mandates_total}
use Rattle.land_core.specs.Entries.{are_distinct, with_entries}
use Rattle.land_core.specs.Grants.{grants_in, set_entries}
use Rattle.land_core.specs.Mandates.{mandates_in}
use Rattle.land_core.specs.declared.mandates.Mandate.{Mandate}
use Rattle.land_core.specs.declared.roles.Grant.{Grant}
use Rattle.land_tables_history.specs.Intervals.{is_same_grant, is_same_mandate, is_same_number}

pub no_entries : {K : Type 0} (R : K → K → Ordering) (V : Type 0) → map.entries (map.empty {X = V} {R = R}) ≡ []
no_entries R V = nothing_from_length (map.entries (map.empty {X = V} {R = R})) (sym (map.len-entries (map.empty {X = V} {R = R})) ∙ map.len-empty R V)

module _ {K : Type 0} (R : K → K → Ordering) {V : Type 0} where
  -- an entry with a new key is added
  pub put_new : (k : K) (v : V) (es : List (K × V)) → find R k es ≡ None → IsPermutation (put R k v es) ((k, v) ∷ es)
  put_new k v [] none = IsPermutation-refl ((k, v) ∷ [])
  put_new k v (e ∷ es) none = go (R k e.0) refl (put_new k v es)
    where
      go : (r : Ordering) → R k e.0 ≡ r → (find R k es ≡ None → IsPermutation (put R k v es) ((k, v) ∷ es))
          → IsPermutation (by_order r ((k, v) ∷ e ∷ es) ((e.0, v) ∷ es) (e ∷ put R k v es)) ((k, v) ∷ e ∷ es)
      go Less is rest = IsPermutation-refl ((k, v) ∷ e ∷ es)
      go Equal is rest = absurd (none_is_not_some (sym none ∙ ap (λ r. cond (is_eq r) (Some e.1) (find R k es)) is))
      go Greater is rest =
          IsPermutation-trans (e ∷ put R k v es) (e ∷ (k, v) ∷ es) ((k, v) ∷ e ∷ es)
          (IsPermutation-cons e (put R k v es) ((k, v) ∷ es) (rest (sym (ap (λ r. cond (is_eq r) (Some e.1) (find R k es)) is) ∙ none)))
          (IsPermutation-middle (e ∷ []) (k, v) es)

module _ {K : Type 0} {R : K → K → Ordering} (o : IsTotalOrder R) {V : Type 0} where
  pub insert_new : (m : FinMap R V) (k : K) (v : V) → map.get m k ≡ None → IsPermutation (map.entries (map.insert m k v)) ((k, v) ∷ map.entries m)
  insert_new m k v none =
      subst (λ l. IsPermutation l ((k, v) ∷ map.entries m)) (sym (map.entries-insert o m k v)) (put_new R k v (map.entries m) (sym (map.get-entries m k) ∙ none))

  -- two entries have the same key
  abbrev pub is_same_key : K × V → K × V → Bool
  is_same_key a b = eq_by_cmp R a.0 b.0

  -- keys that a map does not have stay so after the insertion of another key
  still_new : (m : FinMap R V) (e : K × V) (es : List (K × V)) → list_any (is_same_key e) es ≡ false → AllByRecursion (λ x. map.get m x.0 ≡ None) es → AllByRecursion (λ x. map.get (map.insert m e.0 e.1) x.0 ≡ None) es
  still_new m e [] apart free = tt
  still_new m e (x ∷ xs) apart free =
      let parts = or_parts (is_same_key e x) (list_any (is_same_key e) xs) apart in
      (map.get-insert o m e.0 e.1 x.0 ∙ ap (λ b. cond b (Some e.1) (map.get m x.0)) ((eq_by_cmp_equiv o).symm x.0 e.0 ∙ parts.0) ∙ free.0, still_new m e xs parts.1 free.1)

  made_from : (m : FinMap R V) (es : List (K × V)) → are_distinct is_same_key es ≡ true → AllByRecursion (λ x. map.get m x.0 ≡ None) es
      → IsPermutation (map.entries (with_entries m es)) (map.entries m ++ es)
  made_from m [] distinct free = subst (IsPermutation (map.entries m)) (sym (append-nil (map.entries m))) (IsPermutation-refl (map.entries m))
  made_from m (e ∷ es) distinct free =
      let parts = and_parts (not (list_any (is_same_key e) es)) (are_distinct is_same_key es) distinct in
      let n = map.insert m e.0 e.1 in
      IsPermutation-trans (map.entries (with_entries n es)) (map.entries n ++ es) (map.entries m ++ e ∷ es)
      (made_from n es parts.1 (still_new m e es (not-true (list_any (is_same_key e) es) parts.0) free.1))
      (IsPermutation-trans (map.entries n ++ es) (e ∷ (map.entries m ++ es)) (map.entries m ++ e ∷ es)
      (IsPermutation-append_left es (map.entries n) (e ∷ map.entries m) (insert_new m e.0 e.1 free.0))
      (IsPermutation-sym (map.entries m ++ e ∷ es) (e ∷ (map.entries m ++ es)) (IsPermutation-middle (map.entries m) e es)))

  all_new : (es : List (K × V)) → AllByRecursion (λ x. map.get (map.empty {X = V} {R = R}) x.0 ≡ None) es
  all_new [] = tt
  all_new (e ∷ es) = (map.get-empty R e.0, all_new es)

  -- entries with distinct keys are the entries of the map built from them
  pub made : (es : List (K × V)) → are_distinct is_same_key es ≡ true → IsPermutation es (map.entries (with_entries (map.empty {X = V} {R = R}) es))
  made es distinct =
      IsPermutation-sym (map.entries (with_entries map.empty es)) es
      (subst (λ l. IsPermutation (map.entries (with_entries (map.empty {X = V} {R = R}) es)) (l ++ es)) (no_entries R V) (made_from map.empty es distinct (all_new es)))

-- tests that agree have the same result for a list
pub distinct_alike : {X : Type 0} (p q : X → X → Bool) → ((x y : X) → p x y ≡ q x y) → (xs : List X) → are_distinct p xs ≡ are_distinct q xs
distinct_alike p q same [] = refl
distinct_alike {X} p q same (x ∷ xs) = ap (λ b. not b && are_distinct p xs) (any_alike xs) ∙ ap (λ b. not (list_any (q x) xs) && b) (distinct_alike p q same xs)
  where
    any_alike : (ys : List X) → list_any (p x) ys ≡ list_any (q x) ys
    any_alike [] = refl
    any_alike (y ∷ ys) = ap (λ b. b || list_any (p x) ys) (same x y) ∙ ap (λ b. q x y || b) (any_alike ys)

-- likewise for the images under a function
pub distinct-map : {X Y : Type 0} (p : Y → Y → Bool) (f : X → Y) (xs : List X) → are_distinct p (map_list f xs) ≡ are_distinct (λ x y. p (f x) (f y)) xs
distinct-map p f [] = refl
distinct-map {X} p f (x ∷ xs) = ap (λ b. not b && are_distinct p (map_list f xs)) (any-map xs) ∙ ap (λ b. not (list_any (λ y. p (f x) (f y)) xs) && b) (distinct-map p f xs)
  where
    any-map : (ys : List X) → list_any (p (f x)) (map_list f ys) ≡ list_any (λ y. p (f x) (f y)) ys
    any-map [] = refl
    any-map (y ∷ ys) = ap (λ b. p (f x) (f y) || b) (any-map ys)

pub same_numbers : (a b : ℕ) → eq_by_cmp nat_cmp a b ≡ (a == b)
same_numbers a b = grind (arith, nat_tests)

-- records with distinct numbers are the entries of the map built from them
pub made_part : {V : Type 0} (es : List (ℕ × V)) → are_distinct is_same_number es ≡ true → IsPermutation es (map.entries (with_entries (map.empty {X = V} {R = nat_cmp}) es))
made_part es distinct = made nat_cmp_total es (distinct_alike (is_same_key nat_cmp_total) is_same_number (λ a b. same_numbers a.0 b.0) es ∙ distinct)

-- distinct keys are the elements of the set built from them
made_keys : {K : Type 0} {R : K → K → Ordering} (o : IsTotalOrder R) (ks : List K) → are_distinct (eq_by_cmp R) ks ≡ true
    → IsPermutation ks (map.keys (with_entries (map.empty {X = Unit {0}} {R = R}) (set_entries ks)))
made_keys {K} {R} o ks distinct =
    subst (λ l. IsPermutation l (map.keys (with_entries (map.empty {X = Unit {0}} {R = R}) (set_entries ks)))) (keys-set_entries ks)
    (IsPermutation-map (λ (e : K × Unit {0}). e.0) (set_entries ks) (map.entries (with_entries map.empty (set_entries ks)))
    (made o (set_entries ks) (distinct-map {Y = K × Unit {0}} (is_same_key o) (λ k. (k, tt)) ks ∙ distinct)))

-- distinct grants are the grants of the roles built from them
pub made_roles : (gs : List Grant) → are_distinct is_same_grant gs ≡ true → IsPermutation gs (grants_in (with_entries map.empty (set_entries gs)))
unfolding grants_in
made_roles gs distinct = made_keys grants_total gs distinct

-- and likewise for mandates
pub made_mandates : (ms : List Mandate) → are_distinct is_same_mandate ms ≡ true → IsPermutation ms (mandates_in (with_entries map.empty (set_entries ms)))
unfolding mandates_in
made_mandates ms distinct = made_keys mandates_total ms distinct
