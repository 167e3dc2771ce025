-- Lists without duplicates, and the current values of versions that do not overlap.
use Rattle.std.proofs.Common.{◌≡◌, ℕ, ◌≤◌, Bool, true, false, cond, not, ◌||◌, ◌&&◌, List, [], ◌∷◌, length, filter, map as map_list, refl, sym, ap, ap₂, ◌∙◌, subst, arith, IsPermutation}
use Rattle.std.specs.Prelude.{ℤ, int_le, int_lt, nat_eq}
use Rattle.std.proofs.lemmas.Bool.Decides.{nat_tests}
use Rattle.std.proofs.lemmas.Bool.{false≢true, and_parts, eq-eqb, not-true, or_parts}
use Rattle.std.proofs.lemmas.Int.{ints}
use Rattle.std.proofs.lemmas.List.Sorted.{IsPermutation-cons, IsPermutation-middle, IsPermutation-refl, IsPermutation-trans, length_permutation}
use Rattle.std.specs.List.{AllByRecursion, list_all, list_any}
use Rattle.land_core.proofs.Booleans.{or_true, or_turned}
use Rattle.land_core.proofs.Reflection.{list_any-filter}
use Rattle.land_core.specs.Entries.{are_distinct}
use Rattle.land_tables_history.proofs.NamingTests.{any_standing}
use Rattle.land_tables_history.proofs.Permutations.{all_permuted, along_permutation}
use Rattle.land_tables_history.specs.Intervals.{overlap}
use Rattle.land_tables_history.specs.Standing.{current_values, is_current}
use Rattle.land_tables_history.specs.declared.version.Version.{Version}

-- ---- no key is current twice at a moment

both_stand : (t since until since' until' : ℤ) → (int_le since t && int_lt t until) ≡ true → (int_le since' t && int_lt t until') ≡ true → (int_lt since until' && int_lt since' until) ≡ true
both_stand t since until since' until' h g = grind (arith, ints)

any_fewer : {X : Type 0} (p q : X → Bool) → ((x : X) → p x ≡ true → q x ≡ true) → (xs : List X) → list_any q xs ≡ false → list_any p xs ≡ false
any_fewer p q more [] none = refl
any_fewer p q more (x ∷ xs) none = let parts = or_parts (q x) (list_any q xs) none in go (p x) refl parts.0 (any_fewer p q more xs parts.1)
  where
    go : (b : Bool) → p x ≡ b → q x ≡ false → list_any p xs ≡ false → (b || list_any p xs) ≡ false
    go true is fails rest = absurd (false≢true (sym fails ∙ more x is))
    go false is fails rest = rest

pub distinct_standing : {X : Type 0} (same : X → X → Bool) (t : ℤ) (vs : List (Version X)) → are_distinct (overlap same) vs ≡ true → are_distinct same (current_values t vs) ≡ true
distinct_standing same t [] distinct = refl
distinct_standing {X} same t (v ∷ vs) distinct = go (is_current t v) refl (distinct_standing same t vs parts.1)
  where
    parts : (not (list_any (overlap same v) vs) ≡ true) × (are_distinct (overlap same) vs ≡ true)
    parts = and_parts (not (list_any (overlap same v) vs)) (are_distinct (overlap same) vs) distinct

    joined : (a b c : Bool) → a ≡ true → (b && c) ≡ true → (a && b && c) ≡ true
    joined a b c x y = grind arith

    overlaps : (w : Version X) → is_current t v ≡ true → (is_current t w && same v.what w.what) ≡ true → overlap same v w ≡ true
    overlaps w here h =
        let there = and_parts (is_current t w) (same v.what w.what) h in
        joined (same v.what w.what) (int_lt v.since w.until) (int_lt w.since v.until) there.1 (both_stand t v.since v.until w.since w.until here there.0)

    go : (b : Bool) → is_current t v ≡ b → are_distinct same (current_values t vs) ≡ true → are_distinct same (map_list (λ (v : Version X). v.what) (cond b (v ∷ filter (is_current t) vs) (filter (is_current t) vs))) ≡ true
    go true here rest =
        ap (λ b. not b && are_distinct same (current_values t vs))
        (sym (any_standing t (same v.what) vs) ∙ any_fewer (λ w. is_current t w && same v.what w.what) (overlap same v) (λ w. overlaps w here) vs (not-true (list_any (overlap same v) vs) parts.0)) ∙ rest
    go false here rest = rest

-- ---- two lists with the same items, none twice

module _ {X : Type 0} (same : X → X → Bool) (exact : (x y : X) → same x y ≡ true → x ≡ y) (itself : (x : X) → same x x ≡ true) where
  turned : (x y : X) → same x y ≡ same y x
  turned x y = go (same x y) (same y x) refl refl
    where
      go : (a b : Bool) → same x y ≡ a → same y x ≡ b → a ≡ b
      go true true p q = refl
      go true false p q = sym (subst (λ (z : X). same z x ≡ true) (exact x y p) (itself x)) ∙ q
      go false true p q = sym p ∙ subst (λ (z : X). same z y ≡ true) (exact y x q) (itself y)
      go false false p q = refl

  -- the items of a list except one
  abbrev others : X → List X → List X
  others x ys = filter (λ y. not (same x y)) ys

  none_dropped : (x : X) (ys : List X) → list_any (same x) ys ≡ false → others x ys ≡ ys
  none_dropped x [] none = refl
  none_dropped x (y ∷ ys) none =
      let parts = or_parts (same x y) (list_any (same x) ys) none in
      ap (λ b. cond (not b) (y ∷ others x ys) (others x ys)) parts.0 ∙ ap (λ l. y ∷ l) (none_dropped x ys parts.1)

  one_dropped : (x : X) (ys : List X) → list_any (same x) ys ≡ true → are_distinct same ys ≡ true → IsPermutation (x ∷ others x ys) ys
  one_dropped x [] some distinct = absurd (false≢true some)
  one_dropped x (y ∷ ys) some distinct = go (same x y) refl some (λ there. one_dropped x ys there parts.1)
    where
      parts : (not (list_any (same y) ys) ≡ true) × (are_distinct same ys ≡ true)
      parts = and_parts (not (list_any (same y) ys)) (are_distinct same ys) distinct

      go : (b : Bool) → same x y ≡ b → (b || list_any (same x) ys) ≡ true → (list_any (same x) ys ≡ true → IsPermutation (x ∷ others x ys) ys)
          → IsPermutation (x ∷ cond (not b) (y ∷ others x ys) (others x ys)) (y ∷ ys)
      go true is some rest =
          let one : x ≡ y = exact x y is in
          let none : list_any (same x) ys ≡ false = subst (λ (z : X). list_any (same z) ys ≡ false) (sym one) (not-true (list_any (same y) ys) parts.0) in
          subst (λ (z : X). IsPermutation (x ∷ others x ys) (z ∷ ys)) one (subst (λ l. IsPermutation (x ∷ others x ys) (x ∷ l)) (none_dropped x ys none) (IsPermutation-refl (x ∷ others x ys)))
      go false is some rest =
          IsPermutation-trans (x ∷ y ∷ others x ys) (y ∷ x ∷ others x ys) (y ∷ ys) (IsPermutation-middle (x ∷ []) y (others x ys)) (IsPermutation-cons y (x ∷ others x ys) ys (rest some))

  distinct_filter : (p : X → Bool) (ys : List X) → are_distinct same ys ≡ true → are_distinct same (filter p ys) ≡ true
  distinct_filter p [] distinct = refl
  distinct_filter p (y ∷ ys) distinct =
      let parts = and_parts (not (list_any (same y) ys)) (are_distinct same ys) distinct in
      go (p y) (fewer ys (not-true (list_any (same y) ys) parts.0)) (distinct_filter p ys parts.1)
    where
      fewer : (zs : List X) → list_any (same y) zs ≡ false → list_any (same y) (filter p zs) ≡ false
      fewer [] none = refl
      fewer (z ∷ zs) none =
          let parts = or_parts (same y z) (list_any (same y) zs) none in
          elim (p z) as (λ b. list_any (same y) (cond b (z ∷ filter p zs) (filter p zs)) ≡ false) [
            | true ↦ ap (λ b. b || list_any (same y) (filter p zs)) parts.0 ∙ fewer zs parts.1
            | false ↦ fewer zs parts.1
          ]

      go : (b : Bool) → list_any (same y) (filter p ys) ≡ false → are_distinct same (filter p ys) ≡ true → are_distinct same (cond b (y ∷ filter p ys) (filter p ys)) ≡ true
      go true none rest = ap (λ b. not b && are_distinct same (filter p ys)) none ∙ rest
      go false none rest = rest

  -- an item other than x is among the others
  among_others : (x n : X) (ys : List X) → same x n ≡ false → list_any (same n) ys ≡ true → list_any (same n) (others x ys) ≡ true
  among_others x n ys apart there = list_any-filter (same n) (λ y. not (same x y)) ys (all ys) ∙ there
    where
      all : (zs : List X) → AllByRecursion (λ y. same n y ≡ true → not (same x y) ≡ true) zs
      all [] = tt
      all (z ∷ zs) = (λ is. ap not (ap (same x) (sym (exact n z is)) ∙ apart), all zs)

  all_among_others : (x : X) (ys ns : List X) → list_any (same x) ns ≡ false → list_all (λ n. list_any (same n) ys) ns ≡ true → list_all (λ n. list_any (same n) (others x ys)) ns ≡ true
  all_among_others x ys [] apart there = refl
  all_among_others x ys (n ∷ ns) apart there =
      let parts = and_parts (list_any (same n) ys) (list_all (λ n. list_any (same n) ys) ns) there in
      let away = or_parts (same x n) (list_any (same x) ns) apart in
      ap (λ b. b && list_all (λ n. list_any (same n) (others x ys)) ns) (among_others x n ys away.0 parts.0) ∙ all_among_others x ys ns away.1 parts.1

  -- the others are among the remaining ones
  others_among : (x : X) (xs ys : List X) → list_all (λ y. list_any (same y) (x ∷ xs)) ys ≡ true → list_all (λ y. list_any (same y) xs) (others x ys) ≡ true
  others_among x xs [] there = refl
  others_among x xs (y ∷ ys) there =
      let parts = and_parts (list_any (same y) (x ∷ xs)) (list_all (λ y. list_any (same y) (x ∷ xs)) ys) there in
      go (same x y) refl parts.0 (others_among x xs ys parts.1)
    where
      go : (b : Bool) → same x y ≡ b → (same y x || list_any (same y) xs) ≡ true → list_all (λ y. list_any (same y) xs) (others x ys) ≡ true
          → list_all (λ y. list_any (same y) xs) (cond (not b) (y ∷ others x ys) (others x ys)) ≡ true
      go true is here rest = rest
      go false is here rest =
          ap (λ b. b && list_all (λ y. list_any (same y) xs) (others x ys)) (sym (ap (λ b. b || list_any (same y) xs) (turned y x ∙ is)) ∙ here) ∙ rest

  pub same_items : (xs ys : List X) → are_distinct same xs ≡ true → are_distinct same ys ≡ true → list_all (λ x. list_any (same x) ys) xs ≡ true → list_all (λ y. list_any (same y) xs) ys ≡ true → IsPermutation xs ys
  same_items [] [] dx dy there here = IsPermutation-refl []
  same_items [] (y ∷ ys) dx dy there here = absurd (false≢true here)
  same_items (x ∷ xs) ys dx dy there here =
      let apart = and_parts (not (list_any (same x) xs)) (are_distinct same xs) dx in
      let parts = and_parts (list_any (same x) ys) (list_all (λ n. list_any (same n) ys) xs) there in
      IsPermutation-trans (x ∷ xs) (x ∷ others x ys) ys
      (IsPermutation-cons x xs (others x ys) (same_items xs (others x ys) apart.1 (distinct_filter (λ y. not (same x y)) ys dy) (all_among_others x ys xs (not-true (list_any (same x) xs) apart.0) parts.1) (others_among x xs ys here)))
      (one_dropped x ys parts.0 dy)

  -- ---- a list among another of the same length has the same items

  fewest : (xs ys : List X) → are_distinct same xs ≡ true → are_distinct same ys ≡ true → list_all (λ x. list_any (same x) ys) xs ≡ true → length ys ≤ length xs → IsPermutation xs ys
  fewest [] [] dx dy there few = IsPermutation-refl []
  fewest [] (y ∷ ys) dx dy there few = absurd (omega (arith, few))
  fewest (x ∷ xs) ys dx dy there few =
      let apart = and_parts (not (list_any (same x) xs)) (are_distinct same xs) dx in
      let parts = and_parts (list_any (same x) ys) (list_all (λ n. list_any (same n) ys) xs) there in
      let rest = one_dropped x ys parts.0 dy in
      let one_less : length ys ≡ length (x ∷ others x ys) = length_permutation (x ∷ others x ys) ys rest in
      IsPermutation-trans (x ∷ xs) (x ∷ others x ys) ys
      (IsPermutation-cons x xs (others x ys)
      (fewest xs (others x ys) apart.1 (distinct_filter (λ y. not (same x y)) ys dy) (all_among_others x ys xs (not-true (list_any (same x) xs) apart.0) parts.1) (omega (arith, few, one_less))))
      rest

  among_more : (y : X) (ys xs : List X) → list_all (λ x. list_any (same x) ys) xs ≡ true → list_all (λ x. list_any (same x) (y ∷ ys)) xs ≡ true
  among_more y ys [] there = refl
  among_more y ys (x ∷ xs) there =
      let parts = and_parts (list_any (same x) ys) (list_all (λ x. list_any (same x) ys) xs) there in
      ap (λ b. (same x y || b) && list_all (λ x. list_any (same x) (y ∷ ys)) xs) parts.0 ∙ ap (λ b. b && list_all (λ x. list_any (same x) (y ∷ ys)) xs) (or_true (same x y)) ∙ among_more y ys xs parts.1

  pub all_among : (xs : List X) → list_all (λ x. list_any (same x) xs) xs ≡ true
  all_among [] = refl
  all_among (x ∷ xs) = ap (λ b. (b || list_any (same x) xs) && list_all (λ y. list_any (same y) (x ∷ xs)) xs) (itself x) ∙ among_more x xs xs (all_among xs)

  -- if one list is among another, and both have no duplicates, then the converse holds if and only if they
  -- are equally long
  pub as_many : (xs ys : List X) → are_distinct same xs ≡ true → are_distinct same ys ≡ true → list_all (λ x. list_any (same x) ys) xs ≡ true
      → list_all (λ y. list_any (same y) xs) ys ≡ nat_eq (length ys) (length xs)
  as_many xs ys dx dy there = go (list_all (λ y. list_any (same y) xs) ys) (nat_eq (length ys) (length xs)) refl refl
    where
      equal : (n m : ℕ) → nat_eq n m ≡ true → n ≤ m
      equal n m h = grind (arith, nat_tests)

      go : (a b : Bool) → list_all (λ y. list_any (same y) xs) ys ≡ a → nat_eq (length ys) (length xs) ≡ b → a ≡ b
      go true true p q = refl
      go true false p q = sym (eq-eqb (length ys) (length xs) (length_permutation xs ys (same_items xs ys dx dy there p))) ∙ q
      go false true p q =
          sym p ∙ all_permuted (λ y. list_any (same y) xs) xs ys (fewest xs ys dx dy there (equal (length ys) (length xs) q)) ∙ all_among xs
      go false false p q = refl

-- ---- in any order

both_turned : (a b c d : Bool) → (not (a || c) && (not b && d)) ≡ (not (a || b) && (not c && d))
both_turned a b c d = grind arith

module _ {X : Type 0} (same : X → X → Bool) (flips : (x y : X) → same x y ≡ same y x) where
  record Alike (xs ys : List X) : Type 0 where
    met : (x : X) → list_any (same x) ys ≡ list_any (same x) xs
    apart : are_distinct same ys ≡ are_distinct same xs

  swapped : (x y : X) (xs : List X) → are_distinct same (y ∷ x ∷ xs) ≡ are_distinct same (x ∷ y ∷ xs)
  swapped x y xs =
      ap (λ a. not (a || list_any (same y) xs) && (not (list_any (same x) xs) && are_distinct same xs)) (flips y x)
      ∙ both_turned (same x y) (list_any (same x) xs) (list_any (same y) xs) (are_distinct same xs)

  pub distinct_permuted : (xs ys : List X) → IsPermutation xs ys → are_distinct same ys ≡ are_distinct same xs
  distinct_permuted xs ys p = (along_permutation Alike itself under over chained xs ys p).apart
    where
      itself : (xs : List X) → Alike xs xs
      itself xs = record { met = λ x. refl; apart = refl }

      under : (x : X) (xs ys : List X) → Alike xs ys → Alike (x ∷ xs) (x ∷ ys)
      under x xs ys h = record { met = λ q. ap (λ b. same q x || b) (h.met q); apart = ap₂ (λ a b. not a && b) (h.met x) h.apart }

      over : (x y : X) (xs : List X) → Alike (x ∷ y ∷ xs) (y ∷ x ∷ xs)
      over x y xs = record { met = λ q. or_turned (same q y) (same q x) (list_any (same q) xs); apart = swapped x y xs }

      chained : (xs ys zs : List X) → Alike xs ys → Alike ys zs → Alike xs zs
      chained xs ys zs g h = record { met = λ q. h.met q ∙ g.met q; apart = h.apart ∙ g.apart }
