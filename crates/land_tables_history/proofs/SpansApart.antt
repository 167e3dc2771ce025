-- Of sorted spans, only neighbours can overlap.
use Rattle.std.proofs.Common.{◌≡◌, ◌↔◌, ◌≤◌, Bool, cond, length, filter, true, false, not, ◌||◌, ◌&&◌, List, [], ◌∷◌, refl, sym, ap, ap₂, ◌∙◌, arith, IsPermutation}
use Rattle.std.proofs.lemmas.Bool.{false≢true, and_parts, not-true, or_parts}
use Rattle.std.proofs.lemmas.Cmp.{alike_right, eq_by_cmp_equiv, on_total, tied_back, then_total}
use Rattle.std.proofs.lemmas.Int.{ints}
use Rattle.std.specs.Cmp.{IsTotalOrder, int_cmp_total}
use Rattle.std.specs.List.{AllByRecursion, list_all, list_any}
use Rattle.std.specs.List.Sorted.{IsSorted}
use Rattle.std.specs.Ordering.{eq_by_cmp, int_cmp, is_eq, is_gt, is_lt, ordering_reverse, ordering_then}
use Rattle.std.specs.Prelude.{ℤ, ◌≤ℤ◌, int_le, int_lt}
use Rattle.std.specs.declared.cmp.Ordering.{Ordering}
use Rattle.std.specs.declared.cmp.Ordering.TheVariants.{Less, Equal, Greater}
use Rattle.land_core.proofs.Booleans.{or_turned}
use Rattle.land_tables_history.proofs.SweepOrders.{Rising, no_earlier, rising_in_order, then_not}
use Rattle.land_tables_history.proofs.Permutations.{all_permuted, along_permutation}
use Rattle.land_tables_history.specs.Sweeps.Apart.{AreApart, are_apart, is_at, overlap}
use Rattle.land_tables_history.specs.Sweeps.ApartSteps.{are_neighbours_apart, overlaps_first, span_cmp}
use Rattle.land_tables_history.specs.Sweeps.CoverSteps.{later}
use Rattle.land_tables_history.specs.declared.sweeps.apart.Span.{Span}

not_before : (r s : Ordering) → is_lt r ≡ false → s ≡ ordering_reverse r → is_gt s ≡ false
not_before Less s h e = absurd (false≢true (sym h))
not_before Equal s h e = ap is_gt e
not_before Greater s h e = ap is_gt e

-- ---- a span that begins later cannot be reached where one between them is not

no_later : (since until since' until' since'' until'' : ℤ) → since ≤ℤ since' → since' ≤ℤ since'' → int_lt since' until' ≡ true
    → (int_lt since until' && int_lt since' until) ≡ false → (int_lt since until'' && int_lt since'' until) ≡ false
no_later since until since' until' since'' until'' p q opened_version apart = grind (arith, ints)

module _ {K : Type 0} (R : K → K → Ordering) (o : IsTotalOrder R) where
  span_total : IsTotalOrder (span_cmp R)
  span_total =
      then_total (on_total (λ (s : Span K). s.key) o) (then_total (on_total (λ (s : Span K). s.since) int_cmp_total) (on_total (λ (s : Span K). s.until) int_cmp_total))

  -- a span does not come before another
  record Follows (x y : Span K) : Type 0 where
    key : is_gt (R x.key y.key) ≡ false
    since : R x.key y.key ≡ Equal → x.since ≤ℤ y.since

  follows : (x y : Span K) → is_lt (span_cmp R y x) ≡ false → Follows x y
  follows x y h =
      let ends : Ordering = ordering_then (int_cmp y.since x.since) (int_cmp y.until x.until) in
      let one = then_not (R y.key x.key) ends h in
      record {
        key = not_before (R y.key x.key) (R x.key y.key) one.0 (o.antisymm x.key y.key);
        since = λ same. no_earlier x.since y.since (then_not (int_cmp y.since x.since) (int_cmp y.until x.until) (one.1 (ap is_eq (tied_back o x.key y.key same)))).0;
      }

  -- a key between a key and itself is that key
  between : (x y z : K) → is_gt (R x y) ≡ false → is_gt (R y z) ≡ false → R x z ≡ Equal → R x y ≡ Equal
  between x y z p q e = go (R x y) (R y z) refl refl
    where
      go : (r s : Ordering) → R x y ≡ r → R y z ≡ s → R x y ≡ Equal
      go Equal s f g = f
      go Greater s f g = absurd (false≢true (sym p ∙ ap is_gt f))
      go Less Less f g = absurd (false≢true (sym (ap is_eq (o.trans x y z f g)) ∙ ap is_eq e))
      go Less Equal f g = alike_right o y z x g ∙ e
      go Less Greater f g = absurd (false≢true (sym q ∙ ap is_gt g))

  far : (x y z : Span K) → Follows x y → Follows y z → int_lt y.since y.until ≡ true → overlap R x y ≡ false → overlap R x z ≡ false
  far x y z p q opened_version apart = go (R x.key z.key) refl
    where
      inner : (a b c : Bool) → a ≡ true → (a && b && c) ≡ false → (b && c) ≡ false
      inner a b c e h = sym (ap (λ d. d && b && c) e) ∙ h

      go : (r : Ordering) → R x.key z.key ≡ r → (is_eq r && int_lt x.since z.until && int_lt z.since x.until) ≡ false
      go Less e = refl
      go Greater e = refl
      go Equal e =
          let one : R x.key y.key ≡ Equal = between x.key y.key z.key p.key q.key e in
          let other : R y.key z.key ≡ Equal = sym (o.congr x.key y.key z.key one) ∙ e in
          no_later x.since x.until y.since y.until z.since z.until (p.since one) (q.since other) opened_version
          (inner (eq_by_cmp R x.key y.key) (int_lt x.since y.until) (int_lt y.since x.until) (ap is_eq one) apart)

  -- ---- a list in order

  abbrev is_begun : Span K → Bool
  is_begun s = int_lt s.since s.until

  none_far : (x y : Span K) (zs : List (Span K)) → Follows x y → is_begun y ≡ true → overlap R x y ≡ false → AllByRecursion (Follows y) zs → list_any (overlap R x) zs ≡ false
  none_far x y [] p opened_version apart all = refl
  none_far x y (z ∷ zs) p opened_version apart all = ap (λ b. b || list_any (overlap R x) zs) (far x y z p all.0 opened_version apart) ∙ none_far x y zs p opened_version apart all.1

  first_only : (x : Span K) (ys : List (Span K)) → AllByRecursion (Follows x) ys → Rising Follows ys → list_all is_begun ys ≡ true → list_any (overlap R x) ys ≡ overlaps_first R x ys
  first_only x [] all in_order opened_version = refl
  first_only x (y ∷ zs) all in_order opened_version = go (overlap R x y) refl
    where
      go : (b : Bool) → overlap R x y ≡ b → (b || list_any (overlap R x) zs) ≡ b
      go true e = refl
      go false e = none_far x y zs all.0 (and_parts (is_begun y) (list_all is_begun zs) opened_version).0 e in_order.0

  neighbours : (xs : List (Span K)) → Rising Follows xs → list_all is_begun xs ≡ true → are_neighbours_apart R xs ≡ are_apart R xs
  neighbours [] in_order opened_version = refl
  neighbours (x ∷ xs) in_order opened_version =
      let rest = and_parts (is_begun x) (list_all is_begun xs) opened_version in
      ap₂ (λ a b. not a && b) (sym (first_only x xs in_order.0 in_order.1 rest.1)) (neighbours xs in_order.1 rest.1)

  -- ---- in any order

  flipped : (a b : Span K) → overlap R a b ≡ overlap R b a
  flipped a b =
      ap (λ same. same && int_lt a.since b.until && int_lt b.since a.until) ((eq_by_cmp_equiv o).symm a.key b.key)
      ∙ turned (eq_by_cmp R b.key a.key) (int_lt a.since b.until) (int_lt b.since a.until)
    where
      turned : (a b c : Bool) → (a && b && c) ≡ (a && c && b)
      turned a b c = grind arith

  -- two lists overlap with the same spans, so both are disjoint or neither is
  record Alike (xs ys : List (Span K)) : Type 0 where
    met : (x : Span K) → list_any (overlap R x) ys ≡ list_any (overlap R x) xs
    apart : are_apart R ys ≡ are_apart R xs

  exchanged : (x y : Span K) (xs : List (Span K)) → are_apart R (y ∷ x ∷ xs) ≡ are_apart R (x ∷ y ∷ xs)
  exchanged x y xs =
      ap (λ b. not (b || list_any (overlap R y) xs) && (not (list_any (overlap R x) xs) && are_apart R xs)) (flipped y x)
      ∙ both_turned (overlap R x y) (list_any (overlap R x) xs) (list_any (overlap R y) xs) (are_apart R xs)
    where
      both_turned : (a b c d : Bool) → (not (a || c) && (not b && d)) ≡ (not (a || b) && (not c && d))
      both_turned a b c d = grind arith

  apart_permuted : (xs ys : List (Span K)) → IsPermutation xs ys → are_apart R ys ≡ are_apart R xs
  apart_permuted xs ys p = (along_permutation Alike itself under over chained xs ys p).apart
    where
      itself : (xs : List (Span K)) → Alike xs xs
      itself xs = record { met = λ x. refl; apart = refl }

      under : (x : Span K) (xs ys : List (Span K)) → Alike xs ys → Alike (x ∷ xs) (x ∷ ys)
      under x xs ys h = record { met = λ q. ap (λ b. overlap R q x || b) (h.met q); apart = ap₂ (λ a b. not a && b) (h.met x) h.apart }

      over : (x y : Span K) (xs : List (Span K)) → Alike (x ∷ y ∷ xs) (y ∷ x ∷ xs)
      over x y xs = record { met = λ q. or_turned (overlap R q y) (overlap R q x) (list_any (overlap R q) xs); apart = exchanged x y xs }

      chained : (xs ys zs : List (Span K)) → Alike xs ys → Alike ys zs → Alike xs zs
      chained xs ys zs g h = record { met = λ q. h.met q ∙ g.met q; apart = h.apart ∙ g.apart }

  -- spans after sorting
  pub apart_in_order : (spans sorted : List (Span K)) → list_all is_begun spans ≡ true → IsPermutation spans sorted → IsSorted (span_cmp R) sorted
      → are_neighbours_apart R sorted ≡ are_apart R spans
  apart_in_order spans sorted opened_version p in_order =
      neighbours sorted (rising_in_order (span_cmp R) span_total Follows follows sorted in_order) (all_permuted is_begun spans sorted p ∙ opened_version) ∙ apart_permuted spans sorted p

-- ---- pairs and moments

both_there : (a b c : Bool) (since until since' until' t : ℤ) → (a ≡ true → b ≡ true → c ≡ true) → (a && int_le since t && int_lt t until) ≡ true
    → (b && int_le since' t && int_lt t until') ≡ true → (c && int_lt since until' && int_lt since' until) ≡ true
both_there a b c since until since' until' t same here there = grind (arith, ints)

first_there : (a c : Bool) (since until since' until' : ℤ) → int_lt since until ≡ true → int_lt since' until' ≡ true → a ≡ true → (c && int_lt since until' && int_lt since' until) ≡ true
    → (a && int_le since (later since since') && int_lt (later since since') until) ≡ true
first_there a c since until since' until' p q e h = grind (arith, ints)

second_there : (a c : Bool) (since until since' until' : ℤ) → int_lt since until ≡ true → int_lt since' until' ≡ true → (c ≡ true → a ≡ true) → (c && int_lt since until' && int_lt since' until) ≡ true
    → (a && int_le since' (later since since') && int_lt (later since since') until') ≡ true
second_there a c since until since' until' p q same h = grind (arith, ints)

module _ {K : Type 0} (R : K → K → Ordering) (o : IsTotalOrder R) where
  one_key : (a b key : K) → eq_by_cmp R a key ≡ true → eq_by_cmp R b key ≡ true → eq_by_cmp R a b ≡ true
  one_key a b key p q = (eq_by_cmp_equiv o).congr a key b p ∙ (eq_by_cmp_equiv o).symm key b ∙ q

  -- if a span holds a moment, no span that is disjoint from it does
  none_else : (key : K) (t : ℤ) (x : Span K) (ys : List (Span K)) → is_at R key t x ≡ true → list_any (overlap R x) ys ≡ false → filter (is_at R key t) ys ≡ []
  none_else key t x [] here apart = refl
  none_else key t x (y ∷ ys) here apart = go (is_at R key t y) refl (none_else key t x ys here parts.1)
    where
      parts : (overlap R x y ≡ false) × (list_any (overlap R x) ys ≡ false)
      parts = or_parts (overlap R x y) (list_any (overlap R x) ys) apart

      go : (b : Bool) → is_at R key t y ≡ b → filter (is_at R key t) ys ≡ [] → cond b (y ∷ filter (is_at R key t) ys) (filter (is_at R key t) ys) ≡ []
      go false e rest = rest
      go true there rest = absurd (false≢true (sym parts.0 ∙ both_there (eq_by_cmp R x.key key) (eq_by_cmp R y.key key) (eq_by_cmp R x.key y.key)
          x.since x.until y.since y.until t (one_key x.key y.key key) here there))

  at_most_one : (xs : List (Span K)) → are_apart R xs ≡ true → AreApart R xs
  at_most_one [] apart key t = omega arith
  at_most_one (x ∷ xs) apart key t = go (is_at R key t x) refl (at_most_one xs parts.1 key t)
    where
      parts : (not (list_any (overlap R x) xs) ≡ true) × (are_apart R xs ≡ true)
      parts = and_parts (not (list_any (overlap R x) xs)) (are_apart R xs) apart

      go : (b : Bool) → is_at R key t x ≡ b → length (filter (is_at R key t) xs) ≤ 1 → length (cond b (x ∷ filter (is_at R key t) xs) (filter (is_at R key t) xs)) ≤ 1
      go false e rest = rest
      go true here rest =
          let none : length (filter (is_at R key t) xs) ≡ 0 = ap length (none_else key t x xs here (not-true (list_any (overlap R x) xs) parts.0)) in
          omega (arith, none)

  -- if no other span shares a moment with this one, it overlaps none
  overlaps_none : (x : Span K) (ys : List (Span K)) → int_lt x.since x.until ≡ true → list_all (λ s. int_lt s.since s.until) ys ≡ true
      → ((t : ℤ) → is_at R x.key t x ≡ true → length (filter (is_at R x.key t) ys) ≤ 0) → list_any (overlap R x) ys ≡ false
  overlaps_none x [] opened_version all alone = refl
  overlaps_none x (y ∷ ys) opened_version all alone = go (overlap R x y) refl (overlaps_none x ys opened_version parts.1 (λ t here. fewer t (is_at R x.key t y) (alone t here)))
    where
      parts : (int_lt y.since y.until ≡ true) × (list_all (λ s. int_lt s.since s.until) ys ≡ true)
      parts = and_parts (int_lt y.since y.until) (list_all (λ s. int_lt s.since s.until) ys) all

      fewer : (t : ℤ) (b : Bool) → length (cond b (y ∷ filter (is_at R x.key t) ys) (filter (is_at R x.key t) ys)) ≤ 0 → length (filter (is_at R x.key t) ys) ≤ 0
      fewer t true h = absurd (omega (arith, h))
      fewer t false h = h

      some : (t : ℤ) (b : Bool) → b ≡ true → length (cond b (y ∷ filter (is_at R x.key t) ys) (filter (is_at R x.key t) ys)) ≤ 0 → ⊥
      some t true e h = omega (arith, h)
      some t false e h = false≢true e

      go : (b : Bool) → overlap R x y ≡ b → list_any (overlap R x) ys ≡ false → (b || list_any (overlap R x) ys) ≡ false
      go false e rest = rest
      go true e rest = absurd (some (later x.since y.since) (is_at R x.key (later x.since y.since) y)
          (second_there (eq_by_cmp R y.key x.key) (eq_by_cmp R x.key y.key) x.since x.until y.since y.until opened_version parts.0 (λ same. (eq_by_cmp_equiv o).symm y.key x.key ∙ same) e)
          (alone (later x.since y.since)
          (first_there (eq_by_cmp R x.key x.key) (eq_by_cmp R x.key y.key) x.since x.until y.since y.until opened_version parts.0 ((eq_by_cmp_equiv o).refl x.key) e)))

  apart_from_moments : (xs : List (Span K)) → list_all (λ s. int_lt s.since s.until) xs ≡ true → AreApart R xs → are_apart R xs ≡ true
  apart_from_moments [] all h = refl
  apart_from_moments (x ∷ xs) all h =
      ap₂ (λ a b. not a && b)
      (overlaps_none x xs parts.0 parts.1 (λ t here. alone t (is_at R x.key t x) here (h x.key t)))
      (apart_from_moments xs parts.1 (λ key t. fewer key t (is_at R key t x) (h key t)))
    where
      parts : (int_lt x.since x.until ≡ true) × (list_all (λ s. int_lt s.since s.until) xs ≡ true)
      parts = and_parts (int_lt x.since x.until) (list_all (λ s. int_lt s.since s.until) xs) all

      alone : (t : ℤ) (b : Bool) → b ≡ true → length (cond b (x ∷ filter (is_at R x.key t) xs) (filter (is_at R x.key t) xs)) ≤ 1 → length (filter (is_at R x.key t) xs) ≤ 0
      alone t true e h = omega (arith, h)
      alone t false e h = absurd (false≢true e)

      fewer : (key : K) (t : ℤ) (b : Bool) → length (cond b (x ∷ filter (is_at R key t) xs) (filter (is_at R key t) xs)) ≤ 1 → length (filter (is_at R key t) xs) ≤ 1
      fewer key t true h = omega (arith, h)
      fewer key t false h = h

  -- the two definitions of disjointness agree
  pub by_moments : (xs : List (Span K)) → list_all (λ s. int_lt s.since s.until) xs ≡ true → (are_apart R xs ≡ true) ↔ AreApart R xs
  by_moments xs all = (at_most_one xs, apart_from_moments xs all)
