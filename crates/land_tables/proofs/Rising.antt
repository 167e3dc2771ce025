-- Moments, sorted by stamp, are those of a timeline whose stamps increase.
use Rattle.std.proofs.Common.{◌≡◌, ◌≤◌, ℕ, Bool, true, false, cond, not, ◌&&◌, List, [], ◌∷◌, map, refl, sym, ap, ◌∙◌, arith, IsPermutation}
use Rattle.std.specs.Prelude.{ℤ, ◌<ℤ◌, int_le, int_lt, nat_lt}
use Rattle.std.proofs.lemmas.Bool.Decides.{nat_tests}
use Rattle.std.proofs.lemmas.Int.{ints}
use Rattle.std.proofs.lemmas.List.Sorted.{IsPermutation-cons, IsPermutation-middle, IsPermutation-refl, IsPermutation-trans}
use Rattle.std.specs.List.{list_all, list_any}
use Rattle.std.specs.Ordering.{int_eq}
use Rattle.std.proofs.lemmas.Bool.{and_parts, not-true, or_parts}
use Rattle.land_core.specs.Entries.{are_distinct}
use Rattle.land_keep.specs.Timeline.{IncreasesFrom}
use Rattle.land_tables.specs.Timelines.{sorted_moments, insert_moment, version_of}
use Rattle.land_tables_history.proofs.Permutations.{all_permuted}
use Rattle.land_tables_history.specs.ValidHistory.{decreases, is_same_stamp, never_decreases}
use Rattle.land_tables_history.specs.declared.history.History.{History}
use Rattle.land_tables_history.specs.declared.moment.Moment.{Moment}

-- ---- the same moments

put_permuted : (m : Moment) (ms : List Moment) → IsPermutation (insert_moment m ms) (m ∷ ms)
put_permuted m [] = IsPermutation-refl (m ∷ [])
put_permuted m (n ∷ ns) = go (int_le m.stamp n.stamp) (put_permuted m ns)
  where
    go : (b : Bool) → IsPermutation (insert_moment m ns) (m ∷ ns) → IsPermutation (cond b (m ∷ n ∷ ns) (n ∷ insert_moment m ns)) (m ∷ n ∷ ns)
    go true rest = IsPermutation-refl (m ∷ n ∷ ns)
    go false rest = IsPermutation-trans (n ∷ insert_moment m ns) (n ∷ m ∷ ns) (m ∷ n ∷ ns) (IsPermutation-cons n (insert_moment m ns) (m ∷ ns) rest) (IsPermutation-middle (n ∷ []) m ns)

pub in_order_permuted : (ms : List Moment) → IsPermutation (sorted_moments ms) ms
in_order_permuted [] = IsPermutation-refl []
in_order_permuted (m ∷ ms) =
    IsPermutation-trans (insert_moment m (sorted_moments ms)) (m ∷ sorted_moments ms) (m ∷ ms) (put_permuted m (sorted_moments ms)) (IsPermutation-cons m (sorted_moments ms) ms (in_order_permuted ms))

-- ---- two moments of one history

-- stamps are distinct, and the next number never decreases
abbrev fits : Moment → Moment → Bool
fits a b = not (is_same_stamp a b) && not (decreases a b) && not (decreases b a)

abbrev pairs_fit : List Moment → Bool
pairs_fit [] = true
pairs_fit (m ∷ ms) = list_all (fits m) ms && pairs_fit ms

all_both : {X : Type 0} (p q : X → Bool) (xs : List X) → list_all (λ x. p x && q x) xs ≡ true → (list_all p xs ≡ true) × (list_all q xs ≡ true)
all_both p q [] h = (refl, refl)
all_both p q (x ∷ xs) h =
    let parts = and_parts (p x && q x) (list_all (λ x. p x && q x) xs) h in
    let here = and_parts (p x) (q x) parts.0 in
    let rest = all_both p q xs parts.1 in
    (ap (λ b. b && list_all p xs) here.0 ∙ rest.0, ap (λ b. b && list_all q xs) here.1 ∙ rest.1)

three : (a b c : Bool) → a ≡ false → b ≡ true → c ≡ true → (not a && b && c) ≡ true
three a b c x y z = grind arith

fit_all : (m : Moment) (ms : List Moment) → list_any (is_same_stamp m) ms ≡ false → list_all (λ b. not (decreases m b)) ms ≡ true → list_all (λ a. not (decreases a m)) ms ≡ true → list_all (fits m) ms ≡ true
fit_all m [] apart after before = refl
fit_all m (n ∷ ns) apart after before =
    let one = or_parts (is_same_stamp m n) (list_any (is_same_stamp m) ns) apart in
    let two = and_parts (not (decreases m n)) (list_all (λ b. not (decreases m b)) ns) after in
    let more = and_parts (not (decreases n m)) (list_all (λ a. not (decreases a m)) ns) before in
    ap (λ b. b && list_all (fits m) ns) (three (is_same_stamp m n) (not (decreases m n)) (not (decreases n m)) one.0 two.0 more.0) ∙ fit_all m ns one.1 two.1 more.1

fit_pairs : (ms : List Moment) → are_distinct is_same_stamp ms ≡ true → never_decreases ms ≡ true → pairs_fit ms ≡ true
fit_pairs [] distinct never = refl
fit_pairs (m ∷ ms) distinct never =
    let apart = and_parts (not (list_any (is_same_stamp m) ms)) (are_distinct is_same_stamp ms) distinct in
    let rows = and_parts (list_all (λ b. not (decreases m b)) (m ∷ ms)) (list_all (λ a. list_all (λ b. not (decreases a b)) (m ∷ ms)) ms) never in
    let row = and_parts (not (decreases m m)) (list_all (λ b. not (decreases m b)) ms) rows.0 in
    let rest = all_both (λ a. not (decreases a m)) (λ a. list_all (λ b. not (decreases a b)) ms) ms rows.1 in
    ap (λ b. b && pairs_fit ms) (fit_all m ms (not-true (list_any (is_same_stamp m) ms) apart.0) row.1 rest.0) ∙ fit_pairs ms apart.1 rest.1

-- ---- they increase

is_before : (s t : ℤ) (a b : ℕ) → (not (int_eq s t) && not (int_lt s t && nat_lt b a) && not (int_lt t s && nat_lt a b)) ≡ true → int_le s t ≡ true → s <ℤ t
is_before s t a b fit first = grind (arith, ints)

no_fewer : (s t : ℤ) (a b : ℕ) → (not (int_eq s t) && not (int_lt s t && nat_lt b a) && not (int_lt t s && nat_lt a b)) ≡ true → int_le s t ≡ true → a ≤ b
no_fewer s t a b fit first = grind (arith, ints, nat_tests)

is_after : (s t : ℤ) (a b : ℕ) → (not (int_eq s t) && not (int_lt s t && nat_lt b a) && not (int_lt t s && nat_lt a b)) ≡ true → int_le s t ≡ false → t <ℤ s
is_after s t a b fit first = grind (arith, ints)

no_more : (s t : ℤ) (a b : ℕ) → (not (int_eq s t) && not (int_lt s t && nat_lt b a) && not (int_lt t s && nat_lt a b)) ≡ true → int_le s t ≡ false → b ≤ a
no_more s t a b fit first = grind (arith, ints, nat_tests)

module _ (versions : History) where
  -- the stamps increase, and so do those of the versions that begin at them
  pub Orderly : List Moment → Type 0
  Orderly [] = Unit {0}
  Orderly (m ∷ ms) = IncreasesFrom (version_of versions m) (map (version_of versions) ms)

  put_rises : (b m : Moment) (ms : List Moment) → b.stamp <ℤ m.stamp → b.next ≤ m.next → IncreasesFrom (version_of versions b) (map (version_of versions) ms) → list_all (fits m) ms ≡ true
      → IncreasesFrom (version_of versions b) (map (version_of versions) (insert_moment m ms))
  put_rises b m [] less more rises fit = (less, more, tt)
  put_rises b m (n ∷ ns) less more rises fit = go (int_le m.stamp n.stamp) refl (λ after most. put_rises n m ns after most rises.2 parts.1)
    where
      parts : (fits m n ≡ true) × (list_all (fits m) ns ≡ true)
      parts = and_parts (fits m n) (list_all (fits m) ns) fit

      go : (c : Bool) → int_le m.stamp n.stamp ≡ c → (n.stamp <ℤ m.stamp → n.next ≤ m.next → IncreasesFrom (version_of versions n) (map (version_of versions) (insert_moment m ns)))
          → IncreasesFrom (version_of versions b) (map (version_of versions) (cond c (m ∷ n ∷ ns) (n ∷ insert_moment m ns)))
      go true first rest = (less, more, (is_before m.stamp n.stamp m.next n.next parts.0 first, no_fewer m.stamp n.stamp m.next n.next parts.0 first, rises.2))
      go false first rest = (rises.0, rises.1, rest (is_after m.stamp n.stamp m.next n.next parts.0 first) (no_more m.stamp n.stamp m.next n.next parts.0 first))

  put_orderly : (m : Moment) (ms : List Moment) → Orderly ms → list_all (fits m) ms ≡ true → Orderly (insert_moment m ms)
  unfolding Orderly
  put_orderly m [] orderly fit = tt
  put_orderly m (n ∷ ns) orderly fit = go (int_le m.stamp n.stamp) refl
    where
      parts : (fits m n ≡ true) × (list_all (fits m) ns ≡ true)
      parts = and_parts (fits m n) (list_all (fits m) ns) fit

      go : (c : Bool) → int_le m.stamp n.stamp ≡ c → Orderly (cond c (m ∷ n ∷ ns) (n ∷ insert_moment m ns))
      go true first = (is_before m.stamp n.stamp m.next n.next parts.0 first, no_fewer m.stamp n.stamp m.next n.next parts.0 first, orderly)
      go false first = put_rises n m ns (is_after m.stamp n.stamp m.next n.next parts.0 first) (no_more m.stamp n.stamp m.next n.next parts.0 first) orderly parts.1

  orderly_from : (ms : List Moment) → pairs_fit ms ≡ true → Orderly (sorted_moments ms)
  unfolding Orderly
  orderly_from [] fit = tt
  orderly_from (m ∷ ms) fit =
      let parts = and_parts (list_all (fits m) ms) (pairs_fit ms) fit in
      put_orderly m (sorted_moments ms) (orderly_from ms parts.1) (sym (all_permuted (fits m) (sorted_moments ms) ms (in_order_permuted ms)) ∙ parts.0)

  pub orderly : (ms : List Moment) → are_distinct is_same_stamp ms ≡ true → never_decreases ms ≡ true → Orderly (sorted_moments ms)
  orderly ms distinct never = orderly_from ms (fit_pairs ms distinct never)

  pub rises_from : (m : Moment) (ms : List Moment) → Orderly (m ∷ ms) → IncreasesFrom (version_of versions m) (map (version_of versions) ms)
  unfolding Orderly
  rises_from m ms h = h
