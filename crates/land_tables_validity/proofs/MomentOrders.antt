-- Of sorted commits only neighbours need comparison.
use Rattle.std.proofs.Common.{◌≡◌, ℕ, Bool, true, false, not, ◌||◌, ◌&&◌, List, [], ◌∷◌, length, refl, sym, ap, ap₂, ◌∙◌, arith, IsPermutation}
use Rattle.std.specs.Prelude.{ℤ, ◌≤ℤ◌, int_lt, nat_le, nat_lt}
use Rattle.std.proofs.lemmas.Bool.Decides.{nat_tests}
use Rattle.std.proofs.lemmas.Cmp.{on_total, int_eq_equiv}
use Rattle.std.proofs.lemmas.Int.{ints}
use Rattle.std.proofs.lemmas.List.Sorted.{length_permutation}
use Rattle.std.specs.Cmp.{IsTotalOrder, int_cmp_total}
use Rattle.std.specs.List.{AllByRecursion, list_all, list_any}
use Rattle.std.specs.List.Sorted.{IsSorted}
use Rattle.std.specs.Ordering.{int_eq}
use Rattle.std.proofs.lemmas.Bool.{and_from, and_parts}
use Rattle.land_core.proofs.Booleans.{and_false}
use Rattle.land_core.specs.Entries.{are_distinct}
use Rattle.land_tables_history.proofs.Distinct.{distinct_permuted}
use Rattle.land_tables_history.proofs.MomentOrder.{le_itself}
use Rattle.land_tables_history.proofs.NamingTests.{all_alike}
use Rattle.land_tables_history.proofs.Permutations.{all_permuted}
use Rattle.land_tables_history.specs.ValidHistory.{are_moments, decreases, is_same_stamp, never_decreases}
use Rattle.land_tables_history.specs.declared.moment.Moment.{Moment}
use Rattle.land_tables_validity.specs.Chains.{precedes, precedes_first, is_increasing, is_chain, stamp_cmp}
use Rattle.land_tables_history.proofs.SweepOrders.{Rising, no_earlier, rising_in_order}

-- ---- neighbours determine all pairs

-- each commit may precede all later ones
abbrev pub all_go_up : List Moment → Bool
all_go_up [] = true
all_go_up (m ∷ ms) = list_all (precedes m) ms && all_go_up ms

through : (a b c : ℤ) (x y z : ℕ) → (int_lt a b && nat_le x y) ≡ true → (int_lt b c && nat_le y z) ≡ true
    → (int_lt a c && nat_le x z) ≡ true
through a b c x y z p q = grind (arith, ints, nat_tests)

goes_far : (m n : Moment) → precedes m n ≡ true → (ms : List Moment) → list_all (precedes n) ms ≡ true
    → list_all (precedes m) ms ≡ true
goes_far m n p [] h = refl
goes_far m n p (x ∷ xs) h =
    let parts = and_parts (precedes n x) (list_all (precedes n) xs) h in
    and_from (precedes m x) (list_all (precedes m) xs) (through m.stamp n.stamp x.stamp m.next n.next x.next p parts.0)
    (goes_far m n p xs parts.1)

first_tells : (m : Moment) (ms : List Moment) → all_go_up ms ≡ true → precedes_first m ms ≡ list_all (precedes m) ms
first_tells m [] h = refl
first_tells m (n ∷ ns) h = go (precedes m n) refl
  where
    go : (b : Bool) → precedes m n ≡ b → b ≡ (b && list_all (precedes m) ns)
    go true e = sym (goes_far m n e ns (and_parts (list_all (precedes n) ns) (all_go_up ns) h).0)
    go false e = refl

pub neighbours : (ms : List Moment) → is_increasing ms ≡ all_go_up ms
neighbours [] = refl
neighbours (m ∷ ms) = go (all_go_up ms) refl (neighbours ms)
  where
    go : (b : Bool) → all_go_up ms ≡ b → is_increasing ms ≡ all_go_up ms
        → (precedes_first m ms && is_increasing ms) ≡ (list_all (precedes m) ms && all_go_up ms)
    go true e rest = ap₂ (λ a c. a && c) (first_tells m ms e) rest
    go false e rest =
        ap (λ c. precedes_first m ms && c) (rest ∙ e) ∙ and_false (precedes_first m ms)
        ∙ sym (ap (λ c. list_all (precedes m) ms && c) e ∙ and_false (list_all (precedes m) ms))

-- ---- pairs of sorted stamps

abbrev NotLater : Moment → Moment → Type 0
NotLater a b = a.stamp ≤ℤ b.stamp

pub stamps_total : IsTotalOrder stamp_cmp
stamps_total = on_total (λ (m : Moment). m.stamp) int_cmp_total

pair_tells : (a b : ℤ) (x y : ℕ) → a ≤ℤ b → (int_lt a b && nat_le x y) ≡ (not (int_eq a b) && not (int_lt a b && nat_lt y x))
pair_tells a b x y p = grind (arith, ints, nat_tests)

none_back : (a b : ℤ) (q : Bool) → a ≤ℤ b → not (int_lt b a && q) ≡ true
none_back a b q p = grind (arith, ints)

head_tells : (m : Moment) (ms : List Moment) → AllByRecursion (NotLater m) ms
    → list_all (precedes m) ms ≡ (not (list_any (is_same_stamp m) ms) && list_all (λ b. not (decreases m b)) ms)
head_tells m [] all = refl
head_tells m (n ∷ ns) all =
    ap₂ (λ a b. a && b) (pair_tells m.stamp n.stamp m.next n.next all.0) (head_tells m ns all.1)
    ∙ spread (is_same_stamp m n) (decreases m n) (list_any (is_same_stamp m) ns) (list_all (λ b. not (decreases m b)) ns)
  where
    spread : (s f t g : Bool) → ((not s && not f) && (not t && g)) ≡ (not (s || t) && (not f && g))
    spread s f t g = grind arith

-- the next number does not decrease from one list to the other
abbrev none_falls : List Moment → List Moment → Bool
none_falls ys xs = list_all (λ a. list_all (λ b. not (decreases a b)) ys) xs

earlier_too : (m : Moment) (ys xs : List Moment) → AllByRecursion (NotLater m) xs → none_falls (m ∷ ys) xs ≡ none_falls ys xs
earlier_too m ys [] all = refl
earlier_too m ys (x ∷ xs) all =
    ap₂ (λ a b. a && list_all (λ b. not (decreases x b)) ys && b) (none_back m.stamp x.stamp (nat_lt m.next x.next) all.0)
    (earlier_too m ys xs all.1)

never_first : (m : Moment) (ms : List Moment) → AllByRecursion (NotLater m) ms
    → never_decreases (m ∷ ms) ≡ (list_all (λ b. not (decreases m b)) ms && never_decreases ms)
never_first m ms all =
    ap₂ (λ a b. a && list_all (λ b. not (decreases m b)) ms && b) (none_back m.stamp m.stamp (nat_lt m.next m.next) (le_itself m.stamp))
    (earlier_too m ms ms all)

pairs_tell : (ms : List Moment) → Rising NotLater ms → all_go_up ms ≡ (are_distinct is_same_stamp ms && never_decreases ms)
pairs_tell [] up = refl
pairs_tell (m ∷ ms) up =
    ap₂ (λ a b. a && b) (head_tells m ms up.0) (pairs_tell ms up.1)
    ∙ regrouped (not (list_any (is_same_stamp m) ms)) (list_all (λ b. not (decreases m b)) ms) (are_distinct is_same_stamp ms) (never_decreases ms)
    ∙ ap (λ b. (not (list_any (is_same_stamp m) ms) && are_distinct is_same_stamp ms) && b) (sym (never_first m ms up.0))
  where
    regrouped : (s g d n : Bool) → ((s && g) && (d && n)) ≡ ((s && d) && (g && n))
    regrouped s g d n = grind arith

-- ---- in any order

same_moments : (moments sorted : List Moment) → IsPermutation moments sorted → are_moments sorted ≡ are_moments moments
same_moments moments sorted p =
    ap₂ (λ a b. a && b)
    (ap₂ (λ n d. nat_lt 0 n && d) (length_permutation moments sorted p)
    (distinct_permuted is_same_stamp (λ a b. int_eq_equiv.symm a.stamp b.stamp) moments sorted p))
    (all_permuted (λ a. list_all (λ b. not (decreases a b)) sorted) moments sorted p
    ∙ all_alike (λ a. list_all (λ b. not (decreases a b)) sorted) (λ a. list_all (λ b. not (decreases a b)) moments)
    (λ a. all_permuted (λ b. not (decreases a b)) moments sorted p) moments)

-- commits after sorting
pub chained : (moments sorted : List Moment) → IsPermutation moments sorted → IsSorted stamp_cmp sorted
    → is_chain sorted ≡ are_moments moments
chained moments sorted p in_order =
    ap (λ b. nat_lt 0 (length sorted) && b)
    (neighbours sorted ∙ pairs_tell sorted
    (rising_in_order stamp_cmp stamps_total NotLater (λ x y. no_earlier x.stamp y.stamp) sorted in_order))
    ∙ joined (nat_lt 0 (length sorted)) (are_distinct is_same_stamp sorted) (never_decreases sorted)
    ∙ same_moments moments sorted p
  where
    joined : (a b c : Bool) → (a && (b && c)) ≡ (a && b && c)
    joined a b c = grind arith

-- each of them may precede the next one
pub goes_up_in_order : (moments sorted : List Moment) → IsPermutation moments sorted → IsSorted stamp_cmp sorted
    → are_moments moments ≡ true → is_increasing sorted ≡ true
goes_up_in_order moments sorted p in_order are =
    (and_parts (nat_lt 0 (length sorted)) (is_increasing sorted) (chained moments sorted p in_order ∙ are)).1
