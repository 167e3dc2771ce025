-- Strictly increasing numbers are distinct, and distinct numbers are strictly increasing once they are
-- sorted.
use Rattle.std.proofs.Common.{◌≡◌, ◌↔◌, ◌+◌, Bool, true, false, List, get_or, ℤ, pos, int_lt, refl, ◌∙◌, arith, IsPermutation, IsSorted}
use Rattle.std.proofs.lemmas.Bool.{false≢true}
use Rattle.std.proofs.lemmas.Cmp.{int_cmp_total, int_eq_equiv}
use Rattle.std.proofs.lemmas.Int.{ints}
use Rattle.std.proofs.lemmas.List.Sorted.{IsPermutation-sym}
use Rattle.std.proofs.lemmas.Map.Keys.{IsDistinct-IsPermutation, IsDistinct-from_sorted, Less-from_sorted, apart_from_distinct, sorted_from_all_adjacent}
use Rattle.std.specs.List.{IsAllAdjacentAnswer, IsDistinct}
use Rattle.std.specs.List.Sorted.{IsStrictlySortedBy}
use Rattle.std.specs.Ordering.{int_cmp, int_eq, is_lt}
use Rattle.std.specs.declared.cmp.Ordering.TheVariants.{Less}

less_from : (x y : ℤ) → true ≡ int_lt x y → int_cmp x y ≡ Less
less_from x y h = grind (arith, ints)

below_from : (x y : ℤ) → int_cmp x y ≡ Less → int_lt x y ≡ true
below_from x y h = grind (arith, ints)

-- neither less nor equal
comes_after : (x y : ℤ) → is_lt (int_cmp y x) ≡ false → int_eq x y ≡ false → int_cmp x y ≡ Less
comes_after x y h g = grind (arith, ints)

-- the result of comparing two neighbours
pub rising : (ids : List ℤ) (r : Bool) → IsAllAdjacentAnswer (λ x y b. b ≡ int_lt x y) ids r → (r ≡ true) ↔ IsStrictlySortedBy int_cmp ids
rising ids true h = (λ _. sorted_from_all_adjacent int_cmp_total ids (pos 0) (λ k within. less_from (get_or ids k (pos 0)) (get_or ids (k + 1) (pos 0)) (h k (pos 0) within)), λ _. refl)
rising ids false h = (
  λ e. absurd (false≢true e),
  λ s. h.2 (pos 0) ∙ below_from (get_or ids h.0 (pos 0)) (get_or ids (h.0 + 1) (pos 0)) (Less-from_sorted int_cmp ids h.0 (h.0 + 1) (pos 0) s (omega arith) h.1),
)

-- strictly increasing numbers are distinct
pub rising_apart : (ids : List ℤ) → IsStrictlySortedBy int_cmp ids → IsDistinct int_eq ids
rising_apart ids s = IsDistinct-from_sorted int_cmp ids s

apart_rising : (ids : List ℤ) → IsSorted int_cmp ids → IsDistinct int_eq ids → IsStrictlySortedBy int_cmp ids
apart_rising ids up apart =
    sorted_from_all_adjacent int_cmp_total ids (pos 0) (λ k within.
    comes_after (get_or ids k (pos 0)) (get_or ids (k + 1) (pos 0)) (up k (pos 0) (omega arith) within) (apart_from_distinct int_eq ids k (k + 1) (pos 0) apart (omega arith) within))

-- sorted numbers are distinct if and only if they are strictly increasing
pub apart_in_order : (ids sorted : List ℤ) → IsPermutation ids sorted → IsSorted int_cmp sorted → IsStrictlySortedBy int_cmp sorted ↔ IsDistinct int_eq ids
apart_in_order ids sorted moved up = (
  λ s. IsDistinct-IsPermutation int_eq int_eq_equiv.symm sorted ids (IsPermutation-sym ids sorted moved) (rising_apart sorted s),
  λ apart. apart_rising sorted up (IsDistinct-IsPermutation int_eq int_eq_equiv.symm ids sorted moved apart),
)
