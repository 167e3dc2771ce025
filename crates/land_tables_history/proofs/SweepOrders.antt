-- Properties of a sorted list: each item is related to all later ones.
use Rattle.std.proofs.Common.{◌≡◌, ℕ, suc, ◌+◌, ◌≤◌, ◌<◌, true, false, List, [], ◌∷◌, length, get_or, refl, sym, subst, arith}
use Rattle.std.proofs.lemmas.Bool.{false≢true}
use Rattle.std.proofs.lemmas.Bool.Decides.{nat_tests}
use Rattle.std.proofs.lemmas.Int.{ints}
use Rattle.std.proofs.lemmas.List.Sorted.{ranks_by, sorted_far}
use Rattle.std.specs.Cmp.{IsTotalOrder}
use Rattle.std.specs.List.{AllByRecursion}
use Rattle.std.specs.List.Sorted.{IsSorted}
use Rattle.std.specs.Ordering.{int_cmp, is_eq, is_lt, nat_cmp, ordering_then}
use Rattle.std.specs.declared.cmp.Ordering.{Ordering}
use Rattle.std.specs.declared.cmp.Ordering.TheVariants.{Less, Equal, Greater}
use Rattle.std.specs.Prelude.{ℤ, ◌≤ℤ◌, nat_eq}

-- ---- the order of values

pub then_not : (r s : Ordering) → is_lt (ordering_then r s) ≡ false → (is_lt r ≡ false) × (is_eq r ≡ true → is_lt s ≡ false)
then_not Less s h = absurd (false≢true (sym h))
then_not Equal s h = (refl, λ e. h)
then_not Greater s h = (refl, λ e. absurd (false≢true e))

pub no_less : (a b : ℕ) → is_lt (nat_cmp b a) ≡ false → a ≤ b
no_less a b h = grind (arith, nat_tests)

pub tie : (a b : ℕ) → nat_eq a b ≡ true → is_eq (nat_cmp b a) ≡ true
tie a b h = grind (arith, nat_tests)

pub no_earlier : (s t : ℤ) → is_lt (int_cmp t s) ≡ false → s ≤ℤ t
no_earlier s t h = grind (arith, ints)

-- ---- a list in order

-- each item is related to all later ones
abbrev pub Rising : {X : Type 0} → (X → X → Type 0) → List X → Type 0
Rising P [] = Unit {0}
Rising P (x ∷ xs) = AllByRecursion (P x) xs × Rising P xs

all_from : {X : Type 0} (P : X → Type 0) (xs : List X) → ((k : ℕ) (d : X) → k < length xs → P (get_or xs k d)) → AllByRecursion P xs
all_from P [] h = tt
all_from P (x ∷ xs) h = (h 0 x (omega arith), all_from P xs (λ k d less. h (suc k) d (omega (arith, less))))

module _ {X : Type 0} (R : X → X → Ordering) (o : IsTotalOrder R) where
  rest_sorted : (x : X) (xs : List X) → IsSorted R (x ∷ xs) → IsSorted R xs
  rest_sorted x xs sorted k d low high =
      let moved : suc k + 1 ≡ suc (k + 1) = omega arith in
      subst (λ (n : ℕ). is_lt (R (get_or (x ∷ xs) n d) (get_or xs k d)) ≡ false) moved (sorted (suc k) d (omega arith) (omega (arith, high)))

  -- in a sorted list, if each pair that is not in descending order is related
  pub rising_in_order : (P : X → X → Type 0) → ((x y : X) → is_lt (R y x) ≡ false → P x y) → (xs : List X) → IsSorted R xs → Rising P xs
  rising_in_order P told [] sorted = tt
  rising_in_order P told (x ∷ xs) sorted = (
    all_from (P x) xs (λ k d less. told x (get_or xs k d) (sorted_far (λ a b. is_lt (R a b)) (ranks_by o (λ s. s)) (x ∷ xs) sorted 0 (suc k) d (omega arith) (omega (arith, less)))),
    rising_in_order P told xs (rest_sorted x xs sorted),
  )
