-- Increasing lists with the same numbers are equal.
use Rattle.std.proofs.Common.{◌≡◌, ◌↔◌, ◌<◌, inl, inr, ℕ, suc, List, [], ◌∷◌, refl, sym, ap₂, arith}
use Rattle.std.proofs.lemmas.List.Elements.{All-contains}
use Rattle.std.proofs.lemmas.List.Kept.{AllPairs-from_increasing}
use Rattle.std.specs.List.{AllPairs, Contains}
use Rattle.std.specs.List.Sorted.{IsStrictlyIncreasing}
use Rattle.land_select_queries.proofs.Containing.{first, first_or_later, in_nothing, later}
use Rattle.land_select_queries.specs.Sights.Laws.{AscendingListsAreOne}

-- each number is less than all that follow it
abbrev pub Ascends : List ℕ → Type 0
Ascends [] = Unit {0}
Ascends (x ∷ xs) = ((y : ℕ) → Contains xs y → x < y) × Ascends xs

tail : (x : ℕ) (xs : List ℕ) → AllPairs (λ a b. a < b) (x ∷ xs) → AllPairs (λ a b. a < b) xs
tail x xs h i j d lt within = h (suc i) (suc j) d (omega arith) (omega arith)

pairs_ascend : (xs : List ℕ) → AllPairs (λ a b. a < b) xs → Ascends xs
pairs_ascend [] h = tt
pairs_ascend (x ∷ xs) h = (
  (λ y it. All-contains (λ b. x < b) xs y (λ k d within. h 0 (suc k) d (omega arith) (omega arith)) it),
  pairs_ascend xs (tail x xs h),
)

pub ascend : (xs : List ℕ) → IsStrictlyIncreasing xs → Ascends xs
ascend xs h = pairs_ascend xs (AllPairs-from_increasing xs h)

pub same_list : (xs ys : List ℕ) → Ascends xs → Ascends ys → ((n : ℕ) → Contains xs n ↔ Contains ys n) → xs ≡ ys
same_list [] [] p q h = refl
same_list [] (y ∷ ys) p q h = absurd (in_nothing y ((h y).1 (first y ys)))
same_list (x ∷ xs) [] p q h = absurd (in_nothing x ((h x).0 (first x xs)))
same_list (x ∷ xs) (y ∷ ys) p q h = ap₂ (λ a l. a ∷ l) head (same_list xs ys p.1 q.1 (λ n. (forth n, back n)))
  where
    head : x ≡ y
    head = elim (first_or_later y ys x ((h x).0 (first x xs))) [
      | inl same ↦ sym same
      | inr more ↦ elim (first_or_later x xs y ((h y).1 (first y ys))) [
        | inl same ↦ same
        | inr again ↦ let a = q.0 x more in let b = p.0 y again in absurd (omega (arith, a, b))
      ]
    ]

    forth : (n : ℕ) → Contains xs n → Contains ys n
    forth n it = elim (first_or_later y ys n ((h n).0 (later x xs n it))) [
      | inl same ↦ let low = p.0 n it in let one = head in absurd (omega (arith, low, same, one))
      | inr more ↦ more
    ]

    back : (n : ℕ) → Contains ys n → Contains xs n
    back n it = elim (first_or_later x xs n ((h n).1 (later y ys n it))) [
      | inl same ↦ let low = q.0 n it in let one = head in absurd (omega (arith, low, same, one))
      | inr more ↦ more
    ]

pub one_list : AscendingListsAreOne
one_list xs ys p q h = same_list xs ys (ascend xs p) (ascend ys q) h
