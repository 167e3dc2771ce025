-- Lemmas on sorted lists: the order of elements, and that two with the same elements are equal
use Rattle.std.proofs.Common.{◌≡◌, ℕ, zero, suc, ◌+◌, ◌<◌, ◌≤◌, Bool, true, false, cond, List, [], ◌∷◌, map, length, get_or, ◌⊎◌, inl, inr, refl, sym, ap, ◌∙◌, subst, arith}
use Rattle.std.proofs.lemmas.List.Sorted.{sorted_far, sum_by-IsPermutation, Contains-permutation}
use Rattle.std.proofs.lemmas.List.Sums.{sum_by-cons}
use Rattle.std.specs.Cmp.{IsStrictWeakOrder}
use Rattle.std.specs.List.{AllByRecursion, Contains, sum_by}
use Rattle.std.specs.List.Sorted.{IsSortedBy, IsPermutation}
use Rattle.land_shape.specs.Faults.{SomeOf}
use Rattle.land_shape.specs.Walks.{IsAscendingBy}
use Rattle.land_shape.proofs.Tallies.{tally, either_way}

-- from a fact at each index
each_of : {X : Type 0} (P : X → Type 0) (xs : List X) → ((k : ℕ) (d : X) → k < length xs → P (get_or xs k d)) → AllByRecursion P xs
each_of P [] h = tt
each_of P (x ∷ xs) h = (h 0 x (omega arith), each_of P xs (λ k d l. h (suc k) d (omega arith)))

pub rises_from_sorted : {X : Type 0} (lt : X → X → Bool) (o : IsStrictWeakOrder lt) (xs : List X) → IsSortedBy lt xs → IsAscendingBy lt xs
rises_from_sorted lt o [] up = tt
rises_from_sorted {X} lt o (x ∷ xs) up = (
  each_of (λ y. lt y x ≡ false) xs (λ k d l. sorted_far lt o (x ∷ xs) up 0 (suc k) d (omega arith) (omega arith)),
  rises_from_sorted lt o xs (λ k d z l. let n : suc k + 1 ≡ suc (k + 1) = omega arith in
      subst (λ (m : ℕ). lt (get_or (x ∷ xs) m d) (get_or xs k d) ≡ false) n (up (suc k) d (omega arith) (omega arith))),
)

pub all_map : {X Y : Type 0} (f : X → Y) (P : Y → Type 0) (xs : List X) → AllByRecursion (λ x. P (f x)) xs → AllByRecursion P (map f xs)
all_map f P [] h = tt
all_map f P (x ∷ xs) h = (h.0, all_map f P xs h.1)

pub rises_map : {X Y : Type 0} (f : X → Y) (lt : Y → Y → Bool) (xs : List X) → IsAscendingBy (λ a b. lt (f a) (f b)) xs → IsAscendingBy lt (map f xs)
rises_map f lt [] h = tt
rises_map f lt (x ∷ xs) h = (all_map f (λ y. lt y (f x) ≡ false) xs h.0, rises_map f lt xs h.1)

-- an element of a list
pub is_one_of_at : {X : Type 0} (xs : List X) (x : X) (k : ℕ) → k < length xs → get_or xs k x ≡ x → SomeOf (λ y. x ≡ y) xs
is_one_of_at [] x k h e = absurd (omega arith)
is_one_of_at (y ∷ xs) x zero h e = inl (sym e)
is_one_of_at (y ∷ xs) x (suc k) h e = inr (is_one_of_at xs x k (omega arith) e)

pub contains_of : {X : Type 0} (xs : List X) (x : X) → SomeOf (λ y. x ≡ y) xs → Contains xs x
contains_of [] x h = absurd h
contains_of (y ∷ xs) x (inl e) = (0, omega arith, sym e)
contains_of (y ∷ xs) x (inr h) = let c = contains_of xs x h in (suc c.0, omega (arith, c.1), c.2)

pub one_of_permutation : {X : Type 0} (xs ys : List X) → IsPermutation xs ys → (x : X) → SomeOf (λ y. x ≡ y) xs → SomeOf (λ y. x ≡ y) ys
one_of_permutation xs ys p x h = let c = Contains-permutation xs ys x p (contains_of xs x h) in is_one_of_at ys x c.0 c.1 c.2

tally-sum : {X : Type 0} (eq : X → X → Bool) (z : X) (xs : List X) → tally eq z xs ≡ sum_by (λ x. cond (eq x z) 1 0) xs
tally-sum eq z [] = refl
tally-sum eq z (x ∷ xs) = ap (λ (n : ℕ). cond (eq x z) 1 0 + n) (tally-sum eq z xs) ∙ sym (sum_by-cons (λ y. cond (eq y z) 1 0) x xs)

pub tally-permutation : {X : Type 0} (eq : X → X → Bool) (z : X) (xs ys : List X) → IsPermutation xs ys → tally eq z xs ≡ tally eq z ys
tally-permutation eq z xs ys p =
    tally-sum eq z xs ∙ sym (sum_by-IsPermutation (λ x. cond (eq x z) 1 0) xs ys p) ∙ sym (tally-sum eq z ys)

module _ {X : Type 0} (eq : X → X → Bool) (same : (a b : X) → eq a b ≡ true → a ≡ b) (itself : (a : X) → eq a a ≡ true)
    (lt : X → X → Bool) (level : (a b : X) → lt a b ≡ false → lt b a ≡ false → a ≡ b) where
  first_least : (x y : X) (ys : List X) → IsAscendingBy lt (y ∷ ys) → 1 ≤ tally eq x (y ∷ ys) → (lt x y ≡ false) ⊎ (x ≡ y)
  first_least x y ys up h =
      either_way (eq y x)
      (λ yes. inr (sym (same y x yes)))
      (λ no. let g : 1 ≤ 0 + tally eq x ys = rw no at h in inl (later ys up.0 (omega arith)))
    where
      later : (zs : List X) → AllByRecursion (λ z. lt z y ≡ false) zs → 1 ≤ tally eq x zs → lt x y ≡ false
      later [] all k = absurd (omega arith)
      later (z ∷ zs) all k =
          either_way (eq z x)
          (λ yes. subst (λ (w : X). lt w y ≡ false) (same z x yes) all.0)
          (λ no. let g : 1 ≤ 0 + tally eq x zs = rw no at k in later zs all.1 (omega arith))

  same_first : (x y : X) (xs ys : List X) → IsAscendingBy lt (x ∷ xs) → IsAscendingBy lt (y ∷ ys) → 1 ≤ tally eq x (y ∷ ys) → 1 ≤ tally eq y (x ∷ xs) → x ≡ y
  same_first x y xs ys up vp hx hy = elim (first_least x y ys vp hx) as (λ o. x ≡ y) [
    | inr e ↦ e
    | inl a ↦ elim (first_least y x xs up hy) as (λ o. x ≡ y) [ inr e ↦ sym e | inl b ↦ level x y a b ]
  ]

  -- sorted lists that have each element as often are one
  pub one_sorted : (xs ys : List X) → IsAscendingBy lt xs → IsAscendingBy lt ys → ((z : X) → tally eq z xs ≡ tally eq z ys) → xs ≡ ys
  one_sorted [] [] up vp h = refl
  one_sorted [] (y ∷ ys) up vp h = let g : 0 ≡ 1 + tally eq y ys = rw itself at (h y) in absurd (omega arith)
  one_sorted (x ∷ xs) [] up vp h = let g : 1 + tally eq x xs ≡ 0 = rw itself at (h x) in absurd (omega arith)
  one_sorted (x ∷ xs) (y ∷ ys) up vp h =
      let gx : 1 + tally eq x xs ≡ tally eq x (y ∷ ys) = rw itself at (h x) in
      let gy : tally eq y (x ∷ xs) ≡ 1 + tally eq y ys = rw itself at (h y) in
      let e : x ≡ y = same_first x y xs ys up vp (omega arith) (omega arith) in
      let rest : (z : X) → tally eq z xs ≡ tally eq z ys
      = λ z. let k : cond (eq x z) 1 0 + tally eq z xs ≡ cond (eq x z) 1 0 + tally eq z ys = subst (λ (w : X). tally eq z (x ∷ xs) ≡ tally eq z (w ∷ ys)) (sym e) (h z) in omega arith in
      ap (λ (zs : List X). x ∷ zs) (one_sorted xs ys up.1 vp.1 rest) ∙ ap (λ (w : X). w ∷ ys) e
