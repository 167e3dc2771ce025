-- The corners near an edge, by two searches in all of them
use Rattle.std.proofs.Common.{◌≡◌, ℕ, zero, suc, ◌-◌, ◌<◌, ◌≤◌, Bool, true, false, List, [], ◌∷◌, ◌++◌, length, take, drop, get_or, inl, inr, refl, sym, ap, ◌∙◌, subst, arith}
use Rattle.std.proofs.lemmas.List.{take_rest}
use Rattle.std.specs.List.{AllByRecursion}
use Rattle.std.specs.List.Sorted.{IsPartitionedBy}
use Rattle.land_shape.specs.declared.plane.Point.{Point}
use Rattle.land_shape.specs.Place.{Place}
use Rattle.land_shape.specs.Simple.{place_of, places}
use Rattle.land_shape.specs.Walks.{is_before, walk, IsAscendingBy}
use Rattle.land_shape.proofs.Order.{Before, before_all, before_of, of_before, one_before}
use Rattle.land_shape.proofs.WalkLemmas.{skip_before, skip_after, clash}

all_at : (P : Place → Type 0) (xs : List Point) (k : ℕ) (d : Point) → k < length xs → AllByRecursion P (places xs) → P (place_of (get_or xs k d))
all_at P [] k d h all = absurd (omega arith)
all_at P (x ∷ xs) zero d h all = all.0
all_at P (x ∷ xs) (suc k) d h all = all_at P xs k d (omega arith) all.1

-- if q is before t and not before p, then p is before t
no_later : (p q t : Place) → is_before q p ≡ false → is_before q t ≡ true → is_before p t ≡ true
no_later p q t n h =
    elim (one_before p q) as (λ o. is_before p t ≡ true) [
      | inl l ↦ of_before p t (before_all p q t l (before_of q t h))
      | inr o ↦ elim o as (λ o. is_before p t ≡ true) [
        | inl e ↦ subst (λ (r : Place). is_before r t ≡ true) (sym e) h
        | inr g ↦ clash (is_before p t ≡ true) (is_before q p) (of_before q p g) n
      ]
    ]

pub parted : (xs : List Point) (t : Place) → IsAscendingBy is_before (places xs) → IsPartitionedBy (λ p. is_before (place_of p) t) xs
parted [] t up i j d le lt h = absurd (omega arith)
parted (x ∷ xs) t up zero zero d le lt h = h
parted (x ∷ xs) t up zero (suc j) d le lt h =
    no_later (place_of x) (place_of (get_or xs j d)) t (all_at (λ p. is_before p (place_of x) ≡ false) xs j d (omega arith) up.0) h
parted (x ∷ xs) t up (suc i) zero d le lt h = absurd (omega arith)
parted (x ∷ xs) t up (suc i) (suc j) d le lt h = parted xs t up.1 i j d (omega arith) (omega arith) h

pub all_taken : (P : Place → Type 0) (xs : List Point) (n : ℕ) → ((k : ℕ) (d : Point) → k < n → P (place_of (get_or xs k d))) → AllByRecursion P (take n (places xs))
all_taken P [] zero h = tt
all_taken P [] (suc n) h = tt
all_taken P (x ∷ xs) zero h = tt
all_taken P (x ∷ xs) (suc n) h = (h 0 x (omega arith), all_taken P xs n (λ k d l. h (suc k) d (omega arith)))

pub all_dropped : (P : Place → Type 0) (xs : List Point) (n : ℕ) → ((k : ℕ) (d : Point) → n ≤ k → k < length xs → P (place_of (get_or xs k d))) → AllByRecursion P (drop n (places xs))
all_dropped P [] zero h = tt
all_dropped P [] (suc n) h = tt
all_dropped P (x ∷ xs) zero h = (h 0 x (omega arith) (omega arith), all_dropped P xs zero (λ k d l m. h (suc k) d (omega arith) (omega arith)))
all_dropped P (x ∷ xs) (suc n) h = all_dropped P xs n (λ k d l m. h (suc k) d (omega arith) (omega arith))

dropped_places : (ps : List Point) (n : ℕ) → places (drop n ps) ≡ drop n (places ps)
dropped_places [] zero = refl
dropped_places [] (suc n) = refl
dropped_places (p ∷ ps) zero = refl
dropped_places (p ∷ ps) (suc n) = dropped_places ps n

pub taken_places : (ps : List Point) (n : ℕ) → places (take n ps) ≡ take n (places ps)
taken_places [] zero = refl
taken_places [] (suc n) = refl
taken_places (p ∷ ps) zero = refl
taken_places (p ∷ ps) (suc n) = ap (λ (qs : List Place). place_of p ∷ qs) (taken_places ps n)

pub rest_places : (ps : List Point) (n : ℕ) → places (take (length ps - n) (drop n ps)) ≡ drop n (places ps)
rest_places ps n = ap places (take_rest ps n) ∙ dropped_places ps n

pub rises_rest : {X : Type 0} (lt : X → X → Bool) (n : ℕ) (xs : List X) → IsAscendingBy lt xs → IsAscendingBy lt (drop n xs)
rises_rest lt zero [] h = h
rises_rest lt (suc n) [] h = h
rises_rest lt zero (x ∷ xs) h = h
rises_rest lt (suc n) (x ∷ xs) h = rises_rest lt n xs h.1

parts : (ps : List Place) (n : ℕ) → take n ps ++ drop n ps ≡ ps
parts [] zero = refl
parts [] (suc n) = refl
parts (p ∷ ps) zero = refl
parts (p ∷ ps) (suc n) = ap (λ (qs : List Place). p ∷ qs) (parts ps n)

pub near : (a t : Place) (ps : List Place) (n m : ℕ) → Before a t → AllByRecursion (λ p. is_before p a ≡ true) (take n ps)
    → AllByRecursion (λ p. is_before p t ≡ false) (drop m (drop n ps)) → walk a t (take m (drop n ps)) ≡ walk a t ps
near a t ps n m up first last =
    sym (skip_after a t (take m (drop n ps)) (drop m (drop n ps)) up last)
    ∙ ap (walk a t) (parts (drop n ps) m)
    ∙ sym (skip_before a t (take n ps) (drop n ps) up first)
    ∙ ap (walk a t) (parts ps n)
