-- When an item of a list satisfies a condition.
use Rattle.std.proofs.Common.{◌≡◌, ℕ, Bool, true, false, ◌||◌, ◌&&◌, cond, nat_eq, List, [], ◌∷◌, filter, refl, sym, ap, ap₂, subst, ◌∙◌}
use Rattle.std.specs.List.{list_any}
use Rattle.std.proofs.lemmas.Bool.{false≢true, eqb-true, or_right}
use Rattle.std.proofs.lemmas.Cmp.{nat_eq_equiv}
use Rattle.land_core.proofs.Booleans.{or_four, or_nothing}

and_over : (a b c : Bool) → ((a || b) && c) ≡ ((a && c) || (b && c))
and_over true b true = refl
and_over true true false = refl
and_over true false false = refl
and_over false b c = refl

or_same : (b : Bool) → (b || b) ≡ b
or_same true = refl
or_same false = refl

either_implied : (a b c d : Bool) → (c ≡ true → a ≡ true) → (d ≡ true → b ≡ true) → (c || d) ≡ true → (a || b) ≡ true
either_implied true b c d f g e = refl
either_implied false b true d f g e = absurd (false≢true (f refl))
either_implied false b false d f g e = g e

either_true : {b : Bool} (c d : Bool) → (c ≡ true → b ≡ true) → (d ≡ true → b ≡ true) → (c || d) ≡ true → b ≡ true
either_true true d f g e = f refl
either_true false d f g e = g e

module _ {X : Type 0} where
  pub any_alike : (p q : X → Bool) → ((x : X) → p x ≡ q x) → (xs : List X) → list_any p xs ≡ list_any q xs
  any_alike p q same [] = refl
  any_alike p q same (x ∷ xs) = ap₂ (λ a b. a || b) (same x) (any_alike p q same xs)

  pub any_none : (xs : List X) → list_any (λ x. false) xs ≡ false
  any_none [] = refl
  any_none (x ∷ xs) = any_none xs

  pub any_and : (p : X → Bool) (b : Bool) (xs : List X) → (list_any p xs && b) ≡ list_any (λ x. p x && b) xs
  any_and p b [] = refl
  any_and p b (x ∷ xs) = and_over (p x) (list_any p xs) b ∙ ap (λ c. (p x && b) || c) (any_and p b xs)

  pub and_any : (b : Bool) (p : X → Bool) (xs : List X) → (b && list_any p xs) ≡ list_any (λ x. b && p x) xs
  and_any true p xs = refl
  and_any false p xs = sym (any_none xs)

  pub any_or : (p q : X → Bool) (xs : List X) → (list_any p xs || list_any q xs) ≡ list_any (λ x. p x || q x) xs
  any_or p q [] = refl
  any_or p q (x ∷ xs) = or_four (p x) (list_any p xs) (q x) (list_any q xs) ∙ ap (λ c. (p x || q x) || c) (any_or p q xs)

  -- a property of all items is a property of each
  pub any_same : (b : Bool) (x : X) (xs : List X) → list_any (λ y. b) (x ∷ xs) ≡ b
  any_same b x [] = or_nothing b
  any_same b x (y ∷ ys) = ap (λ c. b || c) (any_same b y ys) ∙ or_same b

  -- if an item that satisfies the second condition satisfies the first
  pub any_implied : (p q : X → Bool) → ((x : X) → q x ≡ true → p x ≡ true) → (xs : List X) → list_any q xs ≡ true → list_any p xs ≡ true
  any_implied p q h [] e = absurd (false≢true e)
  any_implied p q h (x ∷ xs) e = either_implied (p x) (list_any p xs) (q x) (list_any q xs) (h x) (any_implied p q h xs) e

  -- a consequence of each item's condition holds if an item satisfies it
  pub any_says : (p : X → Bool) {b : Bool} → ((x : X) → p x ≡ true → b ≡ true) → (xs : List X) → list_any p xs ≡ true → b ≡ true
  any_says p h [] e = absurd (false≢true e)
  any_says p h (x ∷ xs) e = either_true (p x) (list_any p xs) (h x) (any_says p h xs) e

  -- an item among those that satisfy one condition satisfies another exactly if an item satisfies both
  pub any_kept : (t p : X → Bool) (xs : List X) → list_any t (filter p xs) ≡ list_any (λ x. p x && t x) xs
  any_kept t p [] = refl
  any_kept t p (x ∷ xs) = go (p x) (any_kept t p xs)
    where
      go : (b : Bool) → list_any t (filter p xs) ≡ list_any (λ x. p x && t x) xs → list_any t (cond b (x ∷ filter p xs) (filter p xs)) ≡ ((b && t x) || list_any (λ x. p x && t x) xs)
      go true rest = ap (λ c. t x || c) rest
      go false rest = rest

-- of two lists
pub any_either : {X Y : Type 0} (p : X → Y → Bool) (xs : List X) (ys : List Y) → list_any (λ x. list_any (λ y. p x y) ys) xs ≡ list_any (λ y. list_any (λ x. p x y) xs) ys
any_either p [] ys = sym (any_none ys)
any_either p (x ∷ xs) ys = ap (λ b. list_any (p x) ys || b) (any_either p xs ys) ∙ any_or (p x) (λ y. list_any (λ z. p z y) xs) ys

-- ---- numbers

-- a number of the list that satisfies a condition
pub any_at : (p : ℕ → Bool) (n : ℕ) (ns : List ℕ) → list_any (nat_eq n) ns ≡ true → p n ≡ true → list_any p ns ≡ true
any_at p n [] h e = absurd (false≢true h)
any_at p n (m ∷ ms) h e =
    elim (nat_eq n m) as (λ b. nat_eq n m ≡ b → (b || list_any (nat_eq n) ms) ≡ true → (p m || list_any p ms) ≡ true) [
      | true ↦ λ here h. ap (λ b. b || list_any p ms) (subst (λ (k : ℕ). p k ≡ true) (eqb-true n m here) e)
      | false ↦ λ gone h. or_right (p m) (list_any p ms) (any_at p n ms h e)
    ] refl h

-- no number of the list satisfies a condition
pub none_at_all : (p : ℕ → Bool) (ns : List ℕ) → ((n : ℕ) → list_any (nat_eq n) ns ≡ true → p n ≡ false) → list_any p ns ≡ false
none_at_all p [] h = refl
none_at_all p (m ∷ ms) h =
    ap₂ (λ a b. a || b) (h m (ap (λ b. b || list_any (nat_eq m) ms) (nat_eq_equiv.refl m))) (none_at_all p ms (λ n e. h n (or_right (nat_eq n m) (list_any (nat_eq n) ms) e)))
