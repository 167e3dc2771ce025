-- A value that passes a test passes each weaker test: if none passes the weaker one, none passes the stronger
-- one.
use Rattle.std.proofs.Common.{◌≡◌, Bool, true, false, not, ◌||◌, List, [], ◌∷◌, refl, sym, ap, ◌∙◌}
use Rattle.std.specs.List.{AllByRecursion, list_any}
use Rattle.std.proofs.lemmas.Bool.{false≢true, and_from, and_parts, not-true, or_parts}
use Rattle.land_core.specs.Entries.{are_distinct}

-- if no item passes a test, none passes a stronger one
pub none_fewer : {X : Type 0} (p q : X → Bool) (xs : List X) → AllByRecursion (λ x. p x ≡ true → q x ≡ true) xs
    → list_any q xs ≡ false → list_any p xs ≡ false
none_fewer p q [] harder none = refl
none_fewer p q (x ∷ xs) harder none =
    let parts = or_parts (q x) (list_any q xs) none in
    go (p x) refl parts.0 (none_fewer p q xs harder.1 parts.1)
  where
    go : (b : Bool) → p x ≡ b → q x ≡ false → list_any p xs ≡ false → (b || list_any p xs) ≡ false
    go true is fails rest = absurd (false≢true (sym fails ∙ harder.0 is))
    go false is fails rest = rest

-- if no two items pass a test together, no two pass a stronger one
pub distinct_fewer : {X : Type 0} (p q : X → X → Bool) → ((x y : X) → p x y ≡ true → q x y ≡ true) → (xs : List X)
    → are_distinct q xs ≡ true → are_distinct p xs ≡ true
distinct_fewer p q harder [] distinct = refl
distinct_fewer {X} p q harder (x ∷ xs) distinct =
    let parts = and_parts (not (list_any (q x) xs)) (are_distinct q xs) distinct in
    and_from (not (list_any (p x) xs)) (are_distinct p xs)
    (ap not (none_fewer (p x) (q x) xs (each xs) (not-true (list_any (q x) xs) parts.0))) (distinct_fewer p q harder xs parts.1)
  where
    each : (ys : List X) → AllByRecursion (λ y. p x y ≡ true → q x y ≡ true) ys
    each [] = tt
    each (y ∷ ys) = (harder x y, each ys)
