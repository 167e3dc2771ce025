-- One of the elements of a list
use Rattle.std.proofs.Common.{◌≡◌, ℕ, ◌+◌, ◌<◌, List, [], ◌∷◌, ◌++◌, length, take, get_or, sym, ap, ◌∙◌, arith, inl, inr, ◌⊎◌, subst, zero, suc, Bool, true, false}
use Rattle.std.proofs.lemmas.List.{take_more}
use Rattle.land_shape.specs.Faults.{SomeOf}

pub some_at : {X : Type 0} (P : X → Type 0) (xs : List X) (x : X) (i : ℕ) → i < length xs → x ≡ get_or xs i x → P x → SomeOf P xs
some_at P [] x i h is p = absurd (omega arith)
some_at P (y ∷ xs) x zero h is p = inl (subst P is p)
some_at P (y ∷ xs) x (suc i) h is p = inr (some_at P xs x i (omega arith) is p)

pub some_of-append : {X : Type 0} (P : X → Type 0) (xs ys : List X) → SomeOf P (xs ++ ys) → SomeOf P xs ⊎ SomeOf P ys
some_of-append P [] ys h = inr h
some_of-append P (x ∷ xs) ys (inl p) = inl (inl p)
some_of-append P (x ∷ xs) ys (inr h) = elim (some_of-append P xs ys h) [ inl p ↦ inl (inr p) | inr p ↦ inr p ]

pub none_more : {X : Type 0} (P : X → Type 0) (xs : List X) (x : X) (i : ℕ) → i < length xs → x ≡ get_or xs i x
    → ¬ SomeOf P (take i xs) → ¬ P x → ¬ SomeOf P (take (i + 1) xs)
none_more {X} P xs x i h is none not_here some =
    let e : take (i + 1) xs ≡ take i xs ++ x ∷ [] = take_more xs i x h ∙ ap (λ (y : X). take i xs ++ y ∷ []) (sym is) in
    elim (some_of-append P (take i xs) (x ∷ []) (rw e at some)) [
      | inl p ↦ none p
      | inr p ↦ elim p [ inl q ↦ not_here q | inr q ↦ q ]
    ]

pub not_both : {b : Bool} → b ≡ true → b ≡ false → ⊥
not_both t f = let e : true ≡ false = sym t ∙ f in cc e
