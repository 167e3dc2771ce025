-- Lists without repeated elements: two such lists with the same elements are permutations of each other.
use Rattle.std.proofs.Common.{◌≡◌, ◌≢◌, Bool, true, false, cond, ◌⊎◌, List, [], ◌∷◌, ◌++◌, filter, inl, inr}
use Rattle.std.proofs.Common.{refl, sym, ap, subst, IsPermutation}
use Rattle.std.specs.Prelude.{⊤}
use Rattle.std.proofs.lemmas.List.Sorted.{IsPermutation-cons, IsPermutation-middle, IsPermutation-refl}
use Rattle.std.proofs.lemmas.List.Sorted.{IsPermutation-sym, IsPermutation-trans}
use Rattle.land_digest.proofs.Membership.{In, from_filter, in_either, in_left, in_right}

-- no element occurs again later
abbrev pub HasNoRepeat : {X : Type 0} → List X → Type 0
HasNoRepeat [] = ⊤
HasNoRepeat (x ∷ xs) = (In x xs → ⊥) × HasNoRepeat xs

record Split {X : Type 0} (x : X) (ys : List X) : Type 0 where
  left : List X
  right : List X
  is : ys ≡ left ++ x ∷ right

split : {X : Type 0} (x : X) (ys : List X) → In x ys → Split x ys
split x [] h = elim h [ ]
split x (y ∷ ys) (inl e) = record { left = []; right = ys; is = ap (λ z. z ∷ ys) e }
split x (y ∷ ys) (inr h) = let s = split x ys h in
    record { left = y ∷ s.left; right = s.right; is = ap (λ l. y ∷ l) s.is }

around : {X : Type 0} (z x : X) (xs ys : List X) → In z (xs ++ ys) → In z (xs ++ x ∷ ys)
around z x xs ys h =
    elim (in_either z xs ys h) [ inl a ↦ in_left z xs (x ∷ ys) a | inr b ↦ in_right z xs (x ∷ ys) (inr b) ]

no_repeat_split : {X : Type 0} (x : X) (xs ys : List X) → HasNoRepeat (xs ++ x ∷ ys) → HasNoRepeat (xs ++ ys)
    × (In x (xs ++ ys) → ⊥)
no_repeat_split x [] ys h = (h.1, h.0)
no_repeat_split {X} x (z ∷ xs) ys h =
    let rest = no_repeat_split x xs ys h.1 in
    ((λ i. h.0 (around z x xs ys i), rest.0), other rest.1)
  where
    other : (In x (xs ++ ys) → ⊥) → In x (z ∷ (xs ++ ys)) → ⊥
    other apart_from (inl e) = h.0 (in_right z xs (x ∷ ys) (inl (sym e)))
    other apart_from (inr i) = apart_from i

abbrev pub IsWithin : {X : Type 0} → List X → List X → Type 0
IsWithin {X} xs ys = (z : X) → In z xs → In z ys

pub same_elements : {X : Type 0} (xs ys : List X) → HasNoRepeat xs → HasNoRepeat ys → IsWithin xs ys
    → IsWithin ys xs → IsPermutation xs ys
same_elements [] [] ox oy there here = IsPermutation-refl []
same_elements [] (y ∷ ys) ox oy there here = absurd (here y (inl refl))
same_elements {X} (x ∷ xs) ys ox oy there here =
    IsPermutation-trans (x ∷ xs) (x ∷ (s.left ++ s.right)) ys
    (IsPermutation-cons x xs (s.left ++ s.right)
    (same_elements xs (s.left ++ s.right) ox.1 parts.0 forth back))
    (subst (λ l. IsPermutation (x ∷ (s.left ++ s.right)) l) (sym s.is)
    (IsPermutation-sym (s.left ++ x ∷ s.right) (x ∷ (s.left ++ s.right))
    (IsPermutation-middle s.left x s.right)))
  where
    s : Split x ys
    s = split x ys (there x (inl refl))

    parts : HasNoRepeat (s.left ++ s.right) × (In x (s.left ++ s.right) → ⊥)
    parts = no_repeat_split x s.left s.right (subst HasNoRepeat s.is oy)

    apart : (z : X) → In z xs → x ≢ z
    apart z i e = ox.0 (subst (λ u. In u xs) (sym e) i)

    merged : (z : X) → x ≢ z → In z s.left ⊎ In z (x ∷ s.right) → In z (s.left ++ s.right)
    merged z apart_from (inl a) = in_left z s.left s.right a
    merged z apart_from (inr (inl e)) = absurd (apart_from e)
    merged z apart_from (inr (inr b)) = in_right z s.left s.right b

    forth : (z : X) → In z xs → In z (s.left ++ s.right)
    forth z i =
        merged z (apart z i) (in_either z s.left (x ∷ s.right) (subst (λ l. In z l) s.is (there z (inr i))))

    rest : (z : X) → In z (s.left ++ s.right) → In z (x ∷ xs) → In z xs
    rest z i (inl e) = absurd (parts.1 (subst (λ u. In u (s.left ++ s.right)) (sym e) i))
    rest z i (inr k) = k

    back : (z : X) → In z (s.left ++ s.right) → In z xs
    back z i = rest z i (here z (subst (λ l. In z l) (sym s.is) (around z x s.left s.right i)))

pub no_repeat_filter : {X : Type 0} (p : X → Bool) (xs : List X) → HasNoRepeat xs → HasNoRepeat (filter p xs)
no_repeat_filter p [] h = tt
no_repeat_filter p (x ∷ xs) h =
    let rest = no_repeat_filter p xs h.1 in
    elim (p x) as (λ b. HasNoRepeat (cond b (x ∷ filter p xs) (filter p xs))) [
      | true ↦
          (λ i. h.0 (from_filter p x xs i).0, rest)
      | false ↦ rest
    ]
