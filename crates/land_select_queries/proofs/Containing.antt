-- Membership in lists.
use Rattle.std.proofs.Common.{◌≡◌, ◌⊎◌, inl, inr, ℕ, zero, suc, ◌<◌, Bool, ◌||◌, List, [], ◌∷◌, flat_map, length, map as map_list, refl, sym, subst, arith}
use Rattle.std.proofs.lemmas.Bool.{false≢true}
use Rattle.std.proofs.lemmas.Bool.Decides.{Decides-like, Decides-or}
use Rattle.std.proofs.lemmas.List.Elements.{Contains-append_cases, Contains-append_left, Contains-append_right}
use Rattle.std.specs.Bool.{Decides}
use Rattle.std.specs.List.{Contains, list_any, slice_index_or}

module _ {X : Type 0} where
  pub in_nothing : (x : X) → Contains [] x → ⊥
  in_nothing x h = let lt = h.1 in omega (arith, lt)

  pub first : (x : X) (xs : List X) → Contains (x ∷ xs) x
  first x xs = (0, omega arith, refl)

  pub later : (y : X) (xs : List X) (x : X) → Contains xs x → Contains (y ∷ xs) x
  later y xs x h = let lt = h.1 in (suc h.0, omega (arith, lt), h.2)

  pub first_or_later : (y : X) (xs : List X) (x : X) → Contains (y ∷ xs) x → (y ≡ x) ⊎ Contains xs x
  first_or_later y xs x h = go h.0 h.1 h.2
    where
      go : (k : ℕ) → k < length (y ∷ xs) → slice_index_or (y ∷ xs) k x ≡ x → (y ≡ x) ⊎ Contains xs x
      go zero lt e = inl e
      go (suc k) lt e = inr (k, omega (arith, lt), e)

-- some item passes a test
pub any_decides : {X : Type 0} (p : X → Bool) (P : X → Type 0) (xs : List X) → ((x : X) → Contains xs x → Decides (p x) (P x)) → Decides (list_any p xs) ((x : X) × Contains xs x × P x)
any_decides p P [] each = ((λ h. absurd (false≢true h)), (λ h. absurd (in_nothing h.0 h.1)))
any_decides p P (y ∷ ys) each =
    Decides-like (p y || list_any p ys)
    (λ h. elim h [ inl here ↦ (y, first y ys, here) | inr there ↦ (there.0, later y ys there.0 there.1, there.2) ])
    (λ h. elim (first_or_later y ys h.0 h.1) [ inl same ↦ inl (subst P (sym same) h.2) | inr more ↦ inr (h.0, more, h.2) ])
    (Decides-or (p y) (list_any p ys) (each y (first y ys)) (any_decides p P ys (λ x h. each x (later y ys x h))))

module _ {X Y : Type 0} where
  pub from_map : (f : X → Y) (xs : List X) (y : Y) → Contains (map_list f xs) y → (x : X) × Contains xs x × (f x ≡ y)
  from_map f [] y h = absurd (in_nothing y h)
  from_map f (x ∷ xs) y h = elim (first_or_later (f x) (map_list f xs) y h) [
    | inl same ↦ (x, first x xs, same)
    | inr more ↦ let it = from_map f xs y more in (it.0, later x xs it.0 it.1, it.2)
  ]

  pub to_map : (f : X → Y) (xs : List X) (x : X) → Contains xs x → Contains (map_list f xs) (f x)
  to_map f [] x h = absurd (in_nothing x h)
  to_map f (y ∷ ys) x h = elim (first_or_later y ys x h) [
    | inl same ↦ subst (λ z. Contains (map_list f (y ∷ ys)) (f z)) same (first (f y) (map_list f ys))
    | inr more ↦ later (f y) (map_list f ys) (f x) (to_map f ys x more)
  ]

  pub from_flat_map : (f : X → List Y) (xs : List X) (y : Y) → Contains (flat_map f xs) y → (x : X) × Contains xs x × Contains (f x) y
  from_flat_map f [] y h = absurd (in_nothing y h)
  from_flat_map f (x ∷ xs) y h = elim (Contains-append_cases (f x) (flat_map f xs) y h) [
    | inl here ↦ (x, first x xs, here)
    | inr more ↦ let it = from_flat_map f xs y more in (it.0, later x xs it.0 it.1, it.2)
  ]

  pub to_flat_map : (f : X → List Y) (xs : List X) (x : X) (y : Y) → Contains xs x → Contains (f x) y → Contains (flat_map f xs) y
  to_flat_map f [] x y h has = absurd (in_nothing x h)
  to_flat_map f (z ∷ zs) x y h has = elim (first_or_later z zs x h) [
    | inl same ↦ Contains-append_left (f z) (flat_map f zs) y (subst (λ w. Contains (f w) y) (sym same) has)
    | inr more ↦ Contains-append_right (f z) (flat_map f zs) y (to_flat_map f zs x y more has)
  ]
