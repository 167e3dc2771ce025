-- Membership of lists: through map, filter, flat_map, concatenation and ordering, in both directions.
use Rattle.std.proofs.Common.{◌≡◌, Bool, true, false, cond, ◌⊎◌, List, [], ◌∷◌, ◌++◌, filter, flat_map}
use Rattle.std.proofs.Common.{map as map_list, inl, inr, refl, sym, ap, ◌∙◌, subst}
use Rattle.land_digest.specs.Events.{Event, comes_before, insert_event, in_order}

-- an element occurs in a list
abbrev pub In : {X : Type 0} → X → List X → Type 0
In x [] = ⊥
In x (y ∷ ys) = (y ≡ x) ⊎ In x ys

pub in_map : {X Y : Type 0} (f : X → Y) (x : X) (xs : List X) → In x xs → In (f x) (map_list f xs)
in_map f x [] h = elim h [ ]
in_map f x (y ∷ ys) (inl e) = inl (ap f e)
in_map f x (y ∷ ys) (inr h) = inr (in_map f x ys h)

pub from_map : {X Y : Type 0} (f : X → Y) (y : Y) (xs : List X) → In y (map_list f xs) → (x : X) × In x xs
    × (f x ≡ y)
from_map f y [] h = elim h [ ]
from_map f y (x ∷ xs) (inl e) = (x, inl refl, e)
from_map f y (x ∷ xs) (inr h) = let r = from_map f y xs h in (r.0, inr r.1, r.2)

pub in_left : {X : Type 0} (x : X) (xs ys : List X) → In x xs → In x (xs ++ ys)
in_left x [] ys h = elim h [ ]
in_left x (y ∷ xs) ys (inl e) = inl e
in_left x (y ∷ xs) ys (inr h) = inr (in_left x xs ys h)

pub in_right : {X : Type 0} (x : X) (xs ys : List X) → In x ys → In x (xs ++ ys)
in_right x [] ys h = h
in_right x (y ∷ xs) ys h = inr (in_right x xs ys h)

pub in_either : {X : Type 0} (x : X) (xs ys : List X) → In x (xs ++ ys) → In x xs ⊎ In x ys
in_either x [] ys h = inr h
in_either x (y ∷ xs) ys (inl e) = inl (inl e)
in_either x (y ∷ xs) ys (inr h) = elim (in_either x xs ys h) [ inl a ↦ inl (inr a) | inr b ↦ inr b ]

pub in_filter : {X : Type 0} (p : X → Bool) (x : X) (xs : List X) → In x xs → p x ≡ true → In x (filter p xs)
in_filter p x [] h holds = h
in_filter p x (y ∷ ys) (inl e) holds =
    subst (λ b. In x (cond b (y ∷ filter p ys) (filter p ys))) (sym (ap p e ∙ holds)) (inl e)
in_filter p x (y ∷ ys) (inr h) holds =
    let k = in_filter p x ys h holds in
    elim (p y) as (λ b. In x (cond b (y ∷ filter p ys) (filter p ys))) [ true ↦ inr k | false ↦ k ]

pub from_filter : {X : Type 0} (p : X → Bool) (x : X) (xs : List X) → In x (filter p xs) → In x xs
    × (p x ≡ true)
from_filter p x [] h = elim h [ ]
from_filter {X} p x (y ∷ ys) h = go (p y) refl h (λ k. from_filter p x ys k)
  where
    go : (b : Bool) → p y ≡ b → In x (cond b (y ∷ filter p ys) (filter p ys))
        → (In x (filter p ys) → In x ys × (p x ≡ true)) → In x (y ∷ ys) × (p x ≡ true)
    go true is (inl e) rest = (inl e, ap p (sym e) ∙ is)
    go true is (inr k) rest = let r = rest k in (inr r.0, r.1)
    go false is k rest = let r = rest k in (inr r.0, r.1)

-- ---- ordered lists

pub in_insert : (z x : Event) (ys : List Event) → In z (x ∷ ys) → In z (insert_event x ys)
in_insert z x [] h = h
in_insert z x (y ∷ ys) h =
    elim (comes_before x y) as (λ b. In z
    (cond b (x ∷ y ∷ ys) (y ∷ insert_event x ys))) [ true ↦ h | false ↦ go h (λ k. in_insert z x ys k) ]
  where
    go : In z (x ∷ y ∷ ys) → (In z (x ∷ ys) → In z (insert_event x ys)) → In z (y ∷ insert_event x ys)
    go (inl e) rest = inr (rest (inl e))
    go (inr (inl e)) rest = inl e
    go (inr (inr k)) rest = inr (rest (inr k))

pub from_insert : (z x : Event) (ys : List Event) → In z (insert_event x ys) → In z (x ∷ ys)
from_insert z x [] h = h
from_insert z x (y ∷ ys) h = go (comes_before x y) h (λ k. from_insert z x ys k)
  where
    turn : In z (x ∷ ys) → In z (x ∷ y ∷ ys)
    turn (inl e) = inl e
    turn (inr k) = inr (inr k)

    go : (b : Bool) → In z (cond b (x ∷ y ∷ ys) (y ∷ insert_event x ys))
        → (In z (insert_event x ys) → In z (x ∷ ys)) → In z (x ∷ y ∷ ys)
    go true k rest = k
    go false (inl e) rest = inr (inl e)
    go false (inr k) rest = turn (rest k)

pub in_in_order : (z : Event) (xs : List Event) → In z xs → In z (in_order xs)
in_in_order z [] h = h
in_in_order z (x ∷ xs) (inl e) = in_insert z x (in_order xs) (inl e)
in_in_order z (x ∷ xs) (inr h) = in_insert z x (in_order xs) (inr (in_in_order z xs h))

pub from_in_order : (z : Event) (xs : List Event) → In z (in_order xs) → In z xs
from_in_order z [] h = h
from_in_order z (x ∷ xs) h = go (from_insert z x (in_order xs) h) (λ k. from_in_order z xs k)
  where
    go : In z (x ∷ in_order xs) → (In z (in_order xs) → In z xs) → In z (x ∷ xs)
    go (inl e) rest = inl e
    go (inr k) rest = inr (rest k)

-- ---- flat_map

pub in_flat_map : {X Y : Type 0} (f : X → List Y) (x : X) (y : Y) (xs : List X) → In x xs → In y (f x)
    → In y (flat_map f xs)
in_flat_map f x y [] h i = elim h [ ]
in_flat_map f x y (z ∷ xs) (inl e) i = in_left y (f z) (flat_map f xs) (subst (λ u. In y (f u)) (sym e) i)
in_flat_map f x y (z ∷ xs) (inr h) i = in_right y (f z) (flat_map f xs) (in_flat_map f x y xs h i)

pub from_flat_map : {X Y : Type 0} (f : X → List Y) (y : Y) (xs : List X) → In y (flat_map f xs) → (x : X)
    × In x xs × In y (f x)
from_flat_map f y [] h = elim h [ ]
from_flat_map f y (z ∷ xs) h =
    elim (in_either y (f z) (flat_map f xs) h) [
      | inl a ↦ (z, inl refl, a)
      | inr b ↦ let r =
          from_flat_map f y xs b in (r.0, inr r.1, r.2)
    ]
