-- Events with distinct places have one order, which a sort by place returns.
use Rattle.std.proofs.Common.{◌≡◌, ◌≢◌, ℕ, zero, suc, ◌<◌, Bool, true, false, cond, not, ◌&&◌, ◌||◌, List, []}
use Rattle.std.proofs.Common.{◌∷◌, length, get_or, set, swap, inl, inr, refl, sym, ap, ap₂, ◌∙◌, arith}
use Rattle.std.proofs.Common.{IsPermutation}
use Rattle.std.proofs.lemmas.Bool.{false≢true, and_parts, not-true}
use Rattle.std.proofs.lemmas.Cmp.{int_cmp_total, nat_cmp_total, on_total, then_total, tied_itself}
use Rattle.std.proofs.lemmas.List.Sorted.{IsPermutation-keeps, IsPermutation-sym}
use Rattle.std.specs.Cmp.{IsTotalOrder}
use Rattle.std.specs.List.{list_any}
use Rattle.std.specs.Ordering.{is_eq, is_lt, ordering_reverse}
use Rattle.std.specs.Prelude.{⊤}
use Rattle.std.specs.declared.cmp.Ordering.{Ordering}
use Rattle.std.specs.declared.cmp.Ordering.TheVariants.{Less, Equal, Greater}
use Rattle.land_digest.proofs.Membership.{In, from_in_order, from_insert, in_in_order}
use Rattle.land_digest.proofs.NoRepeats.{IsWithin}
use Rattle.land_digest.proofs.OneTable.{none_in}
use Rattle.land_digest.specs.Events.{Event, event_cmp, have_distinct_places, in_order, insert_event}
use Rattle.land_digest.specs.Events.{is_same_event_place}

pub total : IsTotalOrder event_cmp
total =
    then_total
    (then_total
    (then_total
    (then_total (on_total (λ (e : Event). e.stamp) int_cmp_total)
    (on_total (λ (e : Event). e.ends) nat_cmp_total)) (on_total (λ (e : Event). e.table) nat_cmp_total))
    (on_total (λ (e : Event). e.first) nat_cmp_total)) (on_total (λ (e : Event). e.second) nat_cmp_total)

-- each event comes before all later ones
abbrev pub Up : List Event → Type 0
Up [] = ⊤
Up (x ∷ xs) = ((y : Event) → In y xs → event_cmp x y ≡ Less) × Up xs

not_less_itself : (x y : Event) → x ≡ y → event_cmp x y ≢ Less
not_less_itself x y e h = false≢true (ap is_lt (sym (tied_itself total x) ∙ ap (event_cmp x) e ∙ h))

not_both : (x y : Event) → event_cmp x y ≡ Less → event_cmp y x ≢ Less
not_both x y h g = false≢true (ap is_lt (sym (total.antisymm x y ∙ ap ordering_reverse g) ∙ h))

-- two ordered lists with the same elements are equal
pub same_up : (xs ys : List Event) → Up xs → Up ys → IsWithin xs ys → IsWithin ys xs → xs ≡ ys
same_up [] [] u v to from = refl
same_up [] (y ∷ ys) u v to from = absurd (from y (inl refl))
same_up (x ∷ xs) [] u v to from = absurd (to x (inl refl))
same_up (x ∷ xs) (y ∷ ys) u v to from =
    ap₂ (λ z zs. z ∷ zs) first
    (same_up xs ys u.1 v.1 (λ z i. rest xs ys x y first u.0 z i (to z (inr i)))
    (λ z i. rest ys xs y x (sym first) v.0 z i (from z (inr i))))
  where
    head : In x (y ∷ ys) → In y (x ∷ xs) → x ≡ y
    head (inl e) j = sym e
    head (inr i) (inl e) = e
    head (inr i) (inr j) = absurd (not_both x y (u.0 y j) (v.0 x i))

    first : x ≡ y
    first = head (to x (inl refl)) (from y (inl refl))

    rest : (cs bs : List Event) (a b : Event) → a ≡ b → ((z : Event) → In z cs → event_cmp a z ≡ Less)
        → (z : Event) → In z cs → In z (b ∷ bs) → In z bs
    rest cs bs a b e low z i (inl f) = absurd (not_less_itself a z (e ∙ f) (low z i))
    rest cs bs a b e low z i (inr k) = k

-- ---- ordered lists are ordered

less_from : (x y : Event) → is_lt (event_cmp y x) ≡ false → is_eq (event_cmp y x) ≡ false → event_cmp x y
    ≡ Less
less_from x y h g = total.antisymm x y ∙ ap ordering_reverse (go (event_cmp y x) h g)
  where
    go : (o : Ordering) → is_lt o ≡ false → is_eq o ≡ false → o ≡ Greater
    go Less h g = absurd (false≢true (sym h))
    go Equal h g = absurd (false≢true (sym g))
    go Greater h g = refl

put_up : (x : Event) (ys : List Event) → ((y : Event) → In y ys → is_same_event_place x y ≡ false) → Up ys
    → Up (insert_event x ys)
put_up x [] apart up = (λ y i. absurd i, tt)
put_up x (y ∷ ys) apart up = go (event_cmp x y) refl (put_up x ys (λ z i. apart z (inr i)) up.1)
  where
    over : (o : Ordering) → event_cmp x y ≡ o → o ≡ Less → (z : Event) → In z (y ∷ ys) → event_cmp x z ≡ Less
    over o is e z (inl f) = ap (event_cmp x) (sym f) ∙ is ∙ e
    over o is e z (inr i) = total.trans x y z (is ∙ e) (up.0 z i)

    under : event_cmp x y ≡ Greater → (z : Event) → In z (x ∷ ys) → event_cmp y z ≡ Less
    under is z (inl f) = ap (event_cmp y) (sym f) ∙ total.antisymm y x ∙ ap ordering_reverse is
    under is z (inr i) = up.0 z i

    go : (o : Ordering) → event_cmp x y ≡ o → Up (insert_event x ys)
        → Up (cond (is_lt o) (x ∷ y ∷ ys) (y ∷ insert_event x ys))
    go Less is rest = (over Less is refl, up)
    go Equal is rest = absurd (false≢true (sym (apart y (inl refl)) ∙ ap is_eq is))
    go Greater is rest = (λ z i. under is z (from_insert z x ys i), rest)

pub up_in_order : (xs : List Event) → have_distinct_places xs ≡ true → Up (in_order xs)
up_in_order [] h = tt
up_in_order (x ∷ xs) h =
    let parts = and_parts (not (list_any (is_same_event_place x) xs)) (have_distinct_places xs) h in
    put_up x (in_order xs)
    (λ y i. none_in (is_same_event_place x) y xs (not-true (list_any (is_same_event_place x) xs) parts.0)
    (from_in_order y xs i)) (up_in_order xs parts.1)

-- ---- permutations

or_turned : (a b c : Bool) → (a || (b || c)) ≡ (b || (a || c))
or_turned a b c = grind arith

both_turned : (a b c d : Bool) → (not (a || c) && (not b && d)) ≡ (not (a || b) && (not c && d))
both_turned a b c d = grind arith

eq_back : (o : Ordering) → is_eq (ordering_reverse o) ≡ is_eq o
eq_back Less = refl
eq_back Equal = refl
eq_back Greater = refl

flips : (x y : Event) → is_same_event_place x y ≡ is_same_event_place y x
flips x y = ap is_eq (total.antisymm x y) ∙ eq_back (event_cmp y x)

module _ {X : Type 0} (R : List X → List X → Type 0) (same : (xs : List X) → R xs xs)
    (skip : (x : X) (xs ys : List X) → R xs ys → R (x ∷ xs) (x ∷ ys))
    (turn : (x y : X) (xs : List X) → R (x ∷ y ∷ xs) (y ∷ x ∷ xs))
    (chain : (xs ys zs : List X) → R xs ys → R ys zs → R xs zs) where
  to_head : (l : List X) (j : ℕ) (x d : X) → j < length l → R (x ∷ l) (get_or l j d ∷ set l j x)
  to_head [] j x d h = absurd (omega arith)
  to_head (y ∷ l) zero x d h = turn x y l
  to_head (y ∷ l) (suc j) x d h =
      chain _ _ _ (turn x y l)
      (chain _ _ _ (skip y _ _ (to_head l j x d (omega arith))) (turn y (get_or l j d) (set l j x)))

  exchanged : (l : List X) (i j : ℕ) (d : X) → i < length l → j < length l
      → R l (set (set l i (get_or l j d)) j (get_or l i d))
  exchanged [] i j d p q = absurd (omega arith)
  exchanged (x ∷ l) zero zero d p q = same (x ∷ l)
  exchanged (x ∷ l) zero (suc j) d p q = to_head l j x d (omega arith)
  exchanged (x ∷ l) (suc i) zero d p q = to_head l i x d (omega arith)
  exchanged (x ∷ l) (suc i) (suc j) d p q = skip x _ _ (exchanged l i j d (omega arith) (omega arith))

  swapped : (l : List X) (i j : ℕ) → i < length l → j < length l → R l (swap l i j)
  swapped [] i j p q = same []
  swapped (x ∷ l) i j p q = exchanged (x ∷ l) i j x p q

  pub along_permutation : (xs ys : List X) → IsPermutation xs ys → R xs ys
  along_permutation xs =
      IsPermutation-keeps xs (R xs) (same xs) (λ l i j p q h. chain xs l _ h (swapped l i j p q))

pub record HaveSamePlaces (xs ys : List Event) : Type 0 where
  pub met : (x : Event) → list_any (is_same_event_place x) ys ≡ list_any (is_same_event_place x) xs
  pub apart : have_distinct_places ys ≡ have_distinct_places xs
  pub to : IsWithin xs ys

pub permuted : (xs ys : List Event) → IsPermutation xs ys → HaveSamePlaces xs ys
permuted = along_permutation HaveSamePlaces itself under over chained
  where
    itself : (xs : List Event) → HaveSamePlaces xs xs
    itself xs = record { met = λ x. refl; apart = refl; to = λ z i. i }

    under_in : (x : Event) (xs ys : List Event) → IsWithin xs ys → (z : Event) → In z (x ∷ xs) → In z (x ∷ ys)
    under_in x xs ys to z (inl e) = inl e
    under_in x xs ys to z (inr i) = inr (to z i)

    under : (x : Event) (xs ys : List Event) → HaveSamePlaces xs ys → HaveSamePlaces (x ∷ xs) (x ∷ ys)
    under x xs ys h =
        record {
          met = λ q. ap (λ b. is_same_event_place q x || b) (h.met q);
          apart =
              ap₂ (λ a b. not a && b) (h.met x) h.apart;
          to = under_in x xs ys h.to;
        }

    over_in : (x y : Event) (xs : List Event) (z : Event) → In z (x ∷ y ∷ xs) → In z (y ∷ x ∷ xs)
    over_in x y xs z (inl e) = inr (inl e)
    over_in x y xs z (inr (inl e)) = inl e
    over_in x y xs z (inr (inr i)) = inr (inr i)

    over : (x y : Event) (xs : List Event) → HaveSamePlaces (x ∷ y ∷ xs) (y ∷ x ∷ xs)
    over x y xs = record {
      met = λ q. or_turned (is_same_event_place q y) (is_same_event_place q x) (list_any (is_same_event_place q) xs);
      apart =
          ap (λ a. not (a || list_any (is_same_event_place y) xs)
          && (not (list_any (is_same_event_place x) xs) && have_distinct_places xs)) (flips y x)
          ∙ both_turned (is_same_event_place x y) (list_any (is_same_event_place x) xs) (list_any (is_same_event_place y) xs)
          (have_distinct_places xs);
      to = over_in x y xs;
    }

    chained : (xs ys zs : List Event) → HaveSamePlaces xs ys → HaveSamePlaces ys zs → HaveSamePlaces xs zs
    chained xs ys zs g h =
        record { met = λ q. h.met q ∙ g.met q; apart = h.apart ∙ g.apart; to = λ z i. h.to z (g.to z i) }

-- permutations have the same order
pub in_order_permuted : (xs ys : List Event) → IsPermutation xs ys → have_distinct_places xs ≡ true
    → in_order xs ≡ in_order ys
in_order_permuted xs ys p apart =
    let there = permuted xs ys p in
    let here = permuted ys xs (IsPermutation-sym xs ys p) in
    same_up (in_order xs) (in_order ys) (up_in_order xs apart) (up_in_order ys (there.apart ∙ apart))
    (λ z i. in_in_order z ys (there.to z (from_in_order z xs i)))
    (λ z i. in_in_order z xs (here.to z (from_in_order z ys i)))

-- no later event comes before an earlier one
abbrev pub NoneBefore : List Event → Type 0
NoneBefore [] = ⊤
NoneBefore (x ∷ xs) = ((y : Event) → In y xs → is_lt (event_cmp y x) ≡ false) × NoneBefore xs

pub up_from : (xs : List Event) → NoneBefore xs → have_distinct_places xs ≡ true → Up xs
up_from [] h apart = tt
up_from (x ∷ xs) h apart =
    let parts = and_parts (not (list_any (is_same_event_place x) xs)) (have_distinct_places xs) apart in (
      λ y i. less_from x y (h.0 y i) (flips y x
          ∙ none_in (is_same_event_place x) y xs (not-true (list_any (is_same_event_place x) xs) parts.0) i),
      up_from xs h.1 parts.1,
    )
