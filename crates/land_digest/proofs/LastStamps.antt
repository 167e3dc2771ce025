-- The last stamp that passes a test does not depend on the order of the moments.
use Rattle.std.proofs.Common.{◌≡◌, ◌⊎◌, inl, inr, ℕ, ℤ, pos, ◌<◌, Bool, true, false, ◌&&◌, if◌then◌else◌, List, [], ◌∷◌, Option, Some, None, refl, sym, ap, ◌∙◌, subst, arith, zero, suc, IsPermutation}
use Rattle.std.proofs.lemmas.Bool.{false≢true}
use Rattle.std.proofs.lemmas.Int.{ints}
use Rattle.std.proofs.lemmas.List.Elements.{All-from_recursion, recursion_from_All}
use Rattle.std.proofs.lemmas.List.Sorted.{All-permutation, Contains-permutation, IsPermutation-sym}
use Rattle.std.specs.List.{AllByRecursion, Contains}
use Rattle.std.specs.Option.{option_map_or}
use Rattle.std.specs.Prelude.{int_le, ◌≤ℤ◌}
use Rattle.land_digest.specs.Stamps.{last_stamp_at, LastStampIgnoresOrder}
use Rattle.land_tables_history.specs.Moments.{latest, latest_from}
use Rattle.land_tables_history.specs.declared.moment.Moment.{Moment}

-- a property of all elements is one of each
at_member : {X : Type 0} (P : X → Type 0) (xs : List X) (x : X) → AllByRecursion P xs → Contains xs x → P x
at_member P [] x all (k, lt, e) = absurd (omega (arith, lt))
at_member P (y ∷ ys) x all (zero, lt, e) = subst P e all.0
at_member P (y ∷ ys) x all (suc k, lt, e) = at_member P ys x all.1 (k, omega (arith, lt), e)

moved : {X : Type 0} (P : X → Type 0) (xs ys : List X) → IsPermutation xs ys → AllByRecursion P xs → AllByRecursion P ys
moved P xs ys same all = recursion_from_All P ys (All-permutation P xs ys same (All-from_recursion P xs all))

le_itself : (t : ℤ) → t ≤ℤ t
le_itself t = grind (arith, ints)

le_through : (s t u : ℤ) → s ≤ℤ t → t ≤ℤ u → s ≤ℤ u
le_through s t u a b = grind (arith, ints)

le_from : (s t : ℤ) → int_le s t ≡ true → s ≤ℤ t
le_from s t h = grind (arith, ints)

gt_from : (s t : ℤ) → int_le s t ≡ false → t ≤ℤ s
gt_from s t h = grind (arith, ints)

both_ways : (s t : ℤ) → s ≤ℤ t → t ≤ℤ s → s ≡ t
both_ways s t a b = grind (arith, ints)

module _ (p : Moment → Bool) where
  -- a moment is not after this one, if it passes
  abbrev IsBefore : Moment → Moment → Type 0
  IsBefore m x = p x ≡ true → x.stamp ≤ℤ m.stamp

  -- the moment found before the list is not after this one
  abbrev IsFoundBefore : Option Moment → Moment → Type 0
  IsFoundBefore None m = Unit {0}
  IsFoundBefore (Some f) m = f.stamp ≤ℤ m.stamp

  -- what the search finds in a list, from what was found before
  abbrev IsLatestFrom : (found : Option Moment) → List Moment → Option Moment → Type 0
  IsLatestFrom found xs None = (found ≡ None) × AllByRecursion (λ x. p x ≡ false) xs
  IsLatestFrom found xs (Some m) =
      ((found ≡ Some m) ⊎ (Contains xs m × (p m ≡ true))) × AllByRecursion (IsBefore m) xs × IsFoundBefore found m

  later : (y : Moment) (xs : List Moment) (x : Moment) → Contains xs x → Contains (y ∷ xs) x
  later y xs x h = let lt = h.1 in (suc h.0, omega (arith, lt), h.2)

  first : (x : Moment) (xs : List Moment) → Contains (x ∷ xs) x
  first x xs = (0, omega arith, refl)

  -- the next moment is not found, and found moments are not before it
  skipped : (found : Option Moment) (x : Moment) (xs : List Moment) (o : Option Moment) → p x ≡ false → IsLatestFrom found xs o → IsLatestFrom found (x ∷ xs) o
  skipped found x xs None not it = (it.0, (not, it.1))
  skipped found x xs (Some m) not it = (
    elim it.0 [ inl same ↦ inl same | inr some ↦ inr (later x xs m some.0, some.1) ],
    ((λ yes. absurd (false≢true (sym not ∙ yes))), it.1),
    it.2,
  )

  passed_over : (f x : Moment) (xs : List Moment) (o : Option Moment) → x.stamp ≤ℤ f.stamp → IsLatestFrom (Some f) xs o → IsLatestFrom (Some f) (x ∷ xs) o
  passed_over f x xs None low it = absurd (let e = it.0 in cc)
  passed_over f x xs (Some m) low it = (
    elim it.0 [ inl same ↦ inl same | inr some ↦ inr (later x xs m some.0, some.1) ],
    ((λ yes. le_through x.stamp f.stamp m.stamp low it.2), it.1),
    it.2,
  )

  taken : (found : Option Moment) (x : Moment) (xs : List Moment) (o : Option Moment) → p x ≡ true → IsFoundBefore found x → IsLatestFrom (Some x) xs o → IsLatestFrom found (x ∷ xs) o
  taken found x xs None passes low it = absurd (let e = it.0 in cc)
  taken found x xs (Some m) passes low it = (
    elim it.0 [
      | inl same ↦ inr (subst (λ y. Contains (x ∷ xs) y) (some_is x m same) (first x xs), subst (λ y. p y ≡ true) (some_is x m same) passes)
      | inr some ↦ inr (later x xs m some.0, some.1)
    ],
    ((λ _. it.2), it.1),
    before found low,
  )
    where
      some_is : (a b : Moment) → Some a ≡ Some b → a ≡ b
      some_is a b e = let it = e in cc

      before : (found : Option Moment) → IsFoundBefore found x → IsFoundBefore found m
      before None low = tt
      before (Some f) low = le_through f.stamp x.stamp m.stamp low it.2

  after_none : (x : Moment) (xs : List Moment) (b : Bool) → p x ≡ b → IsLatestFrom None xs (latest_from p None xs) → IsLatestFrom (Some x) xs (latest_from p (Some x) xs)
      → IsLatestFrom None (x ∷ xs) (latest_from p (if b && true then Some x else None) xs)
  after_none x xs true passes none some = taken None x xs (latest_from p (Some x) xs) passes tt some
  after_none x xs false fails none some = skipped None x xs (latest_from p None xs) fails none

  after_some : (f x : Moment) (xs : List Moment) (b c : Bool) → p x ≡ b → int_le f.stamp x.stamp ≡ c → IsLatestFrom (Some f) xs (latest_from p (Some f) xs)
      → IsLatestFrom (Some x) xs (latest_from p (Some x) xs) → IsLatestFrom (Some f) (x ∷ xs) (latest_from p (if b && c then Some x else Some f) xs)
  after_some f x xs true true passes after one other = taken (Some f) x xs (latest_from p (Some x) xs) passes (le_from f.stamp x.stamp after) other
  after_some f x xs true false passes before one other = passed_over f x xs (latest_from p (Some f) xs) (gt_from f.stamp x.stamp before) one
  after_some f x xs false c fails order one other = skipped (Some f) x xs (latest_from p (Some f) xs) fails one

  searched : (found : Option Moment) (xs : List Moment) → IsLatestFrom found xs (latest_from p found xs)
  searched None [] = (refl, tt)
  searched (Some f) [] = (inl refl, tt, le_itself f.stamp)
  searched None (x ∷ xs) = after_none x xs (p x) refl (searched None xs) (searched (Some x) xs)
  searched (Some f) (x ∷ xs) = after_some f x xs (p x) (int_le f.stamp x.stamp) refl refl (searched (Some f) xs) (searched (Some x) xs)

  -- what is found in two orders has one stamp
  one_stamp : (ones others : List Moment) (o q : Option Moment) → IsPermutation ones others → IsLatestFrom None ones o → IsLatestFrom None others q
      → option_map_or (λ m. m.stamp) o (pos 0) ≡ option_map_or (λ m. m.stamp) q (pos 0)
  one_stamp ones others None None same a b = refl
  one_stamp ones others None (Some m) same a b = elim b.0 [
    | inl e ↦ absurd (let it = e in cc)
    | inr some ↦ absurd (false≢true (sym (at_member (λ x. p x ≡ false) others m (moved (λ x. p x ≡ false) ones others same a.1) some.0) ∙ some.1))
  ]
  one_stamp ones others (Some m) None same a b = elim a.0 [
    | inl e ↦ absurd (let it = e in cc)
    | inr some ↦ absurd (false≢true (sym (at_member (λ x. p x ≡ false) ones m (moved (λ x. p x ≡ false) others ones (IsPermutation-sym ones others same) b.1) some.0) ∙ some.1))
  ]
  one_stamp ones others (Some m) (Some n) same a b = elim a.0 [
    | inl e ↦ absurd (let it = e in cc)
    | inr some ↦ elim b.0 [
      | inl e ↦ absurd (let it = e in cc)
      | inr other ↦ both_ways m.stamp n.stamp
          (at_member (IsBefore n) ones m (moved (IsBefore n) others ones (IsPermutation-sym ones others same) b.1) some.0 some.1)
          (at_member (IsBefore m) others n (moved (IsBefore m) ones others same a.1) other.0 other.1)
    ]
  ]

pub last_stamp_same : LastStampIgnoresOrder
last_stamp_same ones others at same =
    let passes : Moment → Bool = λ m. int_le m.stamp at in
    one_stamp passes ones others (latest passes ones) (latest passes others) same (searched passes None ones) (searched passes None others)
