-- The points that a ring lists
use Rattle.std.proofs.Common.{◌≡◌, ℕ, ◌+◌, ◌<◌, ◌≤◌, List, [], ◌∷◌, ◌++◌, length, take, get_or, sym, ap, ◌∙◌, arith, inl, inr, subst, Result, Ok, Err}
use Rattle.std.proofs.lemmas.List.{take_more, map-append}
use Rattle.std.specs.List.{AllByRecursion}
use Rattle.std.specs.Result.{IsErrAnd}
use Rattle.land_shape.specs.declared.faults.ShapeFault.{ShapeFault}
use Rattle.land_shape.specs.declared.faults.ShapeFault.TheVariants.{Number, Range}
use Rattle.land_shape.specs.declared.plane.Point.{Point}
use Rattle.land_shape.specs.Grammar.{Words, Points, Rings, IsPoint}
use Rattle.land_shape.specs.Faults.{SomeOf, HasManyWords, IsNotNumber, IsOutOfRange, Locate, AreLocatedAt}
use Rattle.land_shape.specs.Outline.{IsNear}
use Rattle.land_shape.specs.Place.{Place}
use Rattle.land_shape.specs.Simple.{place_of, places}
use Rattle.land_shape.specs.Steps.{HasTwoWords, ReadsNumber, ReadsPoint, ReadsPoints}
use Rattle.land_shape.proofs.SomeLemmas.{some_at}

-- an error that is passed on
pub passed_on : {T E : Type 0} (P : Result T E → Type 0) (r : Result T E) (e : E) → IsErrAnd r (λ f. f ≡ e) → P (Err e) → P r
passed_on P (Ok x) e h p = absurd h
passed_on {T} {E} P (Err f) e h p = subst (λ (g : E). P (Err g)) (sym h) p

-- ---- the only ring

pub only_ring : (rings before : Rings) (ring : Points) → rings ≡ before ++ ring ∷ [] → length rings ≤ 1 → rings ≡ ring ∷ []
only_ring rings [] ring e h = e
only_ring rings (first ∷ before) ring e h =
    let l : length rings ≡ length (first ∷ before ++ ring ∷ []) = ap length e in
    absurd (too_many before ring (omega arith))
  where
    too_many : (before : Rings) (ring : Points) → length (before ++ ring ∷ []) ≤ 0 → ⊥
    too_many [] ring h = omega arith
    too_many (first ∷ before) ring h = omega arith

pub two_words_each : (ring : Points) → AllByRecursion IsPoint ring → ¬ SomeOf HasManyWords ring → AllByRecursion HasTwoWords ring
two_words_each [] all none = tt
two_words_each (words ∷ ring) all none =
    let l = all.0.0 in (short words l (λ h. none (inl h)), two_words_each ring all.1 (λ h. none (inr h)))
  where
    short : (words : Words) → 2 ≤ length words → ¬ (3 ≤ length words) → length words ≡ 2
    short words l none = omega arith

-- ---- points

two_words : (words : Words) (x y : List ℕ) → length words ≡ 2 → x ≡ get_or words 0 x → y ≡ get_or words 1 y → words ≡ x ∷ y ∷ []
two_words [] x y h ex ey = absurd (omega arith)
two_words (a ∷ []) x y h ex ey = absurd (omega arith)
two_words (a ∷ b ∷ []) x y h ex ey = cc
two_words (a ∷ b ∷ c ∷ words) x y h ex ey = absurd (omega arith)

pub wrong_second : (words : Words) (x y : List ℕ) (f : ShapeFault) → length words ≡ 2 → x ≡ get_or words 0 x → y ≡ get_or words 1 y
    → ReadsNumber y (Err f) → ReadsPoint words (Err f)
wrong_second words x y f h ex ey k = subst (λ (ws : Words). ReadsPoint ws (Err f)) (sym (two_words words x y h ex ey)) (go f k)
  where
    go : (f : ShapeFault) → ReadsNumber y (Err f) → ReadsPoint (x ∷ y ∷ []) (Err f)
    go Number k = inr (inl k)
    go Range k = inr (inl k)
    go _ k = absurd k

-- ---- lists of points

lists-push : (points : Points) (ps : List Place) (words : Words) (p : Place) → AreLocatedAt points ps → Locate words p
    → AreLocatedAt (points ++ words ∷ []) (ps ++ p ∷ [])
lists-push [] [] words p h k = (k, tt)
lists-push (w ∷ points) (q ∷ ps) words p h k = (h.0, lists-push points ps words p h.1 k)
lists-push [] (q ∷ ps) words p h k = absurd h
lists-push (w ∷ points) [] words p h k = absurd h

pub lists_more : (ring : Points) (i : ℕ) (words : Words) (ps : List Point) (p : Point) → i < length ring → words ≡ get_or ring i words
    → AreLocatedAt (take i ring) (places ps) → Locate words (place_of p) → AreLocatedAt (take (i + 1) ring) (places (ps ++ p ∷ []))
lists_more ring i words ps p h is so_far here =
    rw (take_more ring i words h ∙ ap (λ (w : Words). take i ring ++ w ∷ []) (sym is), map-append place_of ps (p ∷ []))
    (lists-push (take i ring) (places ps) words (place_of p) so_far here)

pub near_points : (ps : List Point) → AllByRecursion IsNear (places ps)
near_points [] = tt
near_points (p ∷ ps) = ((p.x_in_range, p.y_in_range), near_points ps)

pub wrong_point : (ring : Points) (i : ℕ) (words : Words) (f : ShapeFault) → i < length ring → words ≡ get_or ring i words
    → ¬ SomeOf (SomeOf IsNotNumber) ring → ReadsPoint words (Err f) → ReadsPoints ring (Err f)
wrong_point ring i words Number h is none k = some_at (SomeOf IsNotNumber) ring words i h is k
wrong_point ring i words Range h is none k = (none, some_at (SomeOf IsOutOfRange) ring words i h is k)
wrong_point ring i words _ h is none k = absurd k
