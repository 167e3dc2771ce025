-- Proof that each text denotes a ring or has a first fault
use Rattle.std.proofs.Common.{◌≡◌, ◌-◌, ℕ, List, [], ◌∷◌, length, ◌⊎◌, inl, inr, ℤ, pos, negsuc, Bool, true, false, Option, Some, None, Result, Ok, Err, refl, sym, subst, ◌∙◌, arith}
use Rattle.std.proofs.lemmas.Bool.{cases_lt}
use Rattle.std.specs.List.{AllByRecursion}
use Rattle.land_shape.specs.Coordinate.{IsCoordinate}
use Rattle.land_shape.specs.Faults.{SomeOf, HasManyWords, IsNotNumber, IsOutOfRange, Locate, AreLocatedAt, IsFirstFault, IsOutlineAnswer}
use Rattle.land_shape.specs.Grammar.{Words, Points, Polygon, empty, body, IsPolygon}
use Rattle.land_shape.specs.Numbers.{coordinate_of}
use Rattle.land_shape.specs.Outline.{IsNear, doubled_area, ring_of}
use Rattle.land_shape.specs.Place.{Place}
use Rattle.land_shape.specs.Reader.{polygon_of}
use Rattle.land_shape.specs.Simple.{IsSimple, place_at}
use Rattle.land_shape.specs.Steps.{HasTwoWords, IsPlainList}
use Rattle.land_shape.specs.Tokens.{tokens_of}
use Rattle.land_shape.specs.declared.faults.ShapeFault.{ShapeFault}
use Rattle.land_shape.specs.declared.faults.ShapeFault.TheVariants as fault
use Rattle.land_shape.proofs.JudgeLemmas.{IsClosedList, no_polygon, empty_first, inner_first, z_or_m_first, number_first, range_first, few_first, many_first, open_first, not_simple_first, too_large_first, simple_stands}
use Rattle.land_shape.proofs.ListingLemmas.{two_words_each}
use Rattle.land_shape.proofs.PolygonLemmas.{polygon_means}
use Rattle.land_shape.proofs.Deciding.{Decided, at_most, both, place, simple}

abbrev pub Answer : List ℕ → Type 0
Answer text = (answer : Result (List Place) ShapeFault) × IsOutlineAnswer text answer

found : (text : List ℕ) (f : ShapeFault) → IsFirstFault text f → Answer text
found text f h = (Err f, h)

some_of : {X : Type 0} (P : X → Type 0) → ((x : X) → Decided (P x)) → (xs : List X) → Decided (SomeOf P xs)
some_of P d [] = inr (λ h. h)
some_of P d (x ∷ xs) = go (d x) (some_of P d xs)
  where
    go : Decided (P x) → Decided (SomeOf P xs) → Decided (P x ⊎ SomeOf P xs)
    go (inl p) r = inl (inl p)
    go (inr n) (inl s) = inl (inr s)
    go (inr n) (inr m) = inr (λ h. elim h [ inl p ↦ n p | inr s ↦ m s ])

within : (z : ℤ) → Decided (IsCoordinate z)
within z = both (at_most (negsuc 9999999999) z) (at_most z (pos 10000000000))

no_number : (w : List ℕ) → Decided (IsNotNumber w)
no_number w = go (coordinate_of w) refl
  where
    go : (o : Option ℤ) → coordinate_of w ≡ o → Decided (IsNotNumber w)
    go None e = inl e
    go (Some z) e = inr (λ h. cc)

same_some : (a b : ℤ) → Some a ≡ Some b → a ≡ b
same_some a b e = cc

far : (w : List ℕ) → Decided (IsOutOfRange w)
far w = go (coordinate_of w) refl
  where
    go : (o : Option ℤ) → coordinate_of w ≡ o → Decided (IsOutOfRange w)
    go None e = inr (λ h. let k = h.1.0 in absurd cc)
    go (Some z) e = at (within z)
      where
        at : Decided (IsCoordinate z) → Decided (IsOutOfRange w)
        at (inl near) = inr (λ h. h.1.1 (subst IsCoordinate (same_some z h.0 (sym e ∙ h.1.0)) near))
        at (inr away) = inl (z, (e, away))

near_by : (w : List ℕ) (z : ℤ) → coordinate_of w ≡ Some z → ¬ IsOutOfRange w → IsCoordinate z
near_by w z e none = elim (within z) [ inl near ↦ near | inr away ↦ absurd (none (z, (e, away))) ]

Located : Words → Type 0
Located words = (p : Place) × (Locate words p) × (IsNear p)

located : (words : Words) → length words ≡ 2 → ¬ SomeOf IsNotNumber words → ¬ SomeOf IsOutOfRange words → Located words
unfolding Located
located [] two numbers near = absurd (omega arith)
located (x ∷ []) two numbers near = absurd (omega arith)
located (x ∷ y ∷ []) two numbers near = go (coordinate_of x) (coordinate_of y) refl refl
  where
    go : (a b : Option ℤ) → coordinate_of x ≡ a → coordinate_of y ≡ b → (p : Place) × (Locate (x ∷ y ∷ []) p) × (IsNear p)
    go None b e f = absurd (numbers (inl e))
    go (Some a) None e f = absurd (numbers (inr (inl f)))
    go (Some a) (Some b) e f =
        (record { x = a; y = b }, (e, f), (near_by x a e (λ h. near (inl h)), near_by y b f (λ h. near (inr (inl h)))))
located (x ∷ y ∷ z ∷ words) two numbers near = absurd (omega arith)

Placed : Points → Type 0
Placed points = (ps : List Place) × (AreLocatedAt points ps) × (AllByRecursion IsNear ps)

all_placed : (points : Points) → AllByRecursion HasTwoWords points → ¬ SomeOf (SomeOf IsNotNumber) points → ¬ SomeOf (SomeOf IsOutOfRange) points → Placed points
unfolding Placed Located
all_placed [] two numbers near = ([], tt, tt)
all_placed (words ∷ points) two numbers near =
    let first = located words two.0 (λ h. numbers (inl h)) (λ h. near (inl h)) in
    let rest = all_placed points two.1 (λ h. numbers (inr h)) (λ h. near (inr h)) in
    (first.0 ∷ rest.0, (first.1, rest.1), (first.2, rest.2))

ring_from_listed : (text : List ℕ) (ps : List Place) → IsClosedList text ps → Answer text
ring_from_listed text ps c = go (simple (ring_of ps))
  where
    go : Decided (IsSimple (ring_of ps)) → Answer text
    go (inr n) = found text fault.NotSimple (not_simple_first text ps c n)
    go (inl s) = elim (cases_lt 1000000000000000000 (doubled_area (ring_of ps))) [
      | inl large ↦ found text fault.AreaTooLarge (too_large_first text ps c s large)
      | inr small ↦ (Ok (ring_of ps), simple_stands text ps c s small)
    ]

closed : (text : List ℕ) (ps : List Place) → IsPlainList text ps → Answer text
closed text ps l =
    elim (cases_lt (length ps) 4) [
      | inl few ↦ found text fault.FewPoints (few_first text ps l few)
      | inr some ↦ elim (cases_lt 201 (length ps)) [
        | inl many ↦ found text fault.ManyPoints (many_first text ps l many)
        | inr fits ↦ elim (place (place_at ps (length ps - 1)) (place_at ps 0)) [
          | inl shut ↦ ring_from_listed text ps (record { list = l; some = some; few = fits; closed = shut })
          | inr open_ ↦ found text fault.NotClosed (open_first text ps l some fits open_)
        ]
      ]
    ]

listed : (text : List ℕ) (ring : Points) → IsPolygon text (body false (ring ∷ [])) → AllByRecursion HasTwoWords ring → Answer text
unfolding Placed
listed text ring p two = go (some_of (SomeOf IsNotNumber) (some_of IsNotNumber no_number) ring) (some_of (SomeOf IsOutOfRange) (some_of IsOutOfRange far) ring)
  where
    go : Decided (SomeOf (SomeOf IsNotNumber) ring) → Decided (SomeOf (SomeOf IsOutOfRange) ring) → Answer text
    go (inl wrong) f = found text fault.Number (number_first text ring p two wrong)
    go (inr numbers) (inl away) = found text fault.Range (range_first text ring p two numbers away)
    go (inr numbers) (inr near) =
        let placed = all_placed ring two numbers near in
        closed text placed.0 (record { points = ring; is_polygon = p; two_words = two; lists = placed.1; near = placed.2 })

long : (words : Words) → Decided (HasManyWords words)
long words = elim (cases_lt 2 (length words)) [ inl lt ↦ inl lt | inr ge ↦ inr (λ h. omega arith) ]

one_ring : (text : List ℕ) (tagged : Bool) (ring : Points) → IsPolygon text (body tagged (ring ∷ [])) → Answer text
one_ring text true ring p = found text fault.ZOrM (z_or_m_first text true ring p (inl refl))
one_ring text false ring p = go (some_of HasManyWords long ring)
  where
    go : Decided (SomeOf HasManyWords ring) → Answer text
    go (inl l) = found text fault.ZOrM (z_or_m_first text false ring p (inr l))
    go (inr n) = listed text ring p (two_words_each ring p.is_body.1.0.1 n)

polygon : (text : List ℕ) (it : Polygon) → IsPolygon text it → Answer text
polygon text empty p = found text fault.Empty (empty_first text p)
polygon text (body tagged []) p = absurd (omega (arith, p.is_body.0))
polygon text (body tagged (ring ∷ [])) p = one_ring text tagged ring p
polygon text (body tagged (ring ∷ other ∷ rings)) p = found text fault.Inner (inner_first text tagged (ring ∷ other ∷ rings) p (omega arith))

pub answer : (text : List ℕ) → Answer text
answer text = go (polygon_of (tokens_of text)) refl
  where
    go : (o : Option Polygon) → polygon_of (tokens_of text) ≡ o → Answer text
    go None e = found text fault.NotPolygon (no_polygon text e)
    go (Some it) e = polygon text it (polygon_means (tokens_of text) it e)
