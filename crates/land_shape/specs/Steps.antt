-- The results of the later steps of the reader
use Rattle.std.specs.Prelude.{◌≡◌, ◌⊎◌, ℕ, ℤ, Bool, true, false, List, [], ◌∷◌, ◌≤◌, ◌<◌, ◌-◌, length, Result}
use Rattle.std.specs.Prelude.{Ok, Err, Some}
use Rattle.std.specs.List.{AllByRecursion}
use Rattle.land_shape.specs.declared.faults.ShapeFault.{ShapeFault}
use Rattle.land_shape.specs.declared.faults.ShapeFault.TheVariants.{Empty, Inner, ZOrM, Number, Range}
use Rattle.land_shape.specs.declared.faults.ShapeFault.TheVariants.{FewPoints, ManyPoints, NotClosed}
use Rattle.land_shape.specs.declared.faults.ShapeFault.TheVariants.{NotSimple, AreaTooLarge, NoMemory}
use Rattle.land_shape.specs.declared.plane.Point.{Point}
use Rattle.land_shape.specs.Coordinate.{IsCoordinate}
use Rattle.land_shape.specs.Faults.{SomeOf, HasManyWords, IsNotNumber, IsOutOfRange, Locate, AreLocatedAt}
use Rattle.land_shape.specs.Grammar.{Words, Points, Rings, Polygon, empty, body, IsPolygonBody, IsPolygon}
use Rattle.land_shape.specs.Numbers.{coordinate_of}
use Rattle.land_shape.specs.Outline.{IsNear, IsOutline, ring_of, doubled_area}
use Rattle.land_shape.specs.Place.{Place}
use Rattle.land_shape.specs.Simple.{IsSimple, place_of, places, place_at}

-- the value of a word, or its fault
abbrev pub ReadsNumber : List ℕ → Result ℤ ShapeFault → Type 0
ReadsNumber w (Ok z) = (coordinate_of w ≡ Some z) × IsCoordinate z
ReadsNumber w (Err Number) = IsNotNumber w
ReadsNumber w (Err Range) = IsOutOfRange w
ReadsNumber w _ = ⊥

abbrev pub HasTwoWords : Words → Type 0
HasTwoWords words = length words ≡ 2

-- the point of two words, or their fault
abbrev pub ReadsPoint : Words → Result Point ShapeFault → Type 0
ReadsPoint words (Ok p) = Locate words (place_of p)
ReadsPoint words (Err Number) = SomeOf IsNotNumber words
ReadsPoint words (Err Range) = SomeOf IsOutOfRange words
ReadsPoint words _ = ⊥

-- a body has at least one ring
abbrev pub IsFull : Polygon → Type 0
IsFull empty = Unit {0}
IsFull (body tagged rings) = IsPolygonBody rings

-- the only ring of a polygon without a tag, whose points have two words each; or the fault of the polygon
abbrev pub PlainRing : Polygon → Result Points ShapeFault → Type 0
PlainRing polygon (Ok ring) = (polygon ≡ body false (ring ∷ [])) × AllByRecursion HasTwoWords ring
PlainRing polygon (Err Empty) = polygon ≡ empty
PlainRing polygon (Err Inner) = (tagged : Bool) × (rings : Rings)
    × ((polygon ≡ body tagged rings) × (2 ≤ length rings))
PlainRing polygon (Err ZOrM) =
    (tagged : Bool) × (ring : Points)
    × ((polygon ≡ body tagged (ring ∷ [])) × ((tagged ≡ true) ⊎ SomeOf HasManyWords ring))
PlainRing polygon _ = ⊥

-- the places of a ring's points, or the fault of their words
abbrev pub ReadsPoints : Points → Result (List Place) ShapeFault → Type 0
ReadsPoints points (Ok places) = AreLocatedAt points places × AllByRecursion IsNear places
ReadsPoints points (Err Number) = SomeOf (SomeOf IsNotNumber) points
ReadsPoints points (Err Range) = (¬ SomeOf (SomeOf IsNotNumber) points) × SomeOf (SomeOf IsOutOfRange) points
ReadsPoints points (Err NoMemory) = Unit {0}
ReadsPoints points _ = ⊥

-- the text is a polygon of one ring without a tag, and these are the places that it lists
pub record IsPlainList (text : List ℕ) (places : List Place) : Type 0 where
  pub points : Points
  pub is_polygon : IsPolygon text (body false (points ∷ []))
  pub two_words : AllByRecursion HasTwoWords points
  pub lists : AreLocatedAt points places
  pub near : AllByRecursion IsNear places

abbrev pub IsClosed : List Place → Type 0
IsClosed listed = place_at listed (length listed - 1) ≡ place_at listed 0

-- 4 to 201 places, the last equal to the first; or the fault of the list
abbrev pub IsClosedOrFault : List Place → Result (Unit {0}) ShapeFault → Type 0
IsClosedOrFault listed (Ok _) = (4 ≤ length listed) × (length listed ≤ 201) × IsClosed listed
IsClosedOrFault listed (Err FewPoints) = length listed < 4
IsClosedOrFault listed (Err ManyPoints) = 201 < length listed
IsClosedOrFault listed (Err NotClosed) = (4 ≤ length listed) × (length listed ≤ 201) × (¬ IsClosed listed)
IsClosedOrFault listed _ = ⊥

-- the ring of listed places, or its fault
abbrev pub IsRingOrFault : List Place → Result (List Place) ShapeFault → Type 0
IsRingOrFault listed (Ok ring) = (ring ≡ ring_of listed) × IsOutline ring
IsRingOrFault listed (Err NotSimple) = ¬ IsSimple (ring_of listed)
IsRingOrFault listed (Err AreaTooLarge) = IsSimple (ring_of listed)
    × (1000000000000000000 < doubled_area (ring_of listed))
IsRingOrFault listed _ = ⊥
