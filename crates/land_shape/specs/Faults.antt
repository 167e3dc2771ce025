-- The faults of a text, each as a condition on the whole text
use Rattle.std.specs.Prelude.{◌≡◌, ◌⊎◌, ℕ, ℤ, ◌<◌, ◌≤◌, ◌-◌, Bool, true, List, [], ◌∷◌, length, Some, None}
use Rattle.std.specs.Prelude.{Result, Ok, Err}
use Rattle.land_shape.specs.declared.faults.ShapeFault.{ShapeFault}
use Rattle.land_shape.specs.declared.faults.ShapeFault.TheVariants.{NotPolygon, Empty, Inner, ZOrM, Number}
use Rattle.land_shape.specs.declared.faults.ShapeFault.TheVariants.{Range, FewPoints, ManyPoints, NotClosed}
use Rattle.land_shape.specs.declared.faults.ShapeFault.TheVariants.{NotSimple, AreaTooLarge, NoMemory}
use Rattle.land_shape.specs.Coordinate.{IsCoordinate}
use Rattle.land_shape.specs.FaultTexts.{shape_fault_number}
use Rattle.land_shape.specs.Grammar.{Words, Points, Rings, Polygon, empty, body, IsPolygon}
use Rattle.land_shape.specs.Numbers.{coordinate_of}
use Rattle.land_shape.specs.Outline.{ring_of, doubled_area}
use Rattle.land_shape.specs.Place.{Place}
use Rattle.land_shape.specs.Simple.{IsSimple, place_at}

-- ---- words and points

-- at least one element has this property
abbrev pub SomeOf : {X : Type 0} → (X → Type 0) → List X → Type 0
SomeOf P [] = ⊥
SomeOf P (x ∷ xs) = P x ⊎ SomeOf P xs

abbrev pub HasPoint : (Words → Type 0) → Rings → Type 0
HasPoint P rings = SomeOf (SomeOf P) rings

abbrev pub HasWord : (List ℕ → Type 0) → Rings → Type 0
HasWord P rings = HasPoint (SomeOf P) rings

abbrev pub HasManyWords : Words → Type 0
HasManyWords words = 3 ≤ length words

abbrev pub IsNotNumber : List ℕ → Type 0
IsNotNumber word = coordinate_of word ≡ None

abbrev pub IsOutOfRange : List ℕ → Type 0
IsOutOfRange word = (z : ℤ) × ((coordinate_of word ≡ Some z) × (¬ IsCoordinate z))

-- the words are the two coordinates of the place
abbrev pub Locate : Words → Place → Type 0
Locate (x ∷ y ∷ []) place = (coordinate_of x ≡ Some place.x) × (coordinate_of y ≡ Some place.y)
Locate _ place = ⊥

-- the points are these places
abbrev pub AreLocatedAt : Points → List Place → Type 0
AreLocatedAt [] [] = Unit {0}
AreLocatedAt (words ∷ points) (place ∷ places) = Locate words place × AreLocatedAt points places
AreLocatedAt _ _ = ⊥

-- ---- texts

-- the text is a polygon with a body that has this property
pub record HasBodyWhere (text : List ℕ) (P : Bool → Rings → Type 0) : Type 0 where
  pub tagged : Bool
  pub rings : Rings
  pub is_polygon : IsPolygon text (body tagged rings)
  pub holds : P tagged rings

-- the text is a polygon of one ring, which lists these places
pub record ListsPlaces (text : List ℕ) (places : List Place) : Type 0 where
  pub tagged : Bool
  pub points : Points
  pub is_polygon : IsPolygon text (body tagged (points ∷ []))
  pub lists : AreLocatedAt points places

abbrev pub ListsPlacesWhere : List ℕ → (List Place → Type 0) → Type 0
ListsPlacesWhere text P = (places : List Place) × (ListsPlaces text places × P places)

abbrev pub HasFault : ShapeFault → List ℕ → Type 0
HasFault NotPolygon text = (polygon : Polygon) → ¬ IsPolygon text polygon
HasFault Empty text = IsPolygon text empty
HasFault Inner text = HasBodyWhere text (λ tagged rings. 2 ≤ length rings)
HasFault ZOrM text = HasBodyWhere text (λ tagged rings. (tagged ≡ true) ⊎ HasPoint HasManyWords rings)
HasFault Number text = HasBodyWhere text (λ tagged rings. HasWord IsNotNumber rings)
HasFault Range text = HasBodyWhere text (λ tagged rings. HasWord IsOutOfRange rings)
HasFault FewPoints text = ListsPlacesWhere text (λ places. length places < 4)
HasFault ManyPoints text = ListsPlacesWhere text (λ places. 201 < length places)
HasFault NotClosed text = ListsPlacesWhere text
    (λ places. ¬ (place_at places (length places - 1) ≡ place_at places 0))
HasFault NotSimple text = ListsPlacesWhere text (λ places. ¬ IsSimple (ring_of places))
HasFault AreaTooLarge text = ListsPlacesWhere text
    (λ places. 1000000000000000000 < doubled_area (ring_of places))
HasFault NoMemory text = ⊥

-- ---- results

-- the fault holds, and none with a lower number does
pub record IsFirstFault (text : List ℕ) (fault : ShapeFault) : Type 0 where
  pub holds : HasFault fault text
  pub none_before : (other : ShapeFault) → shape_fault_number other < shape_fault_number fault
      → ¬ HasFault other text

-- no fault holds, and the ring is that of the places that the text lists
pub record Denotes (text : List ℕ) (ring : List Place) : Type 0 where
  pub no_fault : (fault : ShapeFault) → ¬ HasFault fault text
  pub places : List Place
  pub listed : ListsPlaces text places
  pub is_ring : ring ≡ ring_of places

-- the result for a text: the ring that it denotes, or its first fault
abbrev pub IsOutlineAnswer : List ℕ → Result (List Place) ShapeFault → Type 0
IsOutlineAnswer text (Ok ring) = Denotes text ring
IsOutlineAnswer text (Err fault) = IsFirstFault text fault
