-- The quantities that the test for a common point uses
use Rattle.std.specs.Prelude.{◌≡◌, ℕ, ◌<◌, ◌≤◌, ℤ, ◌-ℤ◌, ◌≤ℤ◌, List}
use Rattle.std.specs.Int.{int_min, int_max}
use Rattle.land_shape.specs.Coordinate.{cross_of}
use Rattle.land_shape.specs.Place.{Place}
use Rattle.land_shape.specs.Simple.{place_at, next_place_at}

-- on one axis, the segments a b and c d overlap
pub record Overlap (a b c d : ℤ) : Type 0 where
  pub low : int_min c d ≤ℤ int_max a b
  pub high : int_min a b ≤ℤ int_max c d

-- two numbers lie between the same bounds
pub record AreInside (low high first second : ℤ) : Type 0 where
  pub first_from : low ≤ℤ first
  pub first_to : first ≤ℤ high
  pub second_from : low ≤ℤ second
  pub second_to : second ≤ℤ high

-- the cross product of the segments a b and c d, and those of the vector from a to c with each
pub record AreTurns (a b c d : Place) (whole first second : ℤ) : Type 0 where
  pub whole_is : whole ≡ cross_of (b.x -ℤ a.x) (b.y -ℤ a.y) (d.x -ℤ c.x) (d.y -ℤ c.y)
  pub first_is : first ≡ cross_of (c.x -ℤ a.x) (c.y -ℤ a.y) (d.x -ℤ c.x) (d.y -ℤ c.y)
  pub second_is : second ≡ cross_of (c.x -ℤ a.x) (c.y -ℤ a.y) (b.x -ℤ a.x) (b.y -ℤ a.y)

-- the boxes of the segments a b and c d overlap
abbrev pub BoxesOverlap : Place → Place → Place → Place → Type 0
BoxesOverlap a b c d = Overlap a.x b.x c.x d.x × Overlap a.y b.y c.y d.y

-- the place lies in the box with these least and greatest coordinates
pub record IsInBox (least greatest place : Place) : Type 0 where
  pub left : least.x ≤ℤ place.x
  pub right : place.x ≤ℤ greatest.x
  pub low : least.y ≤ℤ place.y
  pub high : place.y ≤ℤ greatest.y

-- both ends of the edges of a ring with index at least `start` and below `end` lie in the box
abbrev pub HoldsEdges : List Place → (start end : ℕ) → (least greatest : Place) → Type 0
HoldsEdges ps start end least greatest =
    (i : ℕ) → start ≤ i → i < end → IsInBox least greatest (place_at ps i)
    × IsInBox least greatest (next_place_at ps i)
