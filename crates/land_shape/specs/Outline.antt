-- Outlines: simple rings that run counterclockwise
use Rattle.std.specs.Prelude.{ℕ, List, [], ◌∷◌, ◌≤◌, ◌-◌, ◌<ℤ◌, length, take, reverse, pos, if◌then◌else◌}
use Rattle.std.specs.Prelude.{int_lt}
use Rattle.std.specs.Int.RustNames.{unsigned_abs}
use Rattle.std.specs.List.{AllByRecursion}
use Rattle.land_shape.specs.Coordinate.{IsCoordinate}
use Rattle.land_shape.specs.Place.{Place, area_of, ring_edges}
use Rattle.land_shape.specs.Simple.{IsSimple}

-- twice the area, in square millimetres
abbrev pub doubled_area : List Place → ℕ
doubled_area ring = unsigned_abs (area_of (ring_edges ring))

-- the ring in the opposite direction, from the same first point
abbrev pub reversed_ring : List Place → List Place
reversed_ring [] = []
reversed_ring (p ∷ ps) = p ∷ reverse ps

abbrev pub counterclockwise_ring : List Place → List Place
counterclockwise_ring ring = if int_lt (area_of (ring_edges ring)) (pos 0) then reversed_ring ring else ring

-- the ring of the points that a text lists, counterclockwise. The last point closes the ring and is dropped.
-- Reversing a ring leaves its edges in place, so conditions on them can be checked on the counterclockwise
-- ring.
abbrev pub ring_of : List Place → List Place
ring_of listed = counterclockwise_ring (take (length listed - 1) listed)

abbrev pub IsNear : Place → Type 0
IsNear p = IsCoordinate p.x × IsCoordinate p.y

-- the invariant of every outline
pub record IsOutline (ring : List Place) : Type 0 where
  pub some : 3 ≤ length ring
  pub few : length ring ≤ 200
  pub near : AllByRecursion IsNear ring
  pub simple : IsSimple ring
  pub left : pos 0 <ℤ area_of (ring_edges ring)
  pub small : doubled_area ring ≤ 1000000000000000000
