use Rattle.std.specs.Prelude.{ℤ, Bool, ◌&&◌, List, [], ◌∷◌, ◌++◌, pos, ◌+ℤ◌, take}
use Rattle.std.specs.Cmp.Lexicographic.{pointwise}
use Rattle.std.specs.Ordering.{int_eq}
use Rattle.land_shape.specs.Coordinate.{cross_of}

-- a point of the plane with whole coordinates
pub record Place : Type 0 where
  pub x : ℤ
  pub y : ℤ

abbrev pub is_same_place : Place → Place → Bool
is_same_place p q = int_eq p.x q.x && int_eq p.y q.y

-- whether two rings have the same points, from the first one on
abbrev pub is_same_ring : List Place → List Place → Bool
is_same_ring ring other = pointwise is_same_place ring other

-- a directed edge
pub record Edge : Type 0 where
  pub from : Place
  pub to : Place

-- x1*y2 - x2*y1
abbrev pub edge_area : Edge → ℤ
edge_area e = cross_of e.from.x e.from.y e.to.x e.to.y

abbrev pub area_of : List Edge → ℤ
area_of [] = pos 0
area_of (e ∷ es) = edge_area e +ℤ area_of es

-- the edges along a path
abbrev pub path_edges : List Place → List Edge
path_edges [] = []
path_edges (p ∷ []) = []
path_edges (p ∷ q ∷ ps) = record { from = p; to = q } ∷ path_edges (q ∷ ps)

-- the edges of a ring, including that from the last place to the first
abbrev pub ring_edges : List Place → List Edge
ring_edges ps = path_edges (ps ++ take 1 ps)
