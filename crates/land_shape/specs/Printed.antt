-- The canonical form of a ring
use Rattle.std.specs.Prelude.{ℕ, List, [], ◌∷◌, ◌++◌, take, codes}
use Rattle.std.specs.Fmt.{signed_decimal}
use Rattle.land_shape.specs.Place.{Place}

-- the two numbers of a point, with a space between them
abbrev pub point_text : Place → List ℕ
point_text p = signed_decimal p.x ++ 32 ∷ signed_decimal p.y

-- points, with a comma and a space after each but the last
abbrev pub points_text : List Place → List ℕ
points_text [] = []
points_text (p ∷ []) = point_text p
points_text (p ∷ q ∷ ps) = point_text p ++ 44 ∷ 32 ∷ points_text (q ∷ ps)

-- `POLYGON ((x y, x y, ...))`, closed by the first point again
abbrev pub polygon_text : List Place → List ℕ
polygon_text ring = codes "POLYGON ((" ++ points_text (ring ++ take 1 ring) ++ 41 ∷ 41 ∷ []
