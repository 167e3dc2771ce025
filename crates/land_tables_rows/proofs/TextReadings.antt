-- Printed values are in UTF-8.
use Rattle.std.proofs.Common.{◌≡◌, ◌<◌, ◌^◌, ℕ, ℤ, pos, negsuc, List, [], ◌∷◌, ◌++◌, take, true, codes, IsUtf8, refl, arith}
use Rattle.std.proofs.lemmas.Fmt.{IsAscii-signed}
use Rattle.std.proofs.lemmas.Int.{ints}
use Rattle.std.proofs.lemmas.Str.{IsUtf8-append, IsUtf8-from_ascii, is_utf8-from_IsUtf8}
use Rattle.std.specs.Fmt.{signed_decimal}
use Rattle.std.specs.List.{AllByRecursion}
use Rattle.std.specs.Str.{is_utf8}
use lib.Signed.{mag}
use Rattle.json.proofs.Printed.Utf8.{IsUtf8-are_ascii, are_ascii}
use Rattle.land_shape.specs.Coordinate.{IsCoordinate}
use Rattle.land_shape.specs.Outline.{IsNear, IsOutline}
use Rattle.land_shape.specs.Place.{Place}
use Rattle.land_shape.specs.Printed.{point_text, points_text, polygon_text}

pub ascii_is_utf8 : (text : List ℕ) → are_ascii text ≡ true → is_utf8 text ≡ true
ascii_is_utf8 text e = is_utf8-from_IsUtf8 text (IsUtf8-are_ascii text e)

small : (z : ℤ) → IsCoordinate z → mag z < 2 ^ 63
small (pos n) h = omega (arith, ints)
small (negsuc n) h = omega (arith, ints)

number_utf8 : (z : ℤ) → IsCoordinate z → IsUtf8 (signed_decimal z)
number_utf8 z h = IsUtf8-from_ascii (signed_decimal z) (IsAscii-signed z (small z h))

point_utf8 : (p : Place) → IsNear p → IsUtf8 (point_text p)
point_utf8 p h =
    IsUtf8-append (signed_decimal p.x) (32 ∷ signed_decimal p.y) (number_utf8 p.x h.0)
    (IsUtf8-append (32 ∷ []) (signed_decimal p.y) (IsUtf8-are_ascii (32 ∷ []) refl) (number_utf8 p.y h.1))

points_utf8 : (ps : List Place) → AllByRecursion IsNear ps → IsUtf8 (points_text ps)
points_utf8 [] h = IsUtf8-are_ascii [] refl
points_utf8 (p ∷ []) h = point_utf8 p h.0
points_utf8 (p ∷ q ∷ ps) h =
    IsUtf8-append (point_text p) (44 ∷ 32 ∷ points_text (q ∷ ps)) (point_utf8 p h.0)
    (IsUtf8-append (44 ∷ 32 ∷ []) (points_text (q ∷ ps)) (IsUtf8-are_ascii (44 ∷ 32 ∷ []) refl) (points_utf8 (q ∷ ps) h.1))

near_again : (ps qs : List Place) → AllByRecursion IsNear ps → AllByRecursion IsNear qs → AllByRecursion IsNear (ps ++ qs)
near_again [] qs h k = k
near_again (p ∷ ps) qs h k = (h.0, near_again ps qs h.1 k)

near_first : (ps : List Place) → AllByRecursion IsNear ps → AllByRecursion IsNear (take 1 ps)
near_first [] h = h
near_first (p ∷ ps) h = (h.0, tt)

pub printed_utf8 : (ring : List Place) → IsOutline ring → IsUtf8 (polygon_text ring)
printed_utf8 ring h =
    let near = near_again ring (take 1 ring) h.near (near_first ring h.near) in
    IsUtf8-append (codes "POLYGON ((" ++ points_text (ring ++ take 1 ring)) (41 ∷ 41 ∷ [])
    (IsUtf8-append (codes "POLYGON ((") (points_text (ring ++ take 1 ring)) (IsUtf8-are_ascii (codes "POLYGON ((") refl) (points_utf8 (ring ++ take 1 ring) near))
    (IsUtf8-are_ascii (41 ∷ 41 ∷ []) refl)

pub printed_is_utf8 : (ring : List Place) → IsOutline ring → is_utf8 (polygon_text ring) ≡ true
printed_is_utf8 ring h = is_utf8-from_IsUtf8 (polygon_text ring) (printed_utf8 ring h)
