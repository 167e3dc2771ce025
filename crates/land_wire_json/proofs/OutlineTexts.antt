-- Outlines are written in their canonical form.
use Rattle.std.proofs.Common.{suc, ◌<◌, ◌^◌, arith, ◌≡◌, ℕ, List, [], ◌∷◌, ◌++◌, take, refl, ap, ap₂, codes, ◌∙◌}
use Rattle.std.specs.Fmt.{signed_decimal}
use Rattle.std.specs.List.{AllByRecursion}
use Rattle.std.proofs.lemmas.Grind.{flat_map-append}
use Rattle.std.proofs.lemmas.Int.{ints}
use lib.IntN.{ℤ, pos, negsuc}
use Rattle.json.specs.Print.{escape, escape_byte}
use Rattle.land_shape.specs.Coordinate.{IsCoordinate}
use Rattle.land_shape.specs.Outline.{IsOutline, IsNear}
use Rattle.land_shape.specs.Place.{Place}
use Rattle.land_shape.specs.Printed.{point_text, points_text, polygon_text}
use Rattle.land_wire_json.proofs.ShareTexts.{digits_are_plain}
use Rattle.land_wire_json.specs.Texts.Values.{outline_text, quoted_word}
use Rattle.serde_json.proofs.OnLiterals.{serde_json_on_literals}

coordinate_is_plain : (z : ℤ) → IsCoordinate z → escape (signed_decimal z) ≡ signed_decimal z
unfolding escape_byte
coordinate_is_plain (pos n) h = let up = h.1 in digits_are_plain n (omega (arith, ints))
coordinate_is_plain (negsuc n) h =
    let down = h.0 in
    let short : suc n < 2 ^ 64 = omega (arith, ints) in
    ap (λ (t : List ℕ). 45 ∷ t) (digits_are_plain (suc n) short)

point_is_plain : (p : Place) → IsNear p → escape (point_text p) ≡ point_text p
unfolding escape_byte
point_is_plain p h =
    flat_map-append escape_byte (signed_decimal p.x) (32 ∷ signed_decimal p.y)
    ∙ ap₂ (λ (x y : List ℕ). x ++ (32 ∷ y)) (coordinate_is_plain p.x h.0) (coordinate_is_plain p.y h.1)

points_are_plain : (ps : List Place) → AllByRecursion IsNear ps → escape (points_text ps) ≡ points_text ps
unfolding escape_byte
points_are_plain [] h = refl
points_are_plain (p ∷ []) h = point_is_plain p h.0
points_are_plain (p ∷ q ∷ ps) h =
    flat_map-append escape_byte (point_text p) (44 ∷ 32 ∷ points_text (q ∷ ps))
    ∙ ap₂ (λ (x y : List ℕ). x ++ (44 ∷ 32 ∷ y)) (point_is_plain p h.0) (points_are_plain (q ∷ ps) h.1)

near_then : (ps : List Place) (p : Place) → AllByRecursion IsNear ps → IsNear p → AllByRecursion IsNear (ps ++ p ∷ [])
near_then [] p all h = (h, tt)
near_then (q ∷ ps) p all h = (all.0, near_then ps p all.1 h)

near_closed : (ring : List Place) → AllByRecursion IsNear ring → AllByRecursion IsNear (ring ++ take 1 ring)
near_closed [] h = tt
near_closed (p ∷ ps) h = (h.0, near_then ps p h.1 h.0)

printed_is_plain : (ring : List Place) → IsOutline ring → escape (polygon_text ring) ≡ polygon_text ring
unfolding escape_byte
printed_is_plain ring is =
    ap (λ (t : List ℕ). codes "POLYGON ((" ++ t)
    (flat_map-append escape_byte (points_text (ring ++ take 1 ring)) (41 ∷ 41 ∷ [])
    ∙ ap (λ (t : List ℕ). t ++ (41 ∷ 41 ∷ [])) (points_are_plain (ring ++ take 1 ring) (near_closed ring is.near)))

pub outline-text : (ring : List Place) → IsOutline ring → outline_text ring ≡ quoted_word (polygon_text ring)
unfolding serde_json_on_literals
outline-text ring is = ap (λ (t : List ℕ). 34 ∷ (t ++ codes "\"")) (printed_is_plain ring is)
