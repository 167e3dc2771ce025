-- Lemmas on the sum over the edges of a ring
use Rattle.std.proofs.Common.{◌≡◌, ℕ, ◌+◌, ◌<◌, List, [], ◌∷◌, ◌++◌, length, ◌∙◌, drop, get_or, refl, sym, ap, arith, drop-cons, add-one}
use Rattle.std.proofs.lemmas.Int.{ints}
use Rattle.std.proofs.Common.{◌*◌, suc}
use Rattle.std.proofs.lemmas.Int.{to_z-of_z}
use lib.IntN.{ℤ, pos, ◌+ℤ◌, ◌-ℤ◌}
use lib.Signed.{◌≤ℤ◌}
use mir.Syntax.{w128}
use mir.Val.{SFits, to_z, of_z}
use Rattle.land_shape.specs.declared.plane.Point.{Point}
use Rattle.land_shape.specs.Coordinate.{cross_of, IsTriangle}
use Rattle.land_shape.specs.Place.{area_of, path_edges, ring_edges}
use Rattle.land_shape.specs.Simple.{place_of, places}

-- the area along a path from a corner through the remaining ones and back to the first
abbrev pub rest_area : Point → List Point → Point → ℤ
rest_area last others first = area_of (path_edges (place_of last ∷ places others ++ place_of first ∷ []))

pub rest_area-all : (ps : List Point) (p : Point) → 0 < length ps → p ≡ get_or ps 0 p → rest_area p (drop 1 ps) p ≡ area_of (ring_edges (places ps))
rest_area-all [] p h e = absurd (omega arith)
rest_area-all (q ∷ ps) p h e = rw e refl

pub rest_area-none : (last first : Point) → rest_area last [] first ≡ cross_of last.x last.y first.x first.y
rest_area-none last first = omega (arith, ints)

pub rest_area-more : (last first : Point) (ps : List Point) (i : ℕ) (p : Point) → i < length ps → p ≡ get_or ps i p
    → rest_area last (drop i ps) first ≡ cross_of last.x last.y p.x p.y +ℤ rest_area p (drop (i + 1) ps) first
rest_area-more last first ps i p h e =
    let d : drop i ps ≡ p ∷ drop (i + 1) ps = rw add-one (drop-cons ps i p h ∙ ap (λ (x : Point). x ∷ drop (suc i) ps) (sym e)) in
    rw d refl

-- one step of the sum, whose bits go to and fro
pub record Step (sum cross rest whole : ℤ) (i : ℕ) : Type 0 where
  pub so_far : to_z w128 (of_z w128 (sum +ℤ to_z w128 (of_z w128 cross))) +ℤ rest ≡ whole
  pub low : (pos 0 -ℤ pos (200000000000000000000 * (i + 1))) ≤ℤ to_z w128 (of_z w128 (sum +ℤ to_z w128 (of_z w128 cross)))
  pub high : to_z w128 (of_z w128 (sum +ℤ to_z w128 (of_z w128 cross))) ≤ℤ pos (200000000000000000000 * (i + 1))
  pub fits : SFits w128 (sum +ℤ to_z w128 (of_z w128 cross))

pub step_sum : (sum cross now rest whole : ℤ) (i : ℕ) → i < 200 → sum +ℤ now ≡ whole → now ≡ cross +ℤ rest
    → (pos 0 -ℤ pos (200000000000000000000 * i)) ≤ℤ sum → sum ≤ℤ pos (200000000000000000000 * i) → IsTriangle cross → Step sum cross rest whole i
step_sum sum cross now rest whole i short e1 e2 low high t =
    let c : SFits w128 cross = omega (arith, ints) in
    let f : SFits w128 (sum +ℤ cross) = omega (arith, ints) in
    record { so_far = simp to_z-of_z (omega (arith, ints)); low = simp to_z-of_z (omega (arith, ints)); high = simp to_z-of_z (omega (arith, ints)); fits = simp to_z-of_z f }
