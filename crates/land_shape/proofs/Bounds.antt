-- Bounds on products
use Rattle.std.proofs.Common.{◌≡◌, ◌*◌, ◌≤◌, arith}
use Rattle.std.proofs.lemmas.Int.{ints, unsigned_abs-mul}
use Rattle.std.proofs.Math.Nat.{mul-le-mul}
use Rattle.std.specs.Int.RustNames.{unsigned_abs}
use mir.Syntax.{w128}
use mir.Val.{SFits, to_z, of_z}
use lib.IntN.{ℤ, pos, negsuc, ◌*ℤ◌, ◌-ℤ◌, ◌+ℤ◌}
use lib.Signed.{◌≤ℤ◌}
use Rattle.land_shape.specs.Coordinate.{IsCoordinate, IsDistance, IsTriangle, cross_of, dot_of}

-- within a product of two distances
abbrev IsArea : ℤ → Type 0
IsArea z = (negsuc 399999999999999999999 ≤ℤ z) × (z ≤ℤ pos 400000000000000000000)

product_small : (p q : ℤ) → IsDistance p → IsDistance q → unsigned_abs (p *ℤ q) ≤ 400000000000000000000
product_small p q hp hq =
    let a : unsigned_abs p ≤ 20000000000 = omega (arith, ints) in
    let b : unsigned_abs q ≤ 20000000000 = omega (arith, ints) in
    let m : unsigned_abs p * unsigned_abs q ≤ 20000000000 * 20000000000 = mul-le-mul a b in
    omega (arith, unsigned_abs-mul p q)

area_of_abs : (z : ℤ) → unsigned_abs z ≤ 400000000000000000000 → IsArea z
area_of_abs z h = (omega (arith, ints), omega (arith, ints))

pub IsArea-product : (p q : ℤ) → IsDistance p → IsDistance q → IsArea (p *ℤ q)
IsArea-product p q hp hq = area_of_abs (p *ℤ q) (product_small p q hp hq)

fits : (a b : ℤ) → IsArea a → IsArea b → SFits w128 (to_z w128 (of_z w128 a) -ℤ to_z w128 (of_z w128 b))
fits a b ha hb = omega (arith, ints)

same : (a b : ℤ) → IsArea a → IsArea b → to_z w128 (of_z w128 (to_z w128 (of_z w128 a) -ℤ to_z w128 (of_z w128 b))) ≡ a -ℤ b
same a b ha hb = omega (arith, ints)

distance_same : (p : ℤ) → IsDistance p → to_z w128 (of_z w128 p) ≡ p
distance_same p h = omega (arith, ints)

pub cross-fits : (px py qx qy : ℤ) → IsDistance px → IsDistance py → IsDistance qx → IsDistance qy
    → SFits w128 (to_z w128 (of_z w128 (to_z w128 (of_z w128 px) *ℤ to_z w128 (of_z w128 qy)))
    -ℤ to_z w128 (of_z w128 (to_z w128 (of_z w128 py) *ℤ to_z w128 (of_z w128 qx))))
cross-fits px py qx qy a b c d =
    rw (distance_same px a, distance_same py b, distance_same qx c, distance_same qy d)
    (fits (px *ℤ qy) (py *ℤ qx) (IsArea-product px qy a d) (IsArea-product py qx b c))

pub cross-same : (px py qx qy : ℤ) → IsDistance px → IsDistance py → IsDistance qx → IsDistance qy
    → to_z w128 (of_z w128 (to_z w128 (of_z w128 (to_z w128 (of_z w128 px) *ℤ to_z w128 (of_z w128 qy)))
    -ℤ to_z w128 (of_z w128 (to_z w128 (of_z w128 py) *ℤ to_z w128 (of_z w128 qx))))) ≡ cross_of px py qx qy
cross-same px py qx qy a b c d =
    rw (distance_same px a, distance_same py b, distance_same qx c, distance_same qy d)
    (same (px *ℤ qy) (py *ℤ qx) (IsArea-product px qy a d) (IsArea-product py qx b c))

fits_sum : (a b : ℤ) → IsArea a → IsArea b → SFits w128 (to_z w128 (of_z w128 a) +ℤ to_z w128 (of_z w128 b))
fits_sum a b ha hb = omega (arith, ints)

same_sum : (a b : ℤ) → IsArea a → IsArea b → to_z w128 (of_z w128 (to_z w128 (of_z w128 a) +ℤ to_z w128 (of_z w128 b))) ≡ a +ℤ b
same_sum a b ha hb = omega (arith, ints)

pub dot-fits : (px py qx qy : ℤ) → IsDistance px → IsDistance py → IsDistance qx → IsDistance qy
    → SFits w128 (to_z w128 (of_z w128 (to_z w128 (of_z w128 px) *ℤ to_z w128 (of_z w128 qx)))
    +ℤ to_z w128 (of_z w128 (to_z w128 (of_z w128 py) *ℤ to_z w128 (of_z w128 qy))))
dot-fits px py qx qy a b c d =
    rw (distance_same px a, distance_same py b, distance_same qx c, distance_same qy d)
    (fits_sum (px *ℤ qx) (py *ℤ qy) (IsArea-product px qx a c) (IsArea-product py qy b d))

pub dot-same : (px py qx qy : ℤ) → IsDistance px → IsDistance py → IsDistance qx → IsDistance qy
    → to_z w128 (of_z w128 (to_z w128 (of_z w128 (to_z w128 (of_z w128 px) *ℤ to_z w128 (of_z w128 qx)))
    +ℤ to_z w128 (of_z w128 (to_z w128 (of_z w128 py) *ℤ to_z w128 (of_z w128 qy))))) ≡ dot_of px py qx qy
dot-same px py qx qy a b c d =
    rw (distance_same px a, distance_same py b, distance_same qx c, distance_same qy d)
    (same_sum (px *ℤ qx) (py *ℤ qy) (IsArea-product px qx a c) (IsArea-product py qy b d))

coordinates_small : (p q : ℤ) → IsCoordinate p → IsCoordinate q → unsigned_abs (p *ℤ q) ≤ 100000000000000000000
coordinates_small p q hp hq =
    let a : unsigned_abs p ≤ 10000000000 = omega (arith, ints) in
    let b : unsigned_abs q ≤ 10000000000 = omega (arith, ints) in
    let m : unsigned_abs p * unsigned_abs q ≤ 10000000000 * 10000000000 = mul-le-mul a b in
    omega (arith, unsigned_abs-mul p q)

difference_small : (a b : ℤ) → unsigned_abs a ≤ 100000000000000000000 → unsigned_abs b ≤ 100000000000000000000 → IsTriangle (a -ℤ b)
difference_small a b ha hb = (omega (arith, ints), omega (arith, ints))

pub IsTriangle-cross : (px py qx qy : ℤ) → IsCoordinate px → IsCoordinate py → IsCoordinate qx → IsCoordinate qy → IsTriangle (cross_of px py qx qy)
IsTriangle-cross px py qx qy a b c d = difference_small (px *ℤ qy) (py *ℤ qx) (coordinates_small px qy a d) (coordinates_small py qx b c)
