-- The order of fractions is that of their cross products.
use Rattle.std.proofs.Common.{◌≡◌, ℕ, ◌+◌, ◌*◌, ◌/◌, ◌<◌, ◌≤◌, refl, sym, ap, arith, ◌∙◌, inl, inr}
use Rattle.std.specs.declared.cmp.Ordering.TheVariants.{Less, Equal, Greater}
use Rattle.std.specs.Ordering.{nat_cmp}
use Rattle.std.proofs.Math.Nat.{mul-le-mul, mul-le-mul_right, div-mul-le_self, le-div_iff_mul-le, le_of_mul-le-mul_right}
use Rattle.std.proofs.lemmas.Bool.{cases_lt}
use Rattle.std.proofs.lemmas.Bool.Decides.{nat_tests}
use Rattle.land_fraction.specs.Ratio.{Ratio, IsFraction}
use Rattle.land_fraction.specs.Order.{scaled_value, ratio_cmp}
use Rattle.land_fraction.proofs.Fractions.{one_fraction}

less : (x y : ℕ) → x < y → nat_cmp x y ≡ Less
less x y h = grind (arith, nat_tests)

greater : (x y : ℕ) → y < x → nat_cmp x y ≡ Greater
greater x y h = grind (arith, nat_tests)

equal : (x : ℕ) → nat_cmp x x ≡ Equal
equal x = grind (arith, nat_tests)

-- fractions that differ are at least one part of 10^18 apart
place_rises : (m b n d : ℕ) → 0 < b → 0 < d → b ≤ 1000000000 → d ≤ 1000000000 → m * d < n * b → m * 1000000000000000000 / b < n * 1000000000000000000 / d
place_rises m b n d pos_b pos_d fits_b fits_d h =
    let q : ℕ = m * 1000000000000000000 / b in
    let whole : q * b ≤ m * 1000000000000000000 = div-mul-le_self (m * 1000000000000000000) b in
    let wider : q * b * d ≤ m * 1000000000000000000 * d = mul-le-mul_right d whole in
    let area : b * d ≤ 1000000000 * 1000000000 = mul-le-mul fits_b fits_d in
    let apart : (m * d + 1) * 1000000000000000000 ≤ n * b * 1000000000000000000 = mul-le-mul_right 1000000000000000000 (omega arith) in
    let room : (q + 1) * d * b ≤ n * 1000000000000000000 * b = omega arith in
    let more : q + 1 ≤ n * 1000000000000000000 / d = (le-div_iff_mul-le pos_d).1 (le_of_mul-le-mul_right room pos_b) in
    omega arith

place_below : (f g : Ratio) → IsFraction f → IsFraction g → f.numerator * g.denominator < g.numerator * f.denominator → scaled_value f < scaled_value g
place_below f g h k e = place_rises f.numerator f.denominator g.numerator g.denominator h.lowest.positive k.lowest.positive h.not_too_fine k.not_too_fine e

first_less : (f g : Ratio) → scaled_value f < scaled_value g → ratio_cmp f g ≡ Less
first_less f g e = rw (less (scaled_value f) (scaled_value g) e) refl

first_greater : (f g : Ratio) → scaled_value g < scaled_value f → ratio_cmp f g ≡ Greater
first_greater f g e = rw (greater (scaled_value f) (scaled_value g) e) refl

itself : (f : Ratio) → ratio_cmp f f ≡ Equal
itself f = rw (equal (scaled_value f), equal f.numerator, equal f.denominator) refl

tied : (f g : Ratio) → IsFraction f → IsFraction g → f.numerator * g.denominator ≡ g.numerator * f.denominator → nat_cmp (f.numerator * g.denominator) (g.numerator * f.denominator) ≡ ratio_cmp f g
tied f g h k e =
    let same : f ≡ g = one_fraction f g h k e in
    let left : nat_cmp (f.numerator * g.denominator) (g.numerator * f.denominator) ≡ Equal = rw e (equal (g.numerator * f.denominator)) in
    left ∙ sym (itself f) ∙ ap (λ (t : Ratio). ratio_cmp f t) same

pub order_of-fractions : (f g : Ratio) → IsFraction f → IsFraction g → nat_cmp (f.numerator * g.denominator) (g.numerator * f.denominator) ≡ ratio_cmp f g
order_of-fractions f g h k =
    elim (cases_lt (f.numerator * g.denominator) (g.numerator * f.denominator)) [
      | inl below ↦ less _ _ below ∙ sym (first_less f g (place_below f g h k below))
      | inr upto ↦ elim (cases_lt (g.numerator * f.denominator) (f.numerator * g.denominator)) [
        | inl above ↦ greater _ _ above ∙ sym (first_greater f g (place_below g f k h above))
        | inr least ↦ tied f g h k (omega arith)
      ]
    ]
