-- The order of fractions.
use Rattle.std.specs.Prelude.{ℕ, ◌*◌, ◌/◌}
use Rattle.std.specs.declared.cmp.Ordering.{Ordering}
use Rattle.std.specs.Ordering.{nat_cmp, on, then_cmp}
use Rattle.land_fraction.specs.Ratio.{Ratio}

-- a/b against c/d: a * d against c * b
abbrev pub cross_cmp : Ratio → Ratio → Ordering
cross_cmp f g = nat_cmp (f.numerator * g.denominator) (g.numerator * f.denominator)

-- how many of 10^18 equal parts a fraction has, rounded down. Fractions that differ are at least one such
-- part apart
abbrev pub scaled_value : Ratio → ℕ
scaled_value f = f.numerator * 1000000000000000000 / f.denominator

-- The cross products order fractions, but not all pairs: a denominator of 0 breaks the laws of an order. This
-- one orders all pairs, and fractions as the cross products do (`laws::order_of_fractions`)
abbrev pub ratio_cmp : Ratio → Ratio → Ordering
ratio_cmp = then_cmp (on scaled_value nat_cmp)
    (then_cmp (on (λ f. f.numerator) nat_cmp) (on (λ f. f.denominator) nat_cmp))
