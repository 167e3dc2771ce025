-- The fraction that a pair equals, or the fault that it has.
use Rattle.std.specs.Prelude.{◌≡◌, ℕ, ◌*◌, ◌/◌, ◌%◌, ◌<◌, ◌⊎◌, ◌||◌, Bool, nat_eq, nat_lt, Result, Ok, Err}
use Rattle.std.specs.Prelude.{unwrap_or, if◌then◌else◌}
use Rattle.land_fraction.specs.Least.{least_to}
use Rattle.land_fraction.specs.Ratio.{Ratio, over, MeanSame, IsLeastDenominator, IsProper, IsFraction}
use Rattle.land_fraction.specs.Ratio.{max_denominator}
use Rattle.land_fraction.specs.declared.fault.FractionFault.{FractionFault}
use Rattle.land_fraction.specs.declared.fault.FractionFault.TheVariants.{Zero, AboveOne, TooFine}

-- the result for a pair: a fault if its condition holds and no earlier one does, else the fraction equal to
-- the pair
abbrev pub IsFractionOrFault : Ratio → Result Ratio FractionFault → Type 0
IsFractionOrFault p (Err Zero) = (p.numerator ≡ 0) ⊎ (p.denominator ≡ 0)
IsFractionOrFault p (Err AboveOne) = (0 < p.numerator) × (0 < p.denominator) × (p.denominator < p.numerator)
IsFractionOrFault p (Err TooFine) = IsProper p × ((d : ℕ) × IsLeastDenominator p d × (max_denominator < d))
IsFractionOrFault p (Ok f) = IsProper p × IsFraction f × MeanSame p f

abbrev pub is_multiple : ℕ → ℕ → Bool
is_multiple m d = nat_eq (m % d) 0

-- the least denominator above 0 of a pair that means the same as a pair with a denominator above 0
abbrev pub lowest_denominator : Ratio → ℕ
lowest_denominator p =
    unwrap_or (least_to p.denominator (λ d. is_multiple (p.numerator * d) p.denominator)) p.denominator

abbrev pub in_lowest_terms : Ratio → Ratio
in_lowest_terms p = over (p.numerator * lowest_denominator p / p.denominator) (lowest_denominator p)

-- the result as a function of the pair (`laws::answers_of_pairs` proves that it is the unique correct result)
unfoldable pub fraction_of : Ratio → Result Ratio FractionFault
fraction_of p =
    if nat_eq p.numerator 0 || nat_eq p.denominator 0 then Err Zero
    else if nat_lt p.denominator p.numerator then Err AboveOne
    else if nat_lt max_denominator (lowest_denominator p) then Err TooFine
    else Ok (in_lowest_terms p)
