-- Pairs of whole numbers n/d, and equality of their values. (ISO 19152:2012 defines the share of LA_RRR and
-- of LA_PartyMember as such a pair; the bounds are those of this project's profile.)
use Rattle.std.specs.Prelude.{◌≡◌, ℕ, ◌+◌, ◌-◌, ◌*◌, ◌<◌, ◌≤◌}

pub record Ratio : Type 0 where
  pub numerator : ℕ
  pub denominator : ℕ

-- n/d
abbrev pub over : ℕ → ℕ → Ratio
over n d = record { numerator = n; denominator = d }

-- a/b and c/d are equal if a * d is c * b
abbrev pub MeanSame : Ratio → Ratio → Type 0
MeanSame p q = p.numerator * q.denominator ≡ q.numerator * p.denominator

-- d is the least denominator above 0 of a pair that means the same
pub record IsLeastDenominator (p : Ratio) (d : ℕ) : Type 0 where
  pub positive : 0 < d
  pub reached : (n : ℕ) × MeanSame p (over n d)
  pub least : (q : Ratio) → 0 < q.denominator → MeanSame p q → d ≤ q.denominator

-- the greatest denominator that a fraction may have
abbrev pub max_denominator : ℕ
max_denominator = 1000000000

-- above zero and at most one
pub record IsProper (p : Ratio) : Type 0 where
  pub above_zero : 0 < p.numerator
  pub at_most_one : p.numerator ≤ p.denominator

-- a fraction is a proper pair in lowest terms with a denominator of at most the maximum
pub record IsFraction (f : Ratio) : Type 0 where
  pub proper : IsProper f
  pub lowest : IsLeastDenominator f f.denominator
  pub not_too_fine : f.denominator ≤ max_denominator

-- a/b + c/d is (a * d + c * b)/(b * d)
abbrev pub sum_of : Ratio → Ratio → Ratio
sum_of p q = over (p.numerator * q.denominator + q.numerator * p.denominator) (p.denominator * q.denominator)

-- a/b - c/d is (a * d - c * b)/(b * d). The subtraction stops at 0, so the numerator is 0 if the result is
-- not positive
abbrev pub difference_of : Ratio → Ratio → Ratio
difference_of p q = over (p.numerator * q.denominator - q.numerator * p.denominator)
    (p.denominator * q.denominator)
