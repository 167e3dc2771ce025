-- Laws of the definitions, for all pairs and all lists of pairs.
use Rattle.std.specs.Prelude.{◌≡◌, ◌≢◌, ◌↔◌, ◌<◌, ℕ, List, [], ◌∷◌, Option, Result, Ok}
use Rattle.std.specs.Int.{◌∣◌}
use Rattle.std.specs.List.Sorted.{IsPermutation}
use Rattle.land_fraction.specs.Answer.{IsFractionOrFault, fraction_of}
use Rattle.land_fraction.specs.Order.{cross_cmp, ratio_cmp}
use Rattle.land_fraction.specs.Ratio.{Ratio, MeanSame, IsFraction, sum_of, difference_of}
use Rattle.land_fraction.specs.Wholeness.{IsCommon, IsCommonMultiple, IsWholeness, common_of, parts_of}
use Rattle.land_fraction.specs.Wholeness.{wholeness}
use Rattle.land_fraction.specs.declared.fault.FractionFault.{FractionFault}
use Rattle.land_fraction.specs.declared.lists.Whole.{Whole}
use Rattle.land_fraction.specs.declared.lists.Whole.TheVariants.{Yes, TooFine}

-- each pair has one correct result, and the function returns it
abbrev pub FractionAnswerLaw : Type 0
FractionAnswerLaw = (p : Ratio) (r : Result Ratio FractionFault) → IsFractionOrFault p r ↔ (r ≡ fraction_of p)

-- each list has one right least common multiple
abbrev pub CommonLaw : Type 0
CommonLaw = (shares : List Ratio) (common : Option ℕ) → IsCommon shares common ↔ (common ≡ common_of shares)

-- each list is exactly one of whole, not whole and too fine
abbrev pub WholenessLaw : Type 0
WholenessLaw = (shares : List Ratio) (whole : Whole) → IsWholeness shares whole ↔ (whole ≡ wholeness shares)

-- fractions that mean the same are one
abbrev pub OneFractionLaw : Type 0
OneFractionLaw = (f g : Ratio) → IsFraction f → IsFraction g → MeanSame f g → f ≡ g

-- a fraction is unchanged by the function
abbrev pub SameFractionLaw : Type 0
SameFractionLaw = (f : Ratio) → IsFraction f → fraction_of f ≡ Ok f

-- fractions are ordered as their cross products are
abbrev pub OrderLaw : Type 0
OrderLaw = (f g : Ratio) → IsFraction f → IsFraction g → ratio_cmp f g ≡ cross_cmp f g

-- a without a share, and b with that share, have the sum of a and b
abbrev pub KeptSumLaw : Type 0
KeptSumLaw = (a b share left grown : Ratio) → fraction_of (difference_of a share) ≡ Ok left
    → fraction_of (sum_of b share) ≡ Ok grown
    → MeanSame (sum_of left grown) (sum_of a b)

-- the order of a list does not matter
abbrev pub PermutedLaw : Type 0
PermutedLaw = (shares others : List Ratio) → IsPermutation shares others → wholeness shares ≡ wholeness others

-- a share of a list is moved from one entry to another: a whole list stays whole, or becomes too fine
abbrev pub MovedLaw : Type 0
MovedLaw = (a b share left grown : Ratio) (rest : List Ratio) → fraction_of (difference_of a share) ≡ Ok left
    → fraction_of (sum_of b share) ≡ Ok grown
    → wholeness (a ∷ b ∷ rest) ≡ Yes → wholeness (left ∷ grown ∷ rest) ≢ TooFine
    → wholeness (left ∷ grown ∷ rest) ≡ Yes

-- a share of an entry becomes an entry of its own
abbrev pub SplitLaw : Type 0
SplitLaw = (a share left : Ratio) (rest : List Ratio) → fraction_of (difference_of a share) ≡ Ok left
    → wholeness (a ∷ rest) ≡ Yes → wholeness (left ∷ share ∷ rest) ≢ TooFine
    → wholeness (left ∷ share ∷ rest) ≡ Yes

-- an entry is added to another one whole
abbrev pub JoinedLaw : Type 0
JoinedLaw = (a b sum : Ratio) (rest : List Ratio) → fraction_of (sum_of a b) ≡ Ok sum
    → wholeness (a ∷ b ∷ rest) ≡ Yes → wholeness (sum ∷ rest) ≢ TooFine → wholeness (sum ∷ rest) ≡ Yes

-- the parts of a sum are those of both fractions, for each number that all three denominators divide
abbrev pub SumPartsLaw : Type 0
SumPartsLaw = (m : ℕ) (a b sum : Ratio) → fraction_of (sum_of a b) ≡ Ok sum → 0 < m → a.denominator ∣ m
    → b.denominator ∣ m → sum.denominator ∣ m
    → parts_of m (a ∷ b ∷ []) ≡ parts_of m (sum ∷ [])

-- the parts of a difference and of its subtrahend are those of the minuend
abbrev pub DifferencePartsLaw : Type 0
DifferencePartsLaw = (m : ℕ) (a share left : Ratio) → fraction_of (difference_of a share) ≡ Ok left → 0 < m
    → a.denominator ∣ m → share.denominator ∣ m → left.denominator ∣ m
    → parts_of m (left ∷ share ∷ []) ≡ parts_of m (a ∷ [])

-- if two lists have equal numbers of parts for some common multiple and one is whole, the other is whole or
-- too fine
abbrev pub SamePartsLaw : Type 0
SamePartsLaw = (m : ℕ) (shares others : List Ratio) → IsCommonMultiple m shares → IsCommonMultiple m others
    → parts_of m shares ≡ parts_of m others
    → wholeness shares ≡ Yes → wholeness others ≢ TooFine → wholeness others ≡ Yes
