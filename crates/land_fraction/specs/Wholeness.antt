-- Sums of shares.
use Rattle.std.specs.Prelude.{◌≡◌, ℕ, ◌*◌, ◌/◌, ◌<◌, ◌≤◌, ◌&&◌, Bool, nat_eq, List, sum_by, Option, Some}
use Rattle.std.specs.Prelude.{None, is_some, is_none, if◌then◌else◌, All}
use Rattle.std.specs.Int.{◌∣◌}
use Rattle.std.specs.List.{list_all}
use Rattle.land_fraction.specs.Answer.{is_multiple}
use Rattle.land_fraction.specs.Least.{least_to}
use Rattle.land_fraction.specs.Ratio.{Ratio, max_denominator}
use Rattle.land_fraction.specs.declared.lists.Whole.{Whole}
use Rattle.land_fraction.specs.declared.lists.Whole.TheVariants.{Yes, No, TooFine}

-- m is above 0 and a multiple of every denominator
pub record IsCommonMultiple (m : ℕ) (shares : List Ratio) : Type 0 where
  pub positive : 0 < m
  pub of_all : All (λ share. share.denominator ∣ m) shares

-- the number of parts that the shares have, if the whole has m equal parts: the sum of n * (m/d)
abbrev pub parts_of : ℕ → List Ratio → ℕ
parts_of m shares = sum_by (λ share. share.numerator * (m / share.denominator)) shares

-- the shares sum to 1: they have all of m equal parts, for some common multiple m of at most the maximum
-- denominator
abbrev pub IsWhole : List Ratio → Type 0
IsWhole shares = (m : ℕ) × (m ≤ max_denominator) × IsCommonMultiple m shares × (parts_of m shares ≡ m)

-- each common multiple is above the maximum denominator
abbrev pub IsTooFine : List Ratio → Type 0
IsTooFine shares = (m : ℕ) → IsCommonMultiple m shares → max_denominator < m

-- the correct result for a list of shares
abbrev pub IsWholeness : List Ratio → Whole → Type 0
IsWholeness shares Yes = IsWhole shares
IsWholeness shares No = (¬ IsWhole shares) × (¬ IsTooFine shares)
IsWholeness shares TooFine = IsTooFine shares

-- the least common multiple of the denominators, if it is at most the maximum denominator
abbrev pub IsCommon : List Ratio → Option ℕ → Type 0
IsCommon shares (Some m) = (m ≤ max_denominator) × IsCommonMultiple m shares
    × ((k : ℕ) → IsCommonMultiple k shares → m ≤ k)
IsCommon shares None = IsTooFine shares

abbrev pub is_common_multiple : ℕ → List Ratio → Bool
is_common_multiple m shares = list_all (λ share. is_multiple m share.denominator) shares

-- the two results as functions of the list (`laws::wholeness_of_lists` and `laws::common_of_lists` prove that
-- they are correct)
unfoldable pub common_of : List Ratio → Option ℕ
common_of shares = least_to max_denominator (λ m. is_common_multiple m shares)

unfoldable pub wholeness : List Ratio → Whole
wholeness shares =
    if is_none (common_of shares) then TooFine
    else if is_some (least_to max_denominator (λ m. is_common_multiple m shares
    && nat_eq (parts_of m shares) m))
    then Yes
    else No
