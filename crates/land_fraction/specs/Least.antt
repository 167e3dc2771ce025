-- The least number that passes a test.
use Rattle.std.specs.Prelude.{ℕ, suc, zero, Bool, Option, Some, None, is_some, if◌then◌else◌}

-- the least number from 1 to the bound that passes, if there is one
unfoldable pub least_to : ℕ → (ℕ → Bool) → Option ℕ
least_to zero passes = None
least_to (suc n) passes =
    if is_some (least_to n passes) then least_to n passes
    else if passes (suc n) then Some (suc n)
    else None
