-- Greatest common divisors.
use Rattle.std.specs.Prelude.{ℕ, ◌*◌}
use Rattle.std.specs.Int.{◌∣◌}

-- g divides both numbers, and a number that divides the same multiple of both divides that multiple of g
pub record IsGreatestDivisor (a b g : ℕ) : Type 0 where
  pub first : g ∣ a
  pub second : g ∣ b
  pub greatest : (d k : ℕ) → d ∣ a * k → d ∣ b * k → d ∣ g * k

-- m is a multiple of both numbers, and divides each number that is one
pub record IsLeastMultiple (a b m : ℕ) : Type 0 where
  pub first : a ∣ m
  pub second : b ∣ m
  pub least : (k : ℕ) → a ∣ k → b ∣ k → m ∣ k
