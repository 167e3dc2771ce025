-- The order of commits.
use Rattle.std.proofs.Common.{◌≡◌, true, arith}
use Rattle.std.specs.Prelude.{ℤ, ◌<ℤ◌, ◌≤ℤ◌, int_le}
use Rattle.std.proofs.lemmas.Int.{ints}

pub le_itself : (t : ℤ) → t ≤ℤ t
le_itself t = omega (arith, ints)

pub le_through : (s t u : ℤ) → s ≤ℤ t → t ≤ℤ u → s ≤ℤ u
le_through s t u p q = omega (arith, ints)

pub le_then_lt : (s t u : ℤ) → s ≤ℤ t → t <ℤ u → s <ℤ u
le_then_lt s t u p q = omega (arith, ints)

pub lt_through : (s t u : ℤ) → s <ℤ t → t <ℤ u → s <ℤ u
lt_through s t u p q = omega (arith, ints)

pub lt_is_le : (s t : ℤ) → s <ℤ t → s ≤ℤ t
lt_is_le s t p = omega (arith, ints)

pub le_true : (s t : ℤ) → s ≤ℤ t → int_le s t ≡ true
le_true s t p = grind (arith, ints)

pub le_from : (s t : ℤ) → int_le s t ≡ true → s ≤ℤ t
le_from s t e = grind (arith, ints)
