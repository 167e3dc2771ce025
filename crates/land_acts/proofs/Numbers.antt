-- Equality of numbers, as a test and by their order.
use Rattle.std.proofs.Common.{◌≡◌, ℕ, ◌<◌, true, false, ◌∙◌, arith}
use Rattle.std.specs.Prelude.{nat_eq}
use Rattle.std.specs.Ordering.{nat_cmp, eq_by_cmp}
use Rattle.std.specs.Cmp.{unsigned_tied}
use Rattle.std.specs.FinMap.{nat_cmp-IsAntisymmetric}
use Rattle.std.proofs.lemmas.Bool.Decides.{nat_tests}
use Rattle.land_core.proofs.FiniteMaps.{is_equal}

pub one_number : (n m : ℕ) → eq_by_cmp nat_cmp n m ≡ true → n ≡ m
one_number n m at = nat_cmp-IsAntisymmetric n m (is_equal _ at)

pub tied_number : (n m : ℕ) → eq_by_cmp nat_cmp n m ≡ nat_eq n m
tied_number n m = unsigned_tied n m

pub turned_number : (n m : ℕ) → nat_eq n m ≡ false → nat_eq m n ≡ false
turned_number n m h = grind (arith, nat_tests)

-- a smaller number is a different one
pub lesser_apart : (n m : ℕ) → n < m → eq_by_cmp nat_cmp n m ≡ false
lesser_apart n m less = tied_number n m ∙ (grind (arith, nat_tests))
