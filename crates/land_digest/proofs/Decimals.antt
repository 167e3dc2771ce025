-- Digits are the decimal form that `itoa` writes.
use Rattle.std.proofs.Common.{◌≡◌, ℕ, ◌<◌, ◌^◌, ◌+◌, suc, ℤ, pos, negsuc, Bool, true, false, cond, [], ◌∷◌}
use Rattle.std.proofs.Common.{◌++◌, map as map_list, nat_eq, decimal, refl, ap, ◌∙◌, arith}
use Rattle.std.proofs.lemmas.Bool.Decides.{nat_tests}
use Rattle.std.proofs.lemmas.Fmt.{decimal-digits_of, decimal_digit}
use Rattle.std.specs.Fmt.{signed_decimal}
use Rattle.std.specs.Int.Digits.{digits_of}
use lib.Signed.{mag}
use Rattle.land_digest.specs.Fields.{Number, digits, field_text}

zero_from : (n : ℕ) → nat_eq n 0 ≡ true → n ≡ 0
zero_from n h = grind (arith, nat_tests)

positive : (n : ℕ) → nat_eq n 0 ≡ false → 0 < n
positive n h = grind (arith, nat_tests)

pub decimal_digits : (n : ℕ) → n < 2 ^ 64 → decimal n ≡ digits n
decimal_digits n small = go (nat_eq n 0) refl
  where
    go : (b : Bool) → nat_eq n 0 ≡ b
        → decimal n ≡ cond b (48 ∷ []) (map_list (λ d. 48 + d) (digits_of 10 n))
    go true is = ap decimal (zero_from n is) ∙ decimal_digit 0 (omega arith)
    go false is = decimal-digits_of n (positive n is) small

pub integer_text : (z : ℤ) → mag z + 1 < 2 ^ 64 → signed_decimal z ++ 59 ∷ [] ≡ field_text (Number z)
integer_text (pos n) small = ap (λ l. l ++ 59 ∷ []) (decimal_digits n (omega (arith, small)))
integer_text (negsuc n) small =
    ap (λ l. 45 ∷ (l ++ 59 ∷ [])) (decimal_digits (suc n) (omega (arith, small)))
