-- A printed number is read as that number
use Rattle.std.proofs.Common.{◌≡◌, ℕ, ◌+◌, ◌<◌, ◌^◌, Bool, true, false, List, [], ◌∷◌, length, refl, ap, ◌∙◌, arith, Some, Option, ◌==◌, not, suc, nat_lt}
use Rattle.std.proofs.lemmas.List.{drop_all}
use Rattle.std.proofs.Math.Seq.{take-length}
use Rattle.std.proofs.lemmas.Bool.Decides.{nat_tests}
use Rattle.std.proofs.lemmas.Fmt.{decimal_is_IsNumeral, decimal_nonempty}
use Rattle.std.proofs.lemmas.Str.Parse.{digit_from_value}
use Rattle.std.specs.Int.{IsInRange}
use Rattle.std.specs.Char.{is_ascii_digit}
use Rattle.std.specs.List.{prefix_len, before_first, after_first}
use Rattle.std.specs.Option.{option_map}
use Rattle.std.proofs.lemmas.Int.{ints}
use Rattle.std.specs.Str.Parse.{AllDigits, digits_value}
use Rattle.std.specs.Fmt.{signed_decimal, decimal}
use lib.IntN.{ℤ, pos, negsuc, ◌-ℤ◌}
use lib.Signed.{mag}
use Rattle.land_shape.specs.Numbers.{is_point_byte, are_digits, unsigned_of, split_sign, with_sign, coordinate_of}

no_point : (c : ℕ) → IsInRange 48 57 c → not (is_point_byte c) ≡ true
no_point c h = grind (arith, nat_tests)

is_digit : (c : ℕ) → IsInRange 48 57 c → is_ascii_digit c ≡ true
is_digit c h = grind (arith, nat_tests)

all_before : (ds : List ℕ) → AllDigits 10 ds → prefix_len (λ c. not (is_point_byte c)) ds ≡ length ds
all_before [] h = refl
all_before (d ∷ ds) h = rw (no_point d (digit_from_value d h.0), all_before ds h.1) (omega arith)

all_digits : (ds : List ℕ) → AllDigits 10 ds → are_digits ds ≡ true
all_digits [] h = refl
all_digits (d ∷ ds) h = rw (is_digit d (digit_from_value d h.0)) (all_digits ds h.1)

before_is : (ds : List ℕ) → AllDigits 10 ds → before_first is_point_byte ds ≡ ds
before_is ds h = rw (all_before ds h) (take-length ds)

after_is : (ds : List ℕ) → AllDigits 10 ds → after_first is_point_byte ds ≡ []
after_is ds h = rw (all_before ds h) (drop_all (length ds + 1) ds (omega arith))

has_some : (ds : List ℕ) → 0 < length ds → nat_lt 0 (length ds) ≡ true
has_some ds h = grind (arith, nat_tests)

pub unsigned_printed : (ds : List ℕ) → AllDigits 10 ds → 0 < length ds → unsigned_of ds ≡ Some (digits_value 10 ds)
unsigned_printed ds h some = rw (after_is ds h, before_is ds h, has_some ds some, all_digits ds h) refl

no_minus : (c : ℕ) → IsInRange 48 57 c → (c == 45) ≡ false
no_minus c h = grind (arith, nat_tests)

no_plus : (c : ℕ) → IsInRange 48 57 c → (c == 43) ≡ false
no_plus c h = grind (arith, nat_tests)

no_sign : (ds : List ℕ) → AllDigits 10 ds → split_sign ds ≡ (false, ds)
no_sign [] h = refl
no_sign (d ∷ ds) h = rw (no_minus d (digit_from_value d h.0), no_plus d (digit_from_value d h.0)) refl

positive : (ds : List ℕ) → AllDigits 10 ds → 0 < length ds → coordinate_of ds ≡ Some (pos (digits_value 10 ds))
positive ds h some =
    ap (λ (r : Bool × List ℕ). option_map (with_sign r.0) (unsigned_of r.1)) (no_sign ds h)
    ∙ ap (λ (o : Option ℕ). option_map (with_sign false) o) (unsigned_printed ds h some)

negative : (ds : List ℕ) → AllDigits 10 ds → 0 < length ds → coordinate_of (45 ∷ ds) ≡ Some (pos 0 -ℤ pos (digits_value 10 ds))
negative ds h some = ap (λ (o : Option ℕ). option_map (with_sign true) o) (unsigned_printed ds h some)

below_zero : (n : ℕ) → pos 0 -ℤ pos (suc n) ≡ negsuc n
below_zero n = omega (arith, ints)

pub coordinate_printed : (z : ℤ) → mag z < 2 ^ 63 → coordinate_of (signed_decimal z) ≡ Some z
coordinate_printed (pos n) h =
    let m : n < 2 ^ 64 = omega arith in
    let d = decimal_is_IsNumeral n m in
    positive (decimal n) d.0.1 (decimal_nonempty n m) ∙ ap (λ (k : ℕ). Some (pos k)) d.1
coordinate_printed (negsuc n) h =
    let m : suc n < 2 ^ 64 = omega arith in
    let d = decimal_is_IsNumeral (suc n) m in
    negative (decimal (suc n)) d.0.1 (decimal_nonempty (suc n) m) ∙ ap (λ (k : ℕ). Some (pos 0 -ℤ pos k)) d.1 ∙ ap Some (below_zero n)
