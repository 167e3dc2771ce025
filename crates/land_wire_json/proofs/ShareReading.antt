-- Reading the text of a share returns that share.
use Rattle.std.proofs.Common.{◌≡◌, ◌≤◌, ◌<◌, ◌+◌, ℕ, suc, List, [], ◌∷◌, ◌++◌, true, false, ◌==◌, nat_le, length, take, drop, Some, Ok, decimal, refl, ap, ap₂, ◌∙◌, arith, append_assoc}
use Rattle.std.proofs.Math.Seq.{take-append_seam}
use Rattle.std.proofs.lemmas.Bool.Decides.{nat_tests}
use Rattle.std.proofs.lemmas.Fmt.{decimal_is_IsNumeral, length-decimal-le}
use Rattle.std.proofs.lemmas.Str.Parse.{digit_from_value}
use Rattle.std.specs.Char.{digit_value, is_ascii_digit}
use Rattle.std.specs.List.{list_all, before_first, after_first, position_or_len}
use Rattle.std.specs.Str.Parse.{AllDigits}
use Rattle.land_fraction.specs.Laws.{SameFractionLaw}
use Rattle.land_fraction.specs.Ratio.{Ratio, IsFraction}
use Rattle.land_fraction.specs.Text.{fraction_text}
use Rattle.land_wire_json.specs.Bodies.Decimals.{are_digits_up_to, digits_in}
use Rattle.land_wire_json.specs.Bodies.Shares.{is_slash, share_or_fault, share_from, share_in_text}

is_digit : (c : ℕ) → digit_value c < 10 → is_ascii_digit c ≡ true
is_digit c h = let k = digit_from_value c h in grind (arith, nat_tests)

no_slash : (c : ℕ) → digit_value c < 10 → (c == 47) ≡ false
no_slash c h = let k = digit_from_value c h in grind (arith, nat_tests)

all_digits : (ds : List ℕ) → AllDigits 10 ds → list_all is_ascii_digit ds ≡ true
all_digits [] h = refl
all_digits (c ∷ cs) h = rw (is_digit c h.0, all_digits cs h.1) refl

slash_after : (ds rest : List ℕ) → AllDigits 10 ds → position_or_len is_slash (ds ++ 47 ∷ rest) ≡ length ds
slash_after [] rest h = refl
slash_after (c ∷ cs) rest h = rw (no_slash c h.0) (omega (arith, slash_after cs rest h.1))

dropped : (ds rest : List ℕ) → drop (length ds + 1) (ds ++ 47 ∷ rest) ≡ rest
dropped [] rest = refl
dropped (c ∷ cs) rest = let e : length (c ∷ cs) + 1 ≡ suc (length cs + 1) = omega arith in rw e (dropped cs rest)

few_digits : (n : ℕ) → n ≤ 1000000000 → are_digits_up_to 18 (decimal n) ≡ true
few_digits n h =
    let e = decimal_is_IsNumeral n (omega arith) in
    let long : length (decimal n) ≤ 18 = length-decimal-le 18 n (omega arith) (omega arith) (omega arith) in
    let some : nat_le 1 (length (decimal n)) ≡ true = grind (arith, nat_tests, e.0.0) in
    let few : nat_le (length (decimal n)) 18 ≡ true = grind (arith, nat_tests, long) in
    rw (some, few, all_digits (decimal n) e.0.1) refl

number_is_read : (n : ℕ) → n ≤ 1000000000 → digits_in 18 (decimal n) ≡ Some n
number_is_read n h = let e = decimal_is_IsNumeral n (omega arith) in rw (few_digits n h) (ap Some e.1)

pub share_is_read : SameFractionLaw → (f : Ratio) → IsFraction f → share_in_text (fraction_text f) ≡ Ok f
unfolding share_in_text
share_is_read same f h =
    let n = f.numerator in
    let d = f.denominator in
    let n_small : n ≤ 1000000000 = omega (arith, h.proper.at_most_one, h.not_too_fine) in
    let d_small : d ≤ 1000000000 = h.not_too_fine in
    let e = decimal_is_IsNumeral n (omega arith) in
    let text : fraction_text f ≡ decimal n ++ 47 ∷ decimal d = append_assoc (decimal n) (47 ∷ []) (decimal d) in
    let at = slash_after (decimal n) (decimal d) e.0.1 in
    let front : before_first is_slash (fraction_text f) ≡ decimal n = rw text (ap (λ i. take i (decimal n ++ 47 ∷ decimal d)) at ∙ take-append_seam (decimal n) (47 ∷ decimal d)) in
    let back : after_first is_slash (fraction_text f) ≡ decimal d = rw text (ap (λ i. drop (i + 1) (decimal n ++ 47 ∷ decimal d)) at ∙ dropped (decimal n) (decimal d)) in
    ap₂ share_from (ap (digits_in 18) front ∙ number_is_read n n_small) (ap (digits_in 18) back ∙ number_is_read d d_small) ∙ ap share_or_fault (same f h)
