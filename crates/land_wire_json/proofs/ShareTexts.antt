-- Shares are written in their canonical form.
use Rattle.std.proofs.Common.{suc, ◌<◌, ◌≤◌, ◌^◌, arith, length, get_or, ◌≡◌, ℕ, List, [], ◌∷◌, ◌++◌, refl, ap, codes, ◌∙◌, decimal}
use Rattle.std.specs.Int.{IsInRange}
use Rattle.std.proofs.lemmas.Fmt.{decimal_is_IsNumeral}
use Rattle.std.proofs.lemmas.Str.Parse.{digit_at}
use Rattle.std.proofs.lemmas.Grind.{flat_map-append}
use Rattle.json.specs.Print.{escape, escape_byte}
use Rattle.land_fraction.specs.Ratio.{Ratio, IsFraction}
use Rattle.land_fraction.specs.Text.{fraction_text}
use Rattle.land_wire_json.specs.Texts.Values.{share_text, quoted_word}
use Rattle.serde_json.proofs.OnLiterals.{serde_json_on_literals}

plain_byte : (c : ℕ) → 48 ≤ c → c ≤ 57 → escape_byte c ≡ c ∷ []
unfolding escape_byte
plain_byte c low high = grind (arith, low, high)

plain_bytes : (s : List ℕ) → ((i : ℕ) → i < length s → IsInRange 48 57 (get_or s i 0)) → escape s ≡ s
plain_bytes [] each = refl
plain_bytes (c ∷ s) each =
    let here = each 0 (omega arith) in
    rw (plain_byte c here.0 here.1) (ap (λ (t : List ℕ). c ∷ t) (plain_bytes s (λ i below. each (suc i) (omega (arith, below)))))

pub digits_are_plain : (n : ℕ) → n < 2 ^ 64 → escape (decimal n) ≡ decimal n
digits_are_plain n small =
    let numeral = (decimal_is_IsNumeral n small).0 in
    plain_bytes (decimal n) (λ i below. digit_at (decimal n) i numeral.1 below)

plain_share : (f : Ratio) → IsFraction f → escape (fraction_text f) ≡ fraction_text f
unfolding escape_byte
plain_share f is =
    let above = digits_are_plain f.numerator (omega (arith, is.proper.at_most_one, is.not_too_fine)) in
    let below = digits_are_plain f.denominator (omega (arith, is.not_too_fine)) in
    flat_map-append escape_byte (decimal f.numerator ++ codes "/") (decimal f.denominator)
    ∙ ap (λ (t : List ℕ). t ++ escape (decimal f.denominator)) (flat_map-append escape_byte (decimal f.numerator) (codes "/"))
    ∙ ap (λ (t : List ℕ). (t ++ codes "/") ++ escape (decimal f.denominator)) above
    ∙ ap (λ (t : List ℕ). (decimal f.numerator ++ codes "/") ++ t) below

pub share-text : (f : Ratio) → IsFraction f → share_text f ≡ quoted_word (fraction_text f)
unfolding serde_json_on_literals
share-text f is = ap (λ (t : List ℕ). 34 ∷ (t ++ codes "\"")) (plain_share f is)
