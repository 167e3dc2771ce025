-- Numbers digit by digit
use Rattle.std.proofs.Common.{◌≡◌, ℕ, ◌+◌, ◌*◌, ◌-◌, ◌<◌, ◌≤◌, Bool, true, false, List, length, take, get_or, sym, ap, ◌∙◌, arith, min, refl, not, nat_lt, Option, Some, None, unwrap_or}
use Rattle.std.proofs.lemmas.Bool.Decides.{nat_tests}
use Rattle.std.proofs.lemmas.List.Folds.{list_all_at}
use Rattle.std.proofs.lemmas.Int.Digits.{digits_value_more}
use Rattle.std.proofs.lemmas.Str.{digit_value_digit}
use Rattle.std.proofs.lemmas.Int.{ints}
use Rattle.std.proofs.lemmas.List.Sums.{prefix_len-le-length}
use Rattle.std.specs.List.{position, position_or_len}
use Rattle.std.specs.Option.{option_map}
use lib.IntN.{ℤ}
use Rattle.std.specs.Char.{is_ascii_digit, digit_value}
use Rattle.std.specs.Int.{IsInRange}
use Rattle.std.specs.Str.Parse.{digits_value}
use Rattle.land_shape.specs.Numbers.{are_digits, unsigned_of, split_sign, with_sign, coordinate_of}
use Rattle.land_shape.specs.Coordinate.{IsCoordinate}
use Rattle.land_shape.proofs.GrammarLemmas.{either_way}

digit_means : (c : ℕ) → is_ascii_digit c ≡ true → IsInRange 48 57 c
digit_means c h = grind (arith, nat_tests)

pub digit_at : (ds : List ℕ) (i : ℕ) → i < length ds → are_digits ds ≡ true → IsInRange 48 57 (get_or ds i 0)
digit_at ds i h all =
    either_way (is_ascii_digit (get_or ds i 0))
    (λ t. digit_means (get_or ds i 0) t)
    (λ f. let g : are_digits ds ≡ false = list_all_at is_ascii_digit ds i 0 h f in let e : true ≡ false = sym all ∙ g in cc e)

-- one more digit, with every number above the limit capped
pub capped_more : (ds : List ℕ) (i value : ℕ) → i < length ds → are_digits ds ≡ true → value ≡ min (digits_value 10 (take i ds)) 10000000001
    → min (value * 10 + (get_or ds i 0 - 48)) 10000000001 ≡ min (digits_value 10 (take (i + 1) ds)) 10000000001
capped_more ds i value h all e =
    let r = digit_at ds i h all in
    let d : digit_value (get_or ds i 0) + 48 ≡ get_or ds i 0 = digit_value_digit (get_or ds i 0) r in
    let m = digits_value_more 10 ds i h in
    omega (arith, r, d, m, e)

-- the value of a capped number above the limit is not a coordinate
too_far : (negative : Bool) (n : ℕ) → 10000000000 < n → ¬ IsCoordinate (with_sign negative n)
too_far true n h c = let l = c.0 in let g = c.1 in omega (arith, ints)
too_far false n h c = let l = c.0 in let g = c.1 in omega (arith, ints)

pub far_number : (w : List ℕ) (size : ℕ) → Some size ≡ option_map (λ n. min n 10000000001) (unsigned_of (split_sign w).1) → 10000000000 < size
    → (z : ℤ) × ((coordinate_of w ≡ Some z) × (¬ IsCoordinate z))
far_number w size e h = go (unsigned_of (split_sign w).1) refl e
  where
    go : (o : Option ℕ) → unsigned_of (split_sign w).1 ≡ o → Some size ≡ option_map (λ n. min n 10000000001) o
        → (z : ℤ) × ((coordinate_of w ≡ Some z) × (¬ IsCoordinate z))
    go None is k = cc k
    go (Some n) is k =
        let s : size ≡ min n 10000000001 = cc in
        (with_sign (split_sign w).0 n, (ap (λ (o : Option ℕ). option_map (with_sign (split_sign w).0) o) is, too_far (split_sign w).0 n (omega arith)))

-- the first point, found or not
pub first_found : (p : ℕ → Bool) (w : List ℕ) → unwrap_or (position p w) (length w) ≡ position_or_len p w
first_found p w =
    either_way (nat_lt (position_or_len p w) (length w))
    (λ t. rw t refl)
    (λ f. let few = prefix_len-le-length (λ x. not (p x)) w in
    let out : length w ≤ position_or_len p w = grind (arith, nat_tests) in
    let same : length w ≡ position_or_len p w = omega arith in
    rw f same)
