-- Numbers of at most 18 digits fit in 64 bits.
use Rattle.std.proofs.Common.{◌≡◌, ℕ, ◌+◌, ◌-◌, ◌*◌, ◌<◌, ◌≤◌, ◌^◌, suc, zero, true, List, [], ◌∷◌, length, take, get_or, ap, arith, length-take}
use Rattle.std.specs.List.{list_all}
use Rattle.std.specs.Char.{is_ascii_digit, digit_value}
use Rattle.std.specs.Str.Parse.{digits_value, AllDigits}
use Rattle.std.proofs.lemmas.Bool.{and_parts}
use Rattle.std.proofs.lemmas.Grind.{pow_more}
use Rattle.std.proofs.lemmas.Int.Digits.{digits_value-lt, digits_value_more}

tens : (k j : ℕ) → 10 ^ k ≤ 10 ^ (k + j)
tens k zero = let e : k + 0 ≡ k = omega arith in omega (arith, ap (λ (n : ℕ). 10 ^ n) e)
tens k (suc j) =
    let e : k + suc j ≡ (k + j) + 1 = omega arith in
    omega (arith, tens k j, ap (λ (n : ℕ). 10 ^ n) e, pow_more 10 (k + j))

short_fits : (ds : List ℕ) → AllDigits 10 ds → length ds ≤ 19 → digits_value 10 ds < 2 ^ 64
short_fits ds all few =
    let e : length ds + (19 - length ds) ≡ 19 = omega arith in
    omega (arith, digits_value-lt 10 ds all, tens (length ds) (19 - length ds), ap (λ (n : ℕ). 10 ^ n) e)

one_digit : (b : ℕ) → is_ascii_digit b ≡ true → (digit_value b < 10) × (digit_value b ≡ b - 48) × (48 ≤ b)
one_digit b e = (grind (arith), grind (arith), grind (arith))

pub digits : (v : List ℕ) → list_all is_ascii_digit v ≡ true → (i : ℕ) → AllDigits 10 (take i v)
digits [] e i = elim i as (λ k. AllDigits 10 (take k [])) [ zero ↦ tt | suc k ↦ tt ]
digits (b ∷ v) e i = elim i as (λ k. AllDigits 10 (take k (b ∷ v))) [
  | zero ↦ tt
  | suc k ↦ ((one_digit b (and_parts _ _ e).0).0, digits v (and_parts _ _ e).1 k)
]

pub digit_at : (v : List ℕ) (i : ℕ) → list_all is_ascii_digit v ≡ true → i < length v → is_ascii_digit (get_or v i 0) ≡ true
digit_at [] i e below = absurd (omega arith)
digit_at (b ∷ v) zero e below = (and_parts _ _ e).0
digit_at (b ∷ v) (suc i) e below = digit_at v i (and_parts _ _ e).1 (omega arith)

pub next_digit : (v : List ℕ) (i n : ℕ) → list_all is_ascii_digit v ≡ true → length v ≤ 18 → i < length v → n ≡ digits_value 10 (take i v)
    → (n * 10 + (get_or v i 0 - 48) ≡ digits_value 10 (take (i + 1) v)) × (n * 10 + (get_or v i 0 - 48) < 2 ^ 64)
next_digit v i n e few below is =
    let more = digits_value_more 10 v i below in
    let digit = one_digit (get_or v i 0) (digit_at v i e below) in
    let now : n * 10 + (get_or v i 0 - 48) ≡ digits_value 10 (take (i + 1) v) = omega (arith, more, digit.1, is) in
    let all = digits v e (i + 1) in
    let long : length (take (i + 1) v) ≤ 19 = omega (arith, length-take (i + 1) v, few, below) in
    (now, omega (arith, now, short_fits (take (i + 1) v) all long))
