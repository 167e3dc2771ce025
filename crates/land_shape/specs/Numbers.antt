-- Coordinates: an optional sign, at least one digit, and optionally a point with 0 to 20 zeros after it. Any
-- number of digits is allowed. The value is a whole number of millimetres.
use Rattle.std.specs.Prelude.{ℕ, ℤ, Bool, true, false, List, [], ◌∷◌, ◌==◌, ◌&&◌, if◌then◌else◌, Option, Some}
use Rattle.std.specs.Prelude.{None, length, pos, ◌-ℤ◌, nat_le, nat_lt}
use Rattle.std.specs.List.{before_first, after_first, list_all}
use Rattle.std.specs.Option.{option_map}
use Rattle.std.specs.Char.{is_ascii_digit}
use Rattle.std.specs.Str.Parse.{digits_value}

abbrev pub is_point_byte : ℕ → Bool
is_point_byte b = b == 46

abbrev pub is_zero_byte : ℕ → Bool
is_zero_byte b = b == 48

abbrev pub are_zeros : List ℕ → Bool
are_zeros bs = list_all is_zero_byte bs

abbrev pub are_few_zeros : List ℕ → Bool
are_few_zeros bs = are_zeros bs && nat_le (length bs) 20

abbrev pub are_digits : List ℕ → Bool
are_digits bs = list_all is_ascii_digit bs

-- one digit or more
abbrev pub digits_of : List ℕ → Option ℕ
digits_of bs = if nat_lt 0 (length bs) && are_digits bs then Some (digits_value 10 bs) else None

-- digits, and a point with zeros
abbrev pub unsigned_of : List ℕ → Option ℕ
unsigned_of w =
    if are_few_zeros (after_first is_point_byte w) then digits_of (before_first is_point_byte w)
    else None

-- whether the first byte is a minus, and the remainder without a sign
abbrev pub split_sign : List ℕ → Bool × List ℕ
split_sign [] = (false, [])
split_sign (b ∷ w) = if b == 45 then (true, w) else (if b == 43 then (false, w) else (false, b ∷ w))

abbrev pub with_sign : Bool → ℕ → ℤ
with_sign negative n = if negative then pos 0 -ℤ pos n else pos n

-- the value of a word, or None if it is not a coordinate
abbrev pub coordinate_of : List ℕ → Option ℤ
coordinate_of w = option_map (with_sign (split_sign w).0) (unsigned_of (split_sign w).1)
