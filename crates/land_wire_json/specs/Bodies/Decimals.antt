-- Decimal digits of header fields, request targets, shares and words.
use Rattle.std.specs.Prelude.{ℕ, ◌&&◌, Bool, List, length, nat_le, Option, Some, None, if◌then◌else◌}
use Rattle.std.specs.Char.{is_ascii_digit}
use Rattle.std.specs.List.{list_all}
use Rattle.std.specs.Str.Parse.{digits_value}

-- the text is 1 to `most` decimal digits; leading zeros are allowed
abbrev pub are_digits_up_to : ℕ → List ℕ → Bool
are_digits_up_to most text =
    nat_le 1 (length text) && nat_le (length text) most && list_all is_ascii_digit text

-- the value of the digits, or none if the text is not 1 to `most` digits
abbrev pub digits_in : ℕ → List ℕ → Option ℕ
digits_in most text = if are_digits_up_to most text then Some (digits_value 10 text) else None
