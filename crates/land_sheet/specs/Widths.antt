-- Texts and numbers that fill a column. A text that is longer than its column is not truncated.
use Rattle.std.specs.Prelude.{ℕ, ◌-◌, ◌^◌, false, List, [], decimal}
use Rattle.std.specs.Fmt.{padded, padded_integral, format_spec}

-- a text at the right of its column, with spaces before it
abbrev pub text_right : (places : ℕ) → List ℕ → List ℕ
text_right places text = padded (format_spec 32 3 0 places (2 ^ 64 - 1)) text

-- a text at the left of its column, with spaces after it
abbrev pub text_left : (places : ℕ) → List ℕ → List ℕ
text_left places text = padded (format_spec 32 1 0 places (2 ^ 64 - 1)) text

-- a decimal number at the right of its column, with spaces before it
abbrev pub number_right : (places : ℕ) → ℕ → List ℕ
number_right places n = padded_integral (format_spec 32 3 0 places (2 ^ 64 - 1)) false [] (decimal n)

-- a decimal number with leading zeros up to a number of digits
abbrev pub zeros : (digits : ℕ) → ℕ → List ℕ
zeros digits n = padded_integral (format_spec 32 0 4 digits (2 ^ 64 - 1)) false [] (decimal n)
