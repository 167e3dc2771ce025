-- The value of a cell: a value of its field, or the fault of the same field in a request. NULL and values of
-- another type are fault 131.
use Rattle.std.specs.Prelude.{ℕ, ℤ, pos, negsuc, ◌&&◌, ◌==◌, Bool, true, false, List, nat_le, int_le, Result}
use Rattle.std.specs.Prelude.{Ok, Err, if◌then◌else◌, ⊤}
use Rattle.std.specs.Str.{is_utf8}
use Rattle.land_core.specs.Contents.{is_amount, is_currency}
use Rattle.land_core.specs.Numbers.{is_number, last_moment, last_next}
use Rattle.land_core.specs.Texts.{are_words, is_label, is_name, is_reference, is_title}
use Rattle.land_fraction.specs.Answer.{fraction_of}
use Rattle.land_fraction.specs.Ratio.{Ratio, over}
use Rattle.land_tables_history.specs.Open.{never}
use Rattle.land_wire_json.specs.Bodies.Fields.{require_text}
use Rattle.land_wire_json.specs.Bodies.Shares.{share_or_fault}
use Rattle.land_wire_json.specs.Bodies.WireFaults.{◌>>=◌}
use Rattle.land_wire_json.specs.declared.bodies.wire_fault.WireFault.{WireFault}
use Rattle.land_wire_json.specs.declared.bodies.wire_fault.WireFault.TheVariants as fault
use Rattle.sqlite_value.specs.declared.value.Value.{Value}
use Rattle.sqlite_value.specs.declared.value.Value.TheVariants.{Null, Int, Real, Text, Blob}

-- NULL
abbrev pub null_in : Value → Result ⊤ WireFault
null_in Null = Ok tt
null_in (Int z) = Err fault.Field
null_in (Real x) = Err fault.Field
null_in (Text t) = Err fault.Field
null_in (Blob b) = Err fault.Field

-- an integer
abbrev pub integer_in : Value → Result ℤ WireFault
integer_in Null = Err fault.Field
integer_in (Int z) = Ok z
integer_in (Real x) = Err fault.Field
integer_in (Text t) = Err fault.Field
integer_in (Blob b) = Err fault.Field

-- a string; fault 133 if its bytes are not UTF-8
abbrev pub text_in : Value → Result (List ℕ) WireFault
text_in Null = Err fault.Field
text_in (Int z) = Err fault.Field
text_in (Real x) = Err fault.Field
text_in (Text t) = if is_utf8 t then Ok t else Err fault.Text
text_in (Blob b) = Err fault.Field

-- ---- numbers; fault 132 if out of range

abbrev pub natural_of : ℤ → Result ℕ WireFault
natural_of (pos n) = Ok n
natural_of (negsuc n) = Err fault.Number

unfoldable pub natural_in : Value → Result ℕ WireFault
natural_in cell = integer_in cell >>= natural_of

abbrev pub number_if : (ℕ → Bool) → ℕ → Result ℕ WireFault
number_if is_allowed n = if is_allowed n then Ok n else Err fault.Number

-- the number of an object
unfoldable pub number_in : Value → Result ℕ WireFault
number_in cell = natural_in cell >>= number_if is_number

-- the number that the next new object takes
abbrev pub is_next : ℕ → Bool
is_next n = nat_le 2 n && nat_le n last_next

unfoldable pub next_in : Value → Result ℕ WireFault
next_in cell = natural_in cell >>= number_if is_next

-- an amount in minor units
unfoldable pub amount_in : Value → Result ℕ WireFault
amount_in cell = natural_in cell >>= number_if is_amount

-- a flag: 0 or 1
abbrev pub flag_of : ℕ → Result Bool WireFault
flag_of n = if n == 0 then Ok false else (if n == 1 then Ok true else Err fault.Number)

unfoldable pub flag_in : Value → Result Bool WireFault
flag_in cell = natural_in cell >>= flag_of

-- ---- moments; fault 132 if out of range

abbrev pub until_most : ℤ → ℤ → Result ℤ WireFault
until_most most z = if int_le (pos 0) z && int_le z most then Ok z else Err fault.Number

unfoldable pub moment_in : Value → Result ℤ WireFault
moment_in cell = integer_in cell >>= until_most last_moment

-- the end of a lifespan: a moment, or never, one millisecond after the last moment
unfoldable pub end_in : Value → Result ℤ WireFault
end_in cell = integer_in cell >>= until_most never

-- ---- shares

-- a share is decoded in lowest terms, in any representation; faults 101 to 103 if it is not a fraction
unfoldable pub share_in : (numerator denominator : Value) → Result Ratio WireFault
share_in numerator denominator = do
  n ← natural_in numerator
  d ← natural_in denominator
  share_or_fault (fraction_of (over n d))

-- ---- strings; fault 133 if the length is out of range

abbrev pub name_in : Value → Result (List ℕ) WireFault
name_in cell = text_in cell >>= require_text is_name

abbrev pub title_in : Value → Result (List ℕ) WireFault
title_in cell = text_in cell >>= require_text is_title

abbrev pub words_in : Value → Result (List ℕ) WireFault
words_in cell = text_in cell >>= require_text are_words

abbrev pub label_in : Value → Result (List ℕ) WireFault
label_in cell = text_in cell >>= require_text is_label

abbrev pub reference_in : Value → Result (List ℕ) WireFault
reference_in cell = text_in cell >>= require_text is_reference

abbrev pub currency_in : Value → Result (List ℕ) WireFault
currency_in cell = text_in cell >>= require_text is_currency
