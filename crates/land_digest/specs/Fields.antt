-- The text of a field. No two lists of fields have the same text.
use Rattle.std.specs.Prelude.{ℕ, suc, ◌+◌, ℤ, pos, negsuc, nat_eq, List, [], ◌∷◌, ◌++◌, flat_map, length}
use Rattle.std.specs.Prelude.{map as map_list, if◌then◌else◌}
use Rattle.std.specs.Int.Digits.{digits_of}

-- the content of a column: a number, a string, or nothing
pub data Field : Type 0 where
  Number : ℤ → Field
  Text : List ℕ → Field
  Absent : Field

abbrev pub number_field : ℕ → Field
number_field n = Number (pos n)

-- a number in decimal digits
abbrev pub digits : ℕ → List ℕ
digits n = if nat_eq n 0 then 48 ∷ [] else map_list (λ d. 48 + d) (digits_of 10 n)

-- a number is followed by `;`, a string is preceded by its length in bytes and `:`, and nothing is `~`
abbrev pub field_text : Field → List ℕ
field_text (Number (pos n)) = digits n ++ 59 ∷ []
field_text (Number (negsuc n)) = 45 ∷ digits (suc n) ++ 59 ∷ []
field_text (Text bytes) = digits (length bytes) ++ 58 ∷ bytes
field_text Absent = 126 ∷ []

-- fields, and a line feed
abbrev pub fields_line : List Field → List ℕ
fields_line fields = flat_map field_text fields ++ 10 ∷ []
