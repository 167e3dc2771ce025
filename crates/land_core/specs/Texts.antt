-- Limits of texts. A text is the list of its bytes in UTF-8.
use Rattle.std.specs.Prelude.{ℕ, List, Bool, ◌&&◌, nat_le, nat_eq, not, length}
use Rattle.std.specs.List.{list_all}
use Rattle.std.specs.Str.{chars}

-- not an ASCII control character (U+0000 to U+001F, U+007F), each of which is one byte
abbrev pub is_plain : ℕ → Bool
is_plain byte = nat_le 32 byte && not (nat_eq byte 127)

-- `least` to `most` characters (Unicode scalar values), none of them an ASCII control character
abbrev pub is_text : (least most : ℕ) → List ℕ → Bool
is_text least most bytes = nat_le least (length (chars bytes)) && nat_le (length (chars bytes)) most
    && list_all is_plain bytes

-- a name has 1 to 200 characters, as have the title of a document and the wording of a burden
abbrev pub is_name : List ℕ → Bool
is_name bytes = is_text 1 200 bytes

abbrev pub is_title : List ℕ → Bool
is_title bytes = is_text 1 200 bytes

abbrev pub are_words : List ℕ → Bool
are_words bytes = is_text 1 200 bytes

-- a label has 1 to 40 characters
abbrev pub is_label : List ℕ → Bool
is_label bytes = is_text 1 40 bytes

-- a lodger's reference of a mutation has 1 to 40 characters
abbrev pub is_reference : List ℕ → Bool
is_reference bytes = is_text 1 40 bytes
