-- JSON values, and texts that are built from others.
use Rattle.std.specs.Prelude.{ℕ, Bool, true, false, List, [], ◌∷◌, ◌++◌, map, codes}
use Rattle.land_fraction.specs.Ratio.{Ratio}
use Rattle.land_fraction.specs.Text.{fraction_text}
use Rattle.land_shape.specs.Place.{Place}
use Rattle.land_shape.specs.Printed.{polygon_text}
use Rattle.serde_json.specs.Data.{Data, unsigned, number, string, array, object, no_members, member}
use Rattle.serde_json.specs.View.{items_of}
use Rattle.serde_json.specs.Written.{compact_text}

abbrev pub number_data : ℕ → Data
number_data n = number (unsigned n)

abbrev pub numbers_data : List ℕ → Data
numbers_data numbers = array (items_of (map number_data numbers))

-- a share in canonical form
abbrev pub share_data : Ratio → Data
share_data share = string (fraction_text share)

-- an object with one member
abbrev pub one_member : List ℕ → Data → Data
one_member key value = object (member key value no_members)

-- ---- texts

-- a comma before each text
abbrev pub after_comma : List (List ℕ) → List ℕ
after_comma [] = []
after_comma (text ∷ texts) = codes "," ++ (text ++ after_comma texts)

abbrev pub with_commas : List (List ℕ) → List ℕ
with_commas [] = []
with_commas (text ∷ texts) = text ++ after_comma texts

abbrev pub quoted_word : List ℕ → List ℕ
quoted_word word = codes "\"" ++ (word ++ codes "\"")

-- a share as a JSON string
abbrev pub share_text : Ratio → List ℕ
share_text share = compact_text (share_data share)

-- an outline as a JSON string
abbrev pub outline_text : List Place → List ℕ
outline_text ring = compact_text (string (polygon_text ring))

-- a text of the register as a JSON string, with its quotation marks
abbrev pub string_text : List ℕ → List ℕ
string_text s = compact_text (string s)

-- `true` or `false`
abbrev pub bool_text : Bool → List ℕ
bool_text true = codes "true"
bool_text false = codes "false"
