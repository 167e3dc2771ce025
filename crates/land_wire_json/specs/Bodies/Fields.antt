-- Request bodies as JSON (RFC 8259), and the fields of JSON objects: the value of a key, or the first fault.
-- JSON is read as `serde_json` specifies: of two equal keys the last one counts, and at most 127 levels are
-- read.
use Rattle.std.specs.Prelude.{ℕ, suc, ◌&&◌, Bool, true, List, [], ◌∷◌, nat_le, if◌then◌else◌, Option, None}
use Rattle.std.specs.Prelude.{Result, Ok, Err, bytes_eq, ⊤}
use Rattle.std.specs.List.{list_any}
use Rattle.std.specs.Str.{is_utf8}
use Rattle.land_core.specs.Numbers.{is_number}
use Rattle.land_wire_json.specs.Bodies.WireFaults.{◌>>=◌, or_fault}
use Rattle.land_wire_json.specs.declared.bodies.wire_fault.WireFault.{WireFault}
use Rattle.land_wire_json.specs.declared.bodies.wire_fault.WireFault.TheVariants as fault
use Rattle.serde_json.specs.Data.{Num, unsigned, negative, float, Data, Items, no_items, item, Members}
use Rattle.serde_json.specs.Data.{no_members, member}
use Rattle.serde_json.specs.Find.{get, as_bool, as_number, as_str, as_array, as_object}
use Rattle.serde_json.specs.Read.{read}

-- the JSON value of the bytes; none if they are not valid UTF-8 or not JSON
abbrev pub json_of : List ℕ → Option Data
json_of bytes = if is_utf8 bytes then read bytes else None

-- fault 130 if the bytes are not JSON
abbrev pub value_in : List ℕ → Result Data WireFault
value_in bytes = or_fault (json_of bytes) fault.Json

-- likewise for a text, whose bytes are valid UTF-8
abbrev pub text_value : (text : List ℕ) → Result Data WireFault
text_value text = or_fault (read text) fault.Json

-- the key is one of these names
abbrev pub is_listed_name : List (List ℕ) → List ℕ → Bool
is_listed_name names key = list_any (λ name. bytes_eq name key) names

-- each key is one of these names
abbrev pub has_only : List (List ℕ) → Members → Bool
has_only names no_members = true
has_only names (member key value others) = is_listed_name names key && has_only names others

-- fault 131 if the value is not an object, or has a key that is not one of these names
unfoldable pub object_with : List (List ℕ) → Data → Result ⊤ WireFault
object_with names value =
    or_fault (as_object value) fault.Field
    >>= λ members. if has_only names members then Ok tt else Err fault.Field

-- the value of a key; fault 131 if the key is missing
unfoldable pub field_at : (key : List ℕ) → Data → Result Data WireFault
field_at key value = or_fault (get key value) fault.Field

-- the text of a key; fault 131 if it is missing or not a string
unfoldable pub text_at : (key : List ℕ) → Data → Result (List ℕ) WireFault
text_at key value = field_at key value >>= λ found. or_fault (as_str found) fault.Field

-- the boolean of a key; fault 131 if it is missing or not a boolean
unfoldable pub bool_at : (key : List ℕ) → Data → Result Bool WireFault
bool_at key value = field_at key value >>= λ found. or_fault (as_bool found) fault.Field

-- the text, if it is within the limits of its field; otherwise fault 133
abbrev pub require_text : (List ℕ → Bool) → List ℕ → Result (List ℕ) WireFault
require_text is_allowed text = if is_allowed text then Ok text else Err fault.Text

abbrev pub require_text_at : (List ℕ → Bool) → (key : List ℕ) → Data → Result (List ℕ) WireFault
require_text_at is_allowed key value = text_at key value >>= require_text is_allowed

-- ---- numbers

-- a number in plain digits and in range; fault 132 if it has a sign, a point or an exponent, or is out of
-- range
abbrev pub require_in_range : (ℕ → Bool) → Num → Result ℕ WireFault
require_in_range is_allowed (unsigned n) = if is_allowed n then Ok n else Err fault.Number
require_in_range is_allowed (negative z) = Err fault.Number
require_in_range is_allowed (float x) = Err fault.Number

-- a number in range; fault 131 if the value is not a number
abbrev pub require_number : (ℕ → Bool) → Data → Result ℕ WireFault
require_number is_allowed value = or_fault (as_number value) fault.Field >>= require_in_range is_allowed

-- the number of an object, 1 to 1_000_000_000
unfoldable pub number_in : Data → Result ℕ WireFault
number_in value = require_number is_number value

unfoldable pub number_at : (key : List ℕ) → Data → Result ℕ WireFault
number_at key value = field_at key value >>= number_in

-- ---- arrays

abbrev pub item_count : Items → ℕ
item_count no_items = 0
item_count (item value items) = suc (item_count items)

-- an array of `least` to `most` items of any kind; otherwise fault 131
unfoldable pub items_at : (least most : ℕ) → (key : List ℕ) → Data → Result Items WireFault
items_at least most key value =
    field_at key value >>= λ found. or_fault (as_array found) fault.Field
    >>= λ items.
    if nat_le least (item_count items) && nat_le (item_count items) most then Ok items
    else Err fault.Field

-- reads each item in order: the first fault, or the list of values
abbrev pub each_item : {A : Type 0} → (Data → Result A WireFault) → Items → Result (List A) WireFault
each_item read no_items = Ok []
each_item read (item value items) = read value >>= λ first. each_item read items >>= λ rest. Ok (first ∷ rest)
