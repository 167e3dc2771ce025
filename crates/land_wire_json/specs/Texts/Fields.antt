-- JSON objects as lists of fields, and the tokens that a writer holds after writing them.
use Rattle.std.specs.Prelude.{◌≡◌, ℕ, List, [], ◌∷◌, ◌++◌, codes, Option, Some, None, Result, OnOk}
use Rattle.json.specs.Token.{Token}
use Rattle.json.specs.Token as token
use Rattle.json.specs.Tree.{json_tokens}
use Rattle.json.specs.Written.{Written}
use Rattle.land_shape.specs.Place.{Place}
use Rattle.land_shape.specs.Printed.{polygon_text}
use Rattle.land_wire_json.specs.declared.texts.fields.Field.{Field}
use Rattle.land_wire_json.specs.declared.texts.fields.MemberValue.{MemberValue}
use Rattle.land_wire_json.specs.declared.texts.fields.MemberValue.TheVariants as shown
use Rattle.land_wire_json.specs.Texts.Parties.{members_data, roles_data}
use Rattle.land_wire_json.specs.Texts.Subdivisions.{first_data, parts_data}
use Rattle.land_wire_json.specs.Texts.Values.{number_data, numbers_data, share_data}
use Rattle.serde_json.specs.Data.{Data, number, boolean, string}
use Rattle.serde_json.specs.Find.{of_integer}
use Rattle.serde_json.specs.Written.{outline}

-- the JSON value of a field
abbrev pub value_data : MemberValue → Data
value_data (shown.Number n) = number_data n
value_data (shown.Moment stamp) = number (of_integer stamp)
value_data (shown.Truth it) = boolean it
value_data (shown.Text text) = string text.now
value_data (shown.Share share) = share_data share
value_data (shown.Outline ring) = string (polygon_text ring.now)
value_data (shown.Numbers numbers) = numbers_data numbers.now
value_data (shown.Members members) = members_data members.now
value_data (shown.Roles roles) = roles_data roles.now
value_data (shown.First part) = first_data part.now
value_data (shown.Parts parts) = parts_data parts.now

-- a name, and a value after it
abbrev pub member_tokens : List ℕ → Data → List Token
member_tokens name value = token.key name ∷ json_tokens (outline value)

-- the fields in order, without the braces of an object
abbrev pub fields_tokens : List Field → List Token
fields_tokens [] = []
fields_tokens (field ∷ fields) = member_tokens field.0.now (value_data field.1) ++ fields_tokens fields

-- the tokens of the fields, before the rest
abbrev pub fields_before : List Field → List Token → List Token
fields_before [] rest = rest
fields_before (field ∷ fields) rest =
    member_tokens field.0.now (value_data field.1) ++ fields_before fields rest

-- an object with these fields
abbrev pub object_tokens : List Field → List Token
object_tokens fields = token.begin_object ∷ fields_before fields (token.end_object ∷ [])

-- tokens are written after the existing ones; if memory ran out, some of them may be missing
pub record Adds {E : Type 0} (r : Result (Unit {0}) E) (old new : Written) (tokens : List Token)
    : Type 0 where
  pub added : OnOk r (new.tokens ≡ old.tokens ++ tokens)
  pub before : new.before ≡ old.before

-- a JSON value is written
abbrev pub AddsValue : {E : Type 0} → Result (Unit {0}) E → Written → Written → Data → Type 0
AddsValue r old new value = Adds r old new (json_tokens (outline value))

-- a label and an outline in canonical form, under their names
abbrev pub plan_tokens : List ℕ → List Place → List Token
plan_tokens label ring =
    member_tokens (codes "label") (string label)
    ++ member_tokens (codes "outline") (string (polygon_text ring))

-- the name of a new unit under its name, if there is one
abbrev pub unit_tokens : Option (List ℕ) → List Token
unit_tokens None = []
unit_tokens (Some name) = member_tokens (codes "unit") (string name)
