-- The caller, from the fields of a head.
use Rattle.std.specs.Prelude.{ℕ, List, [], ◌∷◌, All, length, map, filter, codes, Result, Ok, Err}
use Rattle.std.specs.List.{fold}
use Rattle.std.specs.Str.{str_eq_ignore_ascii_case}
use Rattle.http_header.specs.FieldName.{IsFieldName}
use Rattle.http_header.specs.FieldValue.{FieldValue, IsFieldValue, plain_value}
use Rattle.http_header.specs.HeaderMap.{Entries, append, get_all}
use Rattle.http_header.specs.Token.{lowercase}
use Rattle.httparse.specs.Spans.{header_bytes, IsHeaderWithin}
use Rattle.httparse.specs.declared.spans.HeaderSpan.{HeaderSpan}
use Rattle.land_core.specs.declared.caller.Caller.{Caller}
use Rattle.land_core.specs.declared.role.Role.{Role}
use Rattle.land_wire.specs.Numbers.{number_in_text}
use Rattle.land_wire_json.specs.Bodies.WireFaults.{◌>>=◌}
use Rattle.land_wire_json.specs.Bodies.Words.{role_of}
use Rattle.land_wire_json.specs.declared.bodies.wire_fault.WireFault.{WireFault}
use Rattle.land_wire_json.specs.declared.bodies.wire_fault.WireFault.TheVariants as fault

-- a name and a value that a header map accepts
abbrev pub IsHeaderField : (List ℕ × List ℕ) → Type 0
IsHeaderField field = IsFieldName field.0 × IsFieldValue field.1

-- appends a field: its name in lower case, its value after those of that name
abbrev pub with_field : Entries FieldValue → (List ℕ × List ℕ) → Entries FieldValue
with_field fields field = append fields (lowercase field.0) (plain_value field.1)

-- the header map of the fields of a head, each a name and a value
abbrev pub field_map : List (List ℕ × List ℕ) → Entries FieldValue
field_map fields = fold with_field [] fields

-- the spans of the fields lie within the head
abbrev pub AreWithin : (head : List ℕ) → List HeaderSpan → Type 0
AreWithin head fields = All (IsHeaderWithin (length head)) fields

-- the header map of the fields at these spans of a head
abbrev pub fields_at : (head : List ℕ) → List HeaderSpan → Entries FieldValue
fields_at head fields = field_map (map (header_bytes head) fields)

-- the values of the fields with a name, compared without case (RFC 9110, section 5.1)
abbrev pub values_named : List ℕ → List (List ℕ × List ℕ) → List (List ℕ)
values_named name fields = map (λ f. f.1) (filter (λ f. str_eq_ignore_ascii_case f.0 name) fields)

-- the value of a field; fault 131 if the field is absent or repeated
abbrev pub only_value : List FieldValue → Result (List ℕ) WireFault
only_value [] = Err fault.Field
only_value (value ∷ []) = Ok value.bytes
only_value (first ∷ second ∷ others) = Err fault.Field

-- the field Register-Party: a number; otherwise fault 132
abbrev pub caller_party_in : Entries FieldValue → Result ℕ WireFault
caller_party_in fields = only_value (get_all fields (codes "register-party")) >>= number_in_text

-- the field Register-Role: the word of a role; otherwise fault 134
abbrev pub caller_role_in : Entries FieldValue → Result Role WireFault
caller_role_in fields = only_value (get_all fields (codes "register-role")) >>= role_of

-- the faults of the party come first
abbrev pub caller_in : Entries FieldValue → Result Caller WireFault
caller_in fields = do
  party ← caller_party_in fields
  role ← caller_role_in fields
  Ok (record { party = party; role = role })
