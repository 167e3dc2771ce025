-- The length of the body after a head, and whether the connection closes.
use Rattle.std.specs.Prelude.{◌≡◌, ℕ, ◌<◌, Bool, not, ◌==◌, ◌||◌, nat_lt, List, [], ◌∷◌, length, map, codes}
use Rattle.std.specs.Prelude.{Result, Ok, Err, if◌then◌else◌}
use Rattle.std.specs.List.{list_any, slice_split}
use Rattle.std.specs.Str.{bytes_eq, str_eq_ignore_ascii_case}
use Rattle.std.specs.Str.Parse.{digits_value}
use Rattle.httparse.specs.Grammar.{RequestHead, trim_ows}
use Rattle.httparse.specs.Spans.{name_and_value, span_bytes, IsWithin}
use Rattle.land_wire.specs.Fields.{values_named}
use Rattle.land_wire.specs.declared.framing.frame_fault.FrameFault.{FrameFault}
use Rattle.land_wire.specs.declared.framing.frame_fault.FrameFault.TheVariants as fault
use Rattle.land_wire.specs.declared.framing.named.Occurrence.{Occurrence}
use Rattle.land_wire.specs.declared.framing.named.Occurrence.TheVariants as occurrence
use Rattle.land_wire_json.specs.Bodies.Decimals.{are_digits_up_to}

-- the fields of a head in order: each name, and each value without surrounding white space
abbrev pub header_fields : RequestHead → List (List ℕ × List ℕ)
header_fields h = map name_and_value h.fields

-- the maximum length of a body in bytes
abbrev pub body_limit : ℕ
body_limit = 1048576

-- the length in a value of 1 to 18 digits, leading zeros allowed
abbrev pub length_of : List ℕ → Result ℕ FrameFault
length_of value =
    if not (are_digits_up_to 18 value) then Err fault.Head
    else if nat_lt body_limit (digits_value 10 value) then Err fault.BodyLong
    else Ok (digits_value 10 value)

-- the length in the values of `Content-Length` (RFC 9110, section 8.6): without a value there is no body, and
-- two values are a fault
abbrev pub body_length : List (List ℕ) → Result ℕ FrameFault
body_length [] = Ok 0
body_length (value ∷ []) = length_of value
body_length (value ∷ again ∷ more) = Err fault.Head

-- the length of the body after a whole head (RFC 9112, section 6), or the first of these faults: too many
-- fields, any transfer encoding, a wrong length
unfoldable pub body_length_of : RequestHead → Result ℕ FrameFault
body_length_of h =
    if nat_lt 64 (length h.fields) then Err fault.Head
    else if nat_lt 0 (length (values_named (codes "transfer-encoding") (header_fields h)))
    then Err fault.Encoding
    else body_length (values_named (codes "content-length") (header_fields h))

-- the word is `close`, without case, with white space around it
abbrev pub is_close_option : List ℕ → Bool
is_close_option word = str_eq_ignore_ascii_case (trim_ows word) (codes "close")

-- `close` is one of the words between commas
abbrev pub has_close_option : List ℕ → Bool
has_close_option value = list_any is_close_option (slice_split (λ b. b == 44) value)

-- the connection closes after the request (RFC 9112, section 9.3): the version is HTTP/1.0, or a `Connection`
-- field has the option `close`
unfoldable pub wants_close : RequestHead → Bool
wants_close h =
    (h.minor == 0) || list_any has_close_option (values_named (codes "connection") (header_fields h))

-- the method is `HEAD`, whose response has no body (RFC 9110, section 9.3.2)
unfoldable pub is_head : RequestHead → Bool
is_head h = bytes_eq h.method (codes "HEAD")

-- the number of occurrences of a field, from its values, and the span of a single value
abbrev pub IsOccurrence : List ℕ → List (List ℕ) → Occurrence → Type 0
IsOccurrence head values occurrence.Absent = values ≡ []
IsOccurrence head values (occurrence.Once span) =
    IsWithin (length head) span × (values ≡ span_bytes head span ∷ [])
IsOccurrence head values occurrence.Repeated = 1 < length values
