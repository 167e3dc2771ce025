-- Names of fields in a header map.
use Rattle.std.proofs.Common.{◌≡◌, ℕ, ◌<◌, List, [], ◌∷◌, ◌++◌, length, map, Bool, true, false, Ok, Err, refl, sym, ◌∙◌, ap, arith, bytes_eq, append-nil, append_assoc, if◌then◌else◌}
use Rattle.std.proofs.lemmas.Slice.Eq.{bytes_eq-Decides}
use Rattle.std.specs.List.{fold}
use Rattle.std.specs.Str.{str_eq_ignore_ascii_case}
use Rattle.http_header.specs.FieldValue.{FieldValue, plain_value}
use Rattle.http_header.specs.HeaderMap.{Entry, Entries, append, get_all}
use Rattle.http_header.specs.Token.{lowercase}
use Rattle.land_wire.specs.Fields.{with_field, field_map, only_value, values_named}
use Rattle.land_wire_json.specs.declared.bodies.wire_fault.WireFault.TheVariants as fault

abbrev if_named : Bool → FieldValue → List FieldValue
if_named b value = if b then value ∷ [] else []

apart : (x y z : List ℕ) (b : Bool) → bytes_eq x y ≡ false → bytes_eq x z ≡ true → bytes_eq y z ≡ b → b ≡ false
apart x y z true p q r =
    let same : x ≡ z = (bytes_eq-Decides x z).0 q in
    let other : y ≡ z = (bytes_eq-Decides y z).0 r in
    let same2 : x ≡ y = same ∙ sym other in
    let yes = (bytes_eq-Decides x y).1 same2 in
    cc
apart x y z false p q r = refl

one_by : (e : Entry FieldValue) (m : Entries FieldValue) (key name : List ℕ) (value : FieldValue) (a b : Bool)
    → bytes_eq e.0 key ≡ a → bytes_eq e.0 name ≡ b
    → get_all (append m key value) name ≡ get_all m name ++ if_named (bytes_eq key name) value
    → get_all (if a then (e.0, e.1 ++ value ∷ []) ∷ m else e ∷ append m key value) name
    ≡ (if b then e.1 else get_all m name) ++ if_named (bytes_eq key name) value
one_by e m key name value true true p q h =
    let same : e.0 ≡ key = (bytes_eq-Decides e.0 key).0 p in
    let here = rw same at q in
    rw (q, here) refl
one_by e m key name value true false p q h =
    let same : e.0 ≡ key = (bytes_eq-Decides e.0 key).0 p in
    let here = rw same at q in
    rw (q, here, append-nil) refl
one_by e m key name value false true p q h =
    let no = apart e.0 key name (bytes_eq key name) p q refl in
    rw (q, no, append-nil) refl
one_by e m key name value false false p q h = rw q h

appended : (m : Entries FieldValue) (key name : List ℕ) (value : FieldValue)
    → get_all (append m key value) name ≡ get_all m name ++ if_named (bytes_eq key name) value
appended [] key name value = refl
appended (e ∷ m) key name value =
    one_by e m key name value (bytes_eq e.0 key) (bytes_eq e.0 name) refl refl (appended m key name value)

-- the values of the fields whose name is the key in lower case
abbrev values_at : List ℕ → List (List ℕ × List ℕ) → List (List ℕ)
values_at key [] = []
values_at key (field ∷ fields) = if bytes_eq (lowercase field.0) key then field.1 ∷ values_at key fields else values_at key fields

more_by : (b : Bool) (field : List ℕ × List ℕ) (values : List (List ℕ))
    → if_named b (plain_value field.1) ++ map plain_value values ≡ map plain_value (if b then field.1 ∷ values else values)
more_by true field values = refl
more_by false field values = refl

folded : (m : Entries FieldValue) (fields : List (List ℕ × List ℕ)) (name : List ℕ)
    → get_all (fold with_field m fields) name ≡ get_all m name ++ map plain_value (values_at name fields)
folded m [] name = sym (append-nil (get_all m name))
folded m (field ∷ fields) name =
    let h = folded (with_field m field) fields name in
    let one = appended m (lowercase field.0) name (plain_value field.1) in
    let more = more_by (bytes_eq (lowercase field.0) name) field (values_at name fields) in
    h ∙ (ap (λ (values : List FieldValue). values ++ map plain_value (values_at name fields)) one
    ∙ (append_assoc (get_all m name) (if_named (bytes_eq (lowercase field.0) name) (plain_value field.1)) (map plain_value (values_at name fields))
    ∙ ap (λ (values : List FieldValue). get_all m name ++ values) more))

one_named : (b : Bool) (name : List ℕ) (field : List ℕ × List ℕ) (fields : List (List ℕ × List ℕ)) → str_eq_ignore_ascii_case field.0 name ≡ b
    → values_at (lowercase name) fields ≡ values_named name fields
    → values_at (lowercase name) (field ∷ fields) ≡ values_named name (field ∷ fields)
one_named true name field fields e h = rw e (ap (λ (t : List (List ℕ)). field.1 ∷ t) h)
one_named false name field fields e h = rw e h

in_any_case : (name : List ℕ) (fields : List (List ℕ × List ℕ)) → values_at (lowercase name) fields ≡ values_named name fields
in_any_case name [] = refl
in_any_case name (field ∷ fields) = one_named (str_eq_ignore_ascii_case field.0 name) name field fields refl (in_any_case name fields)

pub names_in_any_case : (fields : List (List ℕ × List ℕ)) (name : List ℕ)
    → get_all (field_map fields) (lowercase name) ≡ map plain_value (values_named name fields)
names_in_any_case fields name =
    folded [] fields (lowercase name) ∙ ap (λ (values : List (List ℕ)). map plain_value values) (in_any_case name fields)

-- ---- the only value of a name

pub only_of_none : (fields : List (List ℕ × List ℕ)) (name : List ℕ) → values_named name fields ≡ []
    → only_value (get_all (field_map fields) (lowercase name)) ≡ Err fault.Field
only_of_none fields name none = rw (names_in_any_case fields name, none) refl

pub only_of_one : (fields : List (List ℕ × List ℕ)) (name value : List ℕ) → values_named name fields ≡ value ∷ []
    → only_value (get_all (field_map fields) (lowercase name)) ≡ Ok value
only_of_one fields name value one = rw (names_in_any_case fields name, one) refl

repeated : (values : List (List ℕ)) → 1 < length values → only_value (map plain_value values) ≡ Err fault.Field
repeated [] more = absurd (omega arith)
repeated (value ∷ []) more = absurd (omega arith)
repeated (first ∷ second ∷ values) more = refl

pub only_of_more : (fields : List (List ℕ × List ℕ)) (name : List ℕ) → 1 < length (values_named name fields)
    → only_value (get_all (field_map fields) (lowercase name)) ≡ Err fault.Field
only_of_more fields name more = rw (names_in_any_case fields name) (repeated (values_named name fields) more)
