-- The bodies of lodgings and decisions, and the contents of mutations. Fields are read in the order given.
use Rattle.std.specs.Prelude.{ℕ, List, [], ◌∷◌, codes, bytes_eq, Option, Some, None, Result, Ok, Err}
use Rattle.std.specs.Prelude.{if◌then◌else◌}
use Rattle.land_core.specs.Contents.{is_amount, is_currency}
use Rattle.land_core.specs.Mergers.{all_above, lists_number}
use Rattle.land_core.specs.Texts.{is_name, is_title, is_label, is_reference}
use Rattle.land_core.specs.declared.act.Decision.{Decision}
use Rattle.land_core.specs.declared.act.Lodging.{Lodging}
use Rattle.land_core.specs.declared.content.Content.{Content}
use Rattle.land_core.specs.declared.content.Content.TheVariants as content
use Rattle.land_core.specs.declared.content.Discharge.{Discharge}
use Rattle.land_core.specs.declared.content.Mortgage.{Mortgage}
use Rattle.land_core.specs.declared.content.Transfer.{Transfer}
use Rattle.land_core.specs.declared.merger.Merger.{Merger}
use Rattle.land_core.specs.declared.subdivision.Part.{Part}
use Rattle.land_core.specs.declared.subdivision.Subdivision.{Subdivision}
use Rattle.land_wire_json.specs.Bodies.Fields.{text_value, object_with, field_at, require_text}
use Rattle.land_wire_json.specs.Bodies.Fields.{require_text_at}
use Rattle.land_wire_json.specs.Bodies.Fields.{number_in, number_at, require_number, items_at, each_item}
use Rattle.land_wire_json.specs.Bodies.Outlines.{outline_in}
use Rattle.land_wire_json.specs.Bodies.Shares.{share_at}
use Rattle.land_wire_json.specs.Bodies.Units.{parcel_of}
use Rattle.land_wire_json.specs.Bodies.WireFaults.{◌>>=◌, or_fault}
use Rattle.land_wire_json.specs.declared.bodies.content_kind.ContentKind.{ContentKind}
use Rattle.land_wire_json.specs.declared.bodies.content_kind.ContentKind.TheVariants as kind
use Rattle.land_wire_json.specs.declared.bodies.wire_fault.WireFault.{WireFault}
use Rattle.land_wire_json.specs.declared.bodies.wire_fault.WireFault.TheVariants as fault
use Rattle.serde_json.specs.Data.{Data}
use Rattle.serde_json.specs.Find.{get, as_str}

-- ---- transfers

abbrev pub transfer_fields : List (List ℕ)
transfer_fields = codes "unit" ∷ codes "right" ∷ codes "receiver" ∷ codes "share" ∷ []

unfoldable pub transfer_of : Data → Result Transfer WireFault
transfer_of value = do
  unit ← number_at (codes "unit") value
  right ← number_at (codes "right") value
  receiver ← number_at (codes "receiver") value
  share ← share_at (codes "share") value
  Ok (record { unit = unit; right = right; receiver = receiver; share = share })

-- ---- subdivisions

abbrev pub subdivision_fields : List (List ℕ)
subdivision_fields = codes "unit" ∷ codes "parcel" ∷ codes "first" ∷ codes "rest" ∷ []

-- the name of a new unit is optional
abbrev pub new_name_of : Option Data → Result (Option (List ℕ)) WireFault
new_name_of None = Ok None
new_name_of (Some value) = or_fault (as_str value) fault.Field >>= require_text is_name
    >>= λ name. Ok (Some name)

-- a part: `label`, `outline`, and `unit` if it goes to a new unit
unfoldable pub part_of : Data → Result Part WireFault
part_of value = do
  whole ← object_with (codes "label" ∷ codes "outline" ∷ codes "unit" ∷ []) value
  label ← require_text_at is_label (codes "label") value
  outline ← outline_in value
  unit ← new_name_of (get (codes "unit") value)
  Ok (record { label = label; outline = outline; unit = unit })

-- `rest`: 1 to 15 parts
unfoldable pub rest_of : Data → Result (List Part) WireFault
rest_of value = items_at 1 15 (codes "rest") value >>= each_item part_of

unfoldable pub subdivision_of : Data → Result Subdivision WireFault
subdivision_of value = do
  unit ← number_at (codes "unit") value
  parcel ← number_at (codes "parcel") value
  found ← field_at (codes "first") value
  first ← parcel_of found
  rest ← rest_of value
  Ok (record { unit = unit; parcel = parcel; first = first; rest = rest })

-- ---- mergers

abbrev pub merger_fields : List (List ℕ)
merger_fields = codes "unit" ∷ codes "others" ∷ codes "parcels" ∷ codes "label" ∷ codes "outline" ∷ []

-- `least` to `most` increasing numbers; fault 131 in another order, after each number was read
unfoldable pub increasing_at : (least most : ℕ) → (key : List ℕ) → Data → Result (List ℕ) WireFault
increasing_at least most key value =
    items_at least most key value >>= each_item number_in
    >>= λ numbers. if all_above 0 numbers then Ok numbers else Err fault.Field

-- fault 131 if the unit itself is among the others
abbrev pub others_besides : (unit : ℕ) → List ℕ → Result (List ℕ) WireFault
others_besides unit others = if lists_number others unit then Err fault.Field else Ok others

unfoldable pub merger_of : Data → Result Merger WireFault
merger_of value = do
  unit ← number_at (codes "unit") value
  listed ← increasing_at 0 15 (codes "others") value
  others ← others_besides unit listed
  parcels ← increasing_at 2 16 (codes "parcels") value
  label ← require_text_at is_label (codes "label") value
  outline ← outline_in value
  Ok (record { unit = unit; others = others; parcels = parcels; label = label; outline = outline })

-- ---- mortgages and discharges

abbrev pub mortgage_fields : List (List ℕ)
mortgage_fields = codes "unit" ∷ codes "creditor" ∷ codes "amount" ∷ codes "currency" ∷ []

unfoldable pub mortgage_of : Data → Result Mortgage WireFault
mortgage_of value = do
  unit ← number_at (codes "unit") value
  creditor ← number_at (codes "creditor") value
  found ← field_at (codes "amount") value
  amount ← require_number is_amount found
  currency ← require_text_at is_currency (codes "currency") value
  Ok (record { unit = unit; creditor = creditor; amount = amount; currency = currency })

abbrev pub discharge_fields : List (List ℕ)
discharge_fields = codes "unit" ∷ codes "mortgage" ∷ []

unfoldable pub discharge_of : Data → Result Discharge WireFault
discharge_of value = do
  unit ← number_at (codes "unit") value
  mortgage ← number_at (codes "mortgage") value
  Ok (record { unit = unit; mortgage = mortgage })

-- ---- contents

-- the names of a content's fields
abbrev pub content_fields : ContentKind → List (List ℕ)
content_fields kind.Transfer = transfer_fields
content_fields kind.Subdivision = subdivision_fields
content_fields kind.Merger = merger_fields
content_fields kind.Mortgage = mortgage_fields
content_fields kind.Discharge = discharge_fields

-- reads these fields in order
abbrev pub content_by : ContentKind → Data → Result Content WireFault
content_by kind.Transfer value = transfer_of value >>= λ it. Ok (content.Transfer it)
content_by kind.Subdivision value = subdivision_of value >>= λ it. Ok (content.Subdivision it)
content_by kind.Merger value = merger_of value >>= λ it. Ok (content.Merger it)
content_by kind.Mortgage value = mortgage_of value >>= λ it. Ok (content.Mortgage it)
content_by kind.Discharge value = discharge_of value >>= λ it. Ok (content.Discharge it)

-- a content by itself has its own fields and no other key
unfoldable pub content_of : ContentKind → Data → Result Content WireFault
content_of which value = object_with (content_fields which) value >>= λ whole. content_by which value

-- the kind of a content by the word of its act; fault 133 for any other word
abbrev pub content_kind_of : List ℕ → Result ContentKind WireFault
content_kind_of word =
    if bytes_eq word (codes "transfer") then Ok kind.Transfer
    else (if bytes_eq word (codes "subdivision") then Ok kind.Subdivision
    else (if bytes_eq word (codes "merger") then Ok kind.Merger
    else (if bytes_eq word (codes "mortgage") then Ok kind.Mortgage
    else (if bytes_eq word (codes "discharge") then Ok kind.Discharge else Err fault.Text))))

-- a content by the word of its act and its text: first the word, then the JSON, then its fields
unfoldable pub content_in : (word text : List ℕ) → Result Content WireFault
content_in word text = do
  which ← content_kind_of word
  value ← text_value text
  content_of which value

-- ---- lodgings and decisions

-- a lodging: `reference`, `document`, then the fields of its content
unfoldable pub lodging_of : ContentKind → Data → Result Lodging WireFault
lodging_of which value = do
  whole ← object_with (codes "reference" ∷ codes "document" ∷ content_fields which) value
  reference ← require_text_at is_reference (codes "reference") value
  document ← require_text_at is_title (codes "document") value
  content ← content_by which value
  Ok (record { reference = reference; document = document; content = content })

-- a decision, which approves or refuses a mutation: `mutation`
unfoldable pub decision_of : Data → Result Decision WireFault
decision_of value = do
  whole ← object_with (codes "mutation" ∷ []) value
  mutation ← number_at (codes "mutation") value
  Ok (record { mutation = mutation })
