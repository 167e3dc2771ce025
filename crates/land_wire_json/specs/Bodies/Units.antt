-- The bodies of acts on units and their entries. Fields are read in the order given.
use Rattle.std.specs.Prelude.{ℕ, List, [], ◌∷◌, codes, Result, Ok, Err, if◌then◌else◌}
use Rattle.land_core.specs.Acts.{have_owner}
use Rattle.land_core.specs.Texts.{is_name, is_title, is_label, are_words}
use Rattle.land_core.specs.declared.act.Burden.{Burden}
use Rattle.land_core.specs.declared.act.Lift.{Lift}
use Rattle.land_core.specs.declared.act.NewParcel.{NewParcel}
use Rattle.land_core.specs.declared.act.NewRight.{NewRight}
use Rattle.land_core.specs.declared.act.NewUnit.{NewUnit}
use Rattle.land_wire_json.specs.Bodies.Fields.{object_with, bool_at, require_text_at, number_at, items_at}
use Rattle.land_wire_json.specs.Bodies.Fields.{each_item}
use Rattle.land_wire_json.specs.Bodies.Outlines.{outline_in}
use Rattle.land_wire_json.specs.Bodies.Shares.{share_at}
use Rattle.land_wire_json.specs.Bodies.WireFaults.{◌>>=◌}
use Rattle.land_wire_json.specs.Bodies.Words.{type_in, class_in}
use Rattle.land_wire_json.specs.declared.bodies.wire_fault.WireFault.{WireFault}
use Rattle.land_wire_json.specs.declared.bodies.wire_fault.WireFault.TheVariants as fault
use Rattle.serde_json.specs.Data.{Data}

-- a parcel: `label`, `outline`
unfoldable pub parcel_of : Data → Result NewParcel WireFault
parcel_of value = do
  whole ← object_with (codes "label" ∷ codes "outline" ∷ []) value
  label ← require_text_at is_label (codes "label") value
  outline ← outline_in value
  Ok (record { label = label; outline = outline })

-- a right: `party`, `type`, `share`
unfoldable pub right_of : Data → Result NewRight WireFault
right_of value = do
  whole ← object_with (codes "party" ∷ codes "type" ∷ codes "share" ∷ []) value
  party ← number_at (codes "party") value
  type ← type_in value
  share ← share_at (codes "share") value
  Ok (record { party = party; right_type = type; share = share })

-- fault 131 if none of the rights is an ownership, after each right was read
abbrev pub require_owner : List NewRight → Result (List NewRight) WireFault
require_owner rights = if have_owner rights then Ok rights else Err fault.Field

-- `rights`: 1 to 64 rights, one of them an ownership
unfoldable pub rights_of : Data → Result (List NewRight) WireFault
rights_of value = items_at 1 64 (codes "rights") value >>= each_item right_of >>= require_owner

-- `parcels`: 1 to 64 parcels
unfoldable pub parcels_of : Data → Result (List NewParcel) WireFault
parcels_of value = items_at 1 64 (codes "parcels") value >>= each_item parcel_of

-- a unit: `name`, `checked`, `document`, `parcels`, `rights`
abbrev pub new_unit_fields : List (List ℕ)
new_unit_fields = codes "name" ∷ codes "checked" ∷ codes "document" ∷ codes "parcels" ∷ codes "rights" ∷ []

unfoldable pub unit_by : Data → Result NewUnit WireFault
unit_by value = do
  name ← require_text_at is_name (codes "name") value
  checked ← bool_at (codes "checked") value
  document ← require_text_at is_title (codes "document") value
  parcels ← parcels_of value
  rights ← rights_of value
  Ok (record { name = name; checked = checked; document = document; parcels = parcels; rights = rights })

unfoldable pub unit_of : Data → Result NewUnit WireFault
unit_of value = object_with new_unit_fields value >>= λ whole. unit_by value

-- a burden: `unit`, `party`, `class`, `words`, `document`
abbrev pub burden_fields : List (List ℕ)
burden_fields = codes "unit" ∷ codes "party" ∷ codes "class" ∷ codes "words" ∷ codes "document" ∷ []

unfoldable pub burden_by : Data → Result Burden WireFault
burden_by value = do
  unit ← number_at (codes "unit") value
  party ← number_at (codes "party") value
  class ← class_in value
  words ← require_text_at are_words (codes "words") value
  document ← require_text_at is_title (codes "document") value
  Ok (record { unit = unit; party = party; class = class; words = words; document = document })

unfoldable pub burden_of : Data → Result Burden WireFault
burden_of value = object_with burden_fields value >>= λ whole. burden_by value

-- a burden to lift: `rrr`
unfoldable pub lift_of : Data → Result Lift WireFault
lift_of value = do
  whole ← object_with (codes "rrr" ∷ []) value
  rrr ← number_at (codes "rrr") value
  Ok (record { rrr = rrr })
