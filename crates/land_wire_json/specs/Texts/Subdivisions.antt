-- Contents of subdivisions in JSON.
use Rattle.std.specs.Prelude.{ℕ, List, [], ◌++◌, map, codes, decimal, Option, Some, None}
use Rattle.land_core.specs.declared.act.NewParcel.{NewParcel}
use Rattle.land_core.specs.declared.subdivision.Part.{Part}
use Rattle.land_core.specs.declared.subdivision.Subdivision.{Subdivision}
use Rattle.land_shape.specs.Printed.{polygon_text}
use Rattle.land_wire_json.specs.Texts.Values.{number_data, outline_text, string_text, with_commas}
use Rattle.serde_json.specs.Data.{Data, string, array, object, Members, no_members, member}
use Rattle.serde_json.specs.View.{items_of}

-- the part that remains in the unit, its outline in canonical form
abbrev pub first_data : NewParcel → Data
first_data it =
    object (member (codes "label") (string it.label)
    (member (codes "outline") (string (polygon_text it.outline)) no_members))

-- the name of a new unit; a part that remains in the unit has no such member
abbrev pub name_members : Option (List ℕ) → Members
name_members None = no_members
name_members (Some name) = member (codes "unit") (string name) no_members

abbrev pub part_data : Part → Data
part_data part =
    object (member (codes "label") (string part.label)
    (member (codes "outline") (string (polygon_text part.outline)) (name_members part.unit)))

abbrev pub parts_data : List Part → Data
parts_data parts = array (items_of (map part_data parts))

abbrev pub subdivision_data : Subdivision → Data
subdivision_data it =
    object (member (codes "first") (first_data it.first)
    (member (codes "parcel") (number_data it.parcel)
    (member (codes "rest") (parts_data it.rest)
    (member (codes "unit") (number_data it.unit) no_members))))

-- ---- texts

-- the part that remains in the unit
abbrev pub first_text : NewParcel → List ℕ
first_text it =
    codes "{\"label\":" ++ (string_text it.label ++ (codes ",\"outline\":" ++ (outline_text it.outline
    ++ codes "}")))

-- empty if the part remains in the unit
abbrev pub name_text : Option (List ℕ) → List ℕ
name_text None = []
name_text (Some name) = codes ",\"unit\":" ++ string_text name

-- a further part, with the name of its new unit if it goes to one
abbrev pub part_text : Part → List ℕ
part_text part =
    codes "{\"label\":" ++ (string_text part.label ++ (codes ",\"outline\":" ++ (outline_text part.outline
    ++ (name_text part.unit ++ codes "}"))))

-- the first part, the parcel that is divided, the other parts, the unit
abbrev pub subdivision_text : Subdivision → List ℕ
subdivision_text it =
    codes "{\"first\":" ++ (first_text it.first ++ (codes ",\"parcel\":" ++ (decimal it.parcel
    ++ (codes ",\"rest\":[" ++ (with_commas (map part_text it.rest) ++ (codes "],\"unit\":"
    ++ (decimal it.unit
    ++ codes "}")))))))
