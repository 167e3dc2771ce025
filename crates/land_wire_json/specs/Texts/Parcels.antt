-- Parcels in JSON.
use Rattle.std.specs.Prelude.{ℕ, List, ◌++◌, codes, decimal}
use Rattle.land_core.specs.declared.parcel.Parcel.{Parcel}
use Rattle.land_shape.specs.Outline.{doubled_area}
use Rattle.land_shape.specs.Printed.{polygon_text}
use Rattle.land_wire_json.specs.Texts.Values.{number_data, outline_text, string_text}
use Rattle.serde_json.specs.Data.{Data, string, object, no_members, member}

-- twice the area of the outline, in square millimetres, and the outline in canonical form
abbrev pub parcel_data : Parcel → Data
parcel_data parcel =
    object (member (codes "doubled") (number_data (doubled_area parcel.outline))
    (member (codes "label") (string parcel.label)
    (member (codes "number") (number_data parcel.number)
    (member (codes "outline") (string (polygon_text parcel.outline))
    (member (codes "source") (number_data parcel.source)
    (member (codes "unit") (number_data parcel.unit) no_members))))))

-- ---- texts

-- the keys in order: twice the area, the label, the number, the outline, the source, the unit
abbrev pub parcel_text : Parcel → List ℕ
parcel_text parcel =
    codes "{\"doubled\":" ++ (decimal (doubled_area parcel.outline) ++ (codes ",\"label\":"
    ++ (string_text parcel.label ++ (codes ",\"number\":" ++ (decimal parcel.number ++ (codes ",\"outline\":"
    ++ (outline_text parcel.outline ++ (codes ",\"source\":" ++ (decimal parcel.source ++ (codes ",\"unit\":"
    ++ (decimal parcel.unit ++ codes "}")))))))))))
