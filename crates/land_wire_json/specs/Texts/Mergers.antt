-- Contents of mergers in JSON.
use Rattle.std.specs.Prelude.{ℕ, List, ◌++◌, map, codes, decimal}
use Rattle.land_core.specs.declared.merger.Merger.{Merger}
use Rattle.land_shape.specs.Printed.{polygon_text}
use Rattle.land_wire_json.specs.Texts.Values.{number_data, numbers_data, outline_text, string_text}
use Rattle.land_wire_json.specs.Texts.Values.{with_commas}
use Rattle.serde_json.specs.Data.{Data, string, object, no_members, member}

-- `others` are the units that end, `parcels` those that are merged, `outline` is that of the new parcel in
-- canonical form
abbrev pub merger_data : Merger → Data
merger_data it =
    object (member (codes "label") (string it.label)
    (member (codes "others") (numbers_data it.others)
    (member (codes "outline") (string (polygon_text it.outline))
    (member (codes "parcels") (numbers_data it.parcels)
    (member (codes "unit") (number_data it.unit) no_members)))))

-- ---- texts

-- the label and the outline of the new parcel, the other units, the merged parcels, the unit
abbrev pub merger_text : Merger → List ℕ
merger_text it =
    codes "{\"label\":" ++ (string_text it.label ++ (codes ",\"others\":["
    ++ (with_commas (map decimal it.others) ++ (codes "],\"outline\":" ++ (outline_text it.outline
    ++ (codes ",\"parcels\":[" ++ (with_commas (map decimal it.parcels) ++ (codes "],\"unit\":"
    ++ (decimal it.unit ++ codes "}")))))))))
