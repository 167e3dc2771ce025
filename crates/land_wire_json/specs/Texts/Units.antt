-- Units in JSON.
use Rattle.std.specs.Prelude.{ℕ, List, ◌++◌, codes, decimal}
use Rattle.land_core.specs.declared.unit.Unit.{Unit}
use Rattle.land_wire_json.specs.Texts.Values.{number_data, string_text, bool_text}
use Rattle.serde_json.specs.Data.{Data, boolean, string, object, no_members, member}

abbrev pub unit_data : Unit → Data
unit_data unit =
    object (member (codes "checked") (boolean unit.checked)
    (member (codes "name") (string unit.name)
    (member (codes "number") (number_data unit.number) no_members)))

-- ---- texts

-- the keys in order: whether shares are checked, the name, the number
abbrev pub unit_text : Unit → List ℕ
unit_text unit =
    codes "{\"checked\":" ++ (bool_text unit.checked ++ (codes ",\"name\":" ++ (string_text unit.name
    ++ (codes ",\"number\":" ++ (decimal unit.number ++ codes "}")))))
