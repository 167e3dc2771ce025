-- Sources in JSON.
use Rattle.std.specs.Prelude.{List, ℕ, ◌++◌, codes, decimal}
use Rattle.land_core.specs.Words.{source_word}
use Rattle.land_core.specs.declared.source.Source.{Source}
use Rattle.land_wire_json.specs.Texts.Values.{number_data, string_text, quoted_word}
use Rattle.serde_json.specs.Data.{Data, string, object, no_members, member}

abbrev pub source_data : Source → Data
source_data source =
    object (member (codes "kind") (string (source_word source.kind))
    (member (codes "number") (number_data source.number)
    (member (codes "title") (string source.title) no_members)))

-- ---- texts

-- the keys in order: the kind, the number, the title
abbrev pub source_text : Source → List ℕ
source_text source =
    codes "{\"kind\":" ++ (quoted_word (source_word source.kind) ++ (codes ",\"number\":"
    ++ (decimal source.number ++ (codes ",\"title\":" ++ (string_text source.title ++ codes "}")))))
