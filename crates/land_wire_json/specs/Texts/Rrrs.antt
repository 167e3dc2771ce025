-- The entries of units in JSON: rights, restrictions, responsibilities and mortgages.
use Rattle.std.specs.Prelude.{List, ℕ, ◌++◌, codes, decimal}
use Rattle.land_core.specs.Words.{right_word}
use Rattle.land_core.specs.declared.rrr.Class.{Class}
use Rattle.land_core.specs.declared.rrr.Class.TheVariants.{Right, Restriction, Responsibility, Mortgage}
use Rattle.land_core.specs.declared.rrr.RightType.{RightType}
use Rattle.land_core.specs.declared.rrr.Rrr.{Rrr}
use Rattle.land_fraction.specs.Ratio.{Ratio}
use Rattle.land_wire_json.specs.Texts.Values.{number_data, share_data, share_text, string_text, quoted_word}
use Rattle.serde_json.specs.Data.{Data, string, object, no_members, member}

abbrev pub right_data : Rrr → RightType → Ratio → Data
right_data entry type share =
    object (member (codes "class") (string (right_word type))
    (member (codes "number") (number_data entry.number)
    (member (codes "party") (number_data entry.party)
    (member (codes "share") (share_data share)
    (member (codes "source") (number_data entry.source)
    (member (codes "unit") (number_data entry.unit) no_members))))))

-- a restriction or a responsibility
abbrev pub burden_data : Rrr → (class words : List ℕ) → Data
burden_data entry class words =
    object (member (codes "class") (string class)
    (member (codes "number") (number_data entry.number)
    (member (codes "party") (number_data entry.party)
    (member (codes "source") (number_data entry.source)
    (member (codes "unit") (number_data entry.unit)
    (member (codes "words") (string words) no_members))))))

abbrev pub mortgage_data : Rrr → (amount : ℕ) → (currency : List ℕ) → (rank : ℕ) → Data
mortgage_data entry amount currency rank =
    object (member (codes "amount") (number_data amount)
    (member (codes "class") (string (codes "mortgage"))
    (member (codes "currency") (string currency)
    (member (codes "number") (number_data entry.number)
    (member (codes "party") (number_data entry.party)
    (member (codes "rank") (number_data rank)
    (member (codes "source") (number_data entry.source)
    (member (codes "unit") (number_data entry.unit) no_members))))))))

-- an entry, by its class
abbrev pub class_data : Rrr → Class → Data
class_data entry (Right type share) = right_data entry type share
class_data entry (Restriction words) = burden_data entry (codes "restriction") words
class_data entry (Responsibility words) = burden_data entry (codes "responsibility") words
class_data entry (Mortgage amount currency rank) = mortgage_data entry amount currency rank

abbrev pub rrr_data : Rrr → Data
rrr_data entry = class_data entry entry.class

-- ---- texts

-- a right, with its share
abbrev pub right_text : Rrr → RightType → Ratio → List ℕ
right_text entry type share =
    codes "{\"class\":" ++ (quoted_word (right_word type) ++ (codes ",\"number\":" ++ (decimal entry.number
    ++ (codes ",\"party\":" ++ (decimal entry.party ++ (codes ",\"share\":" ++ (share_text share
    ++ (codes ",\"source\":" ++ (decimal entry.source ++ (codes ",\"unit\":" ++ (decimal entry.unit
    ++ codes "}")))))))))))

-- a restriction or a responsibility, with its words
abbrev pub burden_text : Rrr → (class words : List ℕ) → List ℕ
burden_text entry class words =
    codes "{\"class\":" ++ (quoted_word class ++ (codes ",\"number\":" ++ (decimal entry.number
    ++ (codes ",\"party\":" ++ (decimal entry.party ++ (codes ",\"source\":" ++ (decimal entry.source
    ++ (codes ",\"unit\":" ++ (decimal entry.unit ++ (codes ",\"words\":" ++ (string_text words
    ++ codes "}")))))))))))

-- a mortgage, with its amount, its currency and its rank
abbrev pub mortgage_text : Rrr → (amount : ℕ) → (currency : List ℕ) → (rank : ℕ) → List ℕ
mortgage_text entry amount currency rank =
    codes "{\"amount\":" ++ (decimal amount ++ (codes ",\"class\":" ++ (quoted_word (codes "mortgage")
    ++ (codes ",\"currency\":" ++ (string_text currency ++ (codes ",\"number\":" ++ (decimal entry.number
    ++ (codes ",\"party\":" ++ (decimal entry.party ++ (codes ",\"rank\":" ++ (decimal rank
    ++ (codes ",\"source\":" ++ (decimal entry.source ++ (codes ",\"unit\":" ++ (decimal entry.unit
    ++ codes "}")))))))))))))))

-- an entry, by its class
abbrev pub class_text : Rrr → Class → List ℕ
class_text entry (Right type share) = right_text entry type share
class_text entry (Restriction words) = burden_text entry (codes "restriction") words
class_text entry (Responsibility words) = burden_text entry (codes "responsibility") words
class_text entry (Mortgage amount currency rank) = mortgage_text entry amount currency rank

abbrev pub rrr_text : Rrr → List ℕ
rrr_text entry = class_text entry entry.class
