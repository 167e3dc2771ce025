-- Parties in JSON.
use Rattle.std.specs.Prelude.{ℕ, List, ◌++◌, map, codes, decimal}
use Rattle.land_core.specs.Words.{party_word, role_word}
use Rattle.land_core.specs.declared.member.Member.{Member}
use Rattle.land_core.specs.declared.party.Party.{Party}
use Rattle.land_core.specs.declared.role.Role.{Role}
use Rattle.land_wire_json.specs.Texts.Values.{number_data, share_data, share_text, with_commas, quoted_word}
use Rattle.serde_json.specs.Data.{Data, string, array, object, no_members, member}
use Rattle.serde_json.specs.View.{items_of}

abbrev pub role_data : Role → Data
role_data role = string (role_word role)

abbrev pub roles_data : List Role → Data
roles_data roles = array (items_of (map role_data roles))

abbrev pub member_data : Member → Data
member_data m =
    object (member (codes "party") (number_data m.party)
    (member (codes "share") (share_data m.share) no_members))

abbrev pub members_data : List Member → Data
members_data members = array (items_of (map member_data members))

abbrev pub party_data : Party → Data
party_data party =
    object (member (codes "kind") (string (party_word party.kind))
    (member (codes "members") (members_data party.members)
    (member (codes "name") (string party.name)
    (member (codes "number") (number_data party.number)
    (member (codes "roles") (roles_data party.roles) no_members)))))

-- ---- texts

abbrev pub role_text : Role → List ℕ
role_text role = quoted_word (role_word role)

abbrev pub member_text : Member → List ℕ
member_text m =
    codes "{\"party\":" ++ (decimal m.party ++ (codes ",\"share\":" ++ (share_text m.share ++ codes "}")))

-- `name` is a JSON string with its quotation marks
abbrev pub party_text : (kind : List ℕ) → List Member → (name : List ℕ) → ℕ → List Role → List ℕ
party_text kind members name n roles =
    codes "{\"kind\":" ++ (quoted_word kind ++ (codes ",\"members\":["
    ++ (with_commas (map member_text members)
    ++ (codes "],\"name\":" ++ (name ++ (codes ",\"number\":" ++ (decimal n ++ (codes ",\"roles\":["
    ++ (with_commas (map role_text roles) ++ codes "]}")))))))))
