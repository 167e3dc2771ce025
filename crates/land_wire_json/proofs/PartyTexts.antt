-- Texts of lists and of parties, as plain bytes.
use Rattle.std.proofs.Common.{◌≡◌, ℕ, List, [], ◌∷◌, ◌++◌, map, refl, ap, codes, append_assoc, ◌∙◌, false, true, decimal}
use Rattle.land_core.specs.Words.{party_word}
use Rattle.land_core.specs.declared.kind.PartyKind.{PartyKind}
use Rattle.land_core.specs.declared.kind.PartyKind.TheVariants as kind
use Rattle.land_core.specs.declared.member.Member.{Member}
use Rattle.land_core.specs.declared.object.Object.TheVariants as shown
use Rattle.land_core.specs.declared.role.Role.{Role}
use Rattle.land_core.specs.declared.role.Role.TheVariants as role
use Rattle.land_wire_json.specs.Texts.Objects.{object_text}
use Rattle.land_wire_json.specs.Texts.Parties.{role_data, member_data, role_text, member_text, party_text}
use Rattle.land_wire_json.specs.Texts.Values.{number_data, after_comma, with_commas, quoted_word}
use Rattle.serde_json.proofs.OnLiterals.{serde_json_on_literals}
use Rattle.serde_json.specs.Data.{string}
use Rattle.serde_json.specs.View.{items_of}
use Rattle.serde_json.specs.Written.{compact_text, items_text}

more_numbers : (ns rest : List ℕ) → items_text true (items_of (map number_data ns)) ++ rest ≡ after_comma (map decimal ns) ++ (93 ∷ rest)
more_numbers [] rest = refl
more_numbers (n ∷ ns) rest = simp append_assoc (ap (λ (t : List ℕ). 44 ∷ (decimal n ++ t)) (more_numbers ns rest))

pub all_numbers : (ns rest : List ℕ) → items_text false (items_of (map number_data ns)) ++ rest ≡ with_commas (map decimal ns) ++ (93 ∷ rest)
all_numbers [] rest = refl
all_numbers (n ∷ ns) rest = simp append_assoc (ap (λ (t : List ℕ). decimal n ++ t) (more_numbers ns rest))

role-text : (r : Role) → compact_text (role_data r) ≡ role_text r
unfolding serde_json_on_literals
role-text role.Citizen = refl
role-text role.Conveyancer = refl
role-text role.Notary = refl
role-text role.Bank = refl
role-text role.CertifiedSurveyor = refl
role-text role.StateAdministrator = refl

pub member-text : (m : Member) → compact_text (member_data m) ≡ member_text m
unfolding serde_json_on_literals
member-text m = refl

kind-text : (k : PartyKind) → compact_text (string (party_word k)) ≡ quoted_word (party_word k)
unfolding serde_json_on_literals
kind-text kind.NaturalPerson = refl
kind-text kind.NonNaturalPerson = refl
kind-text kind.Group = refl

pub one_more : (x y tail rest more end : List ℕ) → x ≡ y → tail ++ rest ≡ more ++ end → (x ++ tail) ++ rest ≡ (y ++ more) ++ end
one_more x y tail rest more end e h = rw e (simp (append_assoc, h))

more_roles : (rs : List Role) (rest : List ℕ) → items_text true (items_of (map role_data rs)) ++ rest ≡ after_comma (map role_text rs) ++ (93 ∷ rest)
more_roles [] rest = refl
more_roles (r ∷ rs) rest =
    ap (λ (t : List ℕ). 44 ∷ t)
    (one_more (compact_text (role_data r)) (role_text r) (items_text true (items_of (map role_data rs))) rest
    (after_comma (map role_text rs)) (93 ∷ rest) (role-text r) (more_roles rs rest))

all_roles : (rs : List Role) (rest : List ℕ) → items_text false (items_of (map role_data rs)) ++ rest ≡ with_commas (map role_text rs) ++ (93 ∷ rest)
all_roles [] rest = refl
all_roles (r ∷ rs) rest =
    one_more (compact_text (role_data r)) (role_text r) (items_text true (items_of (map role_data rs))) rest
    (after_comma (map role_text rs)) (93 ∷ rest) (role-text r) (more_roles rs rest)

more_members : (ms : List Member) (rest : List ℕ) → items_text true (items_of (map member_data ms)) ++ rest ≡ after_comma (map member_text ms) ++ (93 ∷ rest)
more_members [] rest = refl
more_members (m ∷ ms) rest =
    ap (λ (t : List ℕ). 44 ∷ t)
    (one_more (compact_text (member_data m)) (member_text m) (items_text true (items_of (map member_data ms))) rest
    (after_comma (map member_text ms)) (93 ∷ rest) (member-text m) (more_members ms rest))

all_members : (ms : List Member) (rest : List ℕ) → items_text false (items_of (map member_data ms)) ++ rest ≡ with_commas (map member_text ms) ++ (93 ∷ rest)
all_members [] rest = refl
all_members (m ∷ ms) rest =
    one_more (compact_text (member_data m)) (member_text m) (items_text true (items_of (map member_data ms))) rest
    (after_comma (map member_text ms)) (93 ∷ rest) (member-text m) (more_members ms rest)

party_parts : (K L A M W B N C D E R S : List ℕ) → K ≡ L → ((rest : List ℕ) → M ++ rest ≡ W ++ (93 ∷ rest)) → R ++ codes "}" ≡ S ++ codes "]}"
    → K ++ (A ++ (M ++ (B ++ (N ++ (C ++ (D ++ (E ++ (R ++ codes "}"))))))))
    ≡ L ++ (A ++ (W ++ (93 ∷ (B ++ (N ++ (C ++ (D ++ (E ++ (S ++ codes "]}")))))))))
party_parts K L A M W B N C D E R S e m h =
    rw e
    (ap (λ (t : List ℕ). L ++ (A ++ t))
    (m (B ++ (N ++ (C ++ (D ++ (E ++ (R ++ codes "}"))))))
    ∙ ap (λ (t : List ℕ). W ++ (93 ∷ (B ++ (N ++ (C ++ (D ++ (E ++ t))))))) h))

pub party-text : (n : ℕ) (k : PartyKind) (name : List ℕ) (members : List Member) (roles : List Role)
    → object_text (shown.Party (record { number = n; kind = k; name = name; members = members; roles = roles }))
    ≡ party_text (party_word k) members (compact_text (string name)) n roles
unfolding serde_json_on_literals
party-text n k name members roles =
    ap (λ (t : List ℕ). codes "{\"kind\":" ++ t)
    (party_parts (compact_text (string (party_word k))) (quoted_word (party_word k)) (codes ",\"members\":[")
    (items_text false (items_of (map member_data members))) (with_commas (map member_text members)) (codes ",\"name\":")
    (compact_text (string name)) (codes ",\"number\":") (decimal n) (codes ",\"roles\":[")
    (items_text false (items_of (map role_data roles))) (with_commas (map role_text roles))
    (kind-text k) (all_members members) (all_roles roles (codes "}")))
