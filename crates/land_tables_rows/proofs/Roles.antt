-- A decoded role is the one that was written.
use Rattle.std.proofs.Common.{◌≡◌, ◌&&◌, ℕ, ℤ, List, [], ◌∷◌, ◌++◌, Bool, true, codes, Ok, Result, refl, sym, ap, ◌∙◌}
use Rattle.std.specs.Str.{IsUtf8}
use Rattle.std.proofs.Common.{Err, arith, false, bytes_eq, if◌then◌else◌, ◌==◌, ap₂}
use Rattle.std.proofs.lemmas.Bool.Decides.{nat_tests}
use Rattle.std.proofs.lemmas.Slice.Eq.{bytes_eq-Decides}
use Rattle.std.specs.Ordering.{is_eq, nat_cmp, ordering_then}
use Rattle.std.specs.declared.cmp.Ordering.{Ordering}
use Rattle.std.specs.declared.cmp.Ordering.TheVariants.{Less, Equal, Greater}
use Rattle.land_core.specs.Role.{role_cmp}
use Rattle.land_core.specs.Words.{role_word}
use Rattle.land_core.specs.declared.role.Role.{Role}
use Rattle.land_core.specs.declared.role.Role.TheVariants.{Citizen, Conveyancer, Notary, Bank, CertifiedSurveyor, StateAdministrator}
use Rattle.land_core.specs.declared.roles.Grant.{Grant}
use Rattle.land_tables_history.specs.Intervals.{is_same_grant}
use Rattle.land_tables_history.specs.declared.version.Version.{Version}
use Rattle.land_tables_rows.proofs.Bounds.{bound, same_ok, two}
use Rattle.land_tables_rows.proofs.Lives.{IsReading, lived}
use Rattle.land_tables_rows.proofs.WrittenCells.{cons, end_cell, moment_cell, number_cell, number_reads, same_number, same_text, text_reads, word_cell}
use Rattle.land_tables_rows.specs.Reading.Cells.{end_in, moment_in, number_in, text_in}
use Rattle.land_tables_rows.specs.Reading.Words.{role_in}
use Rattle.land_tables_rows.specs.Role.Reading.{role_grant_in}
use Rattle.land_tables_rows.specs.Role.Writing.{fits_grant}
use Rattle.land_tables_schema.specs.Rows.Role.{RoleRow, is_grant, role_cells}
use Rattle.land_tables_schema.specs.Rows.Versions as rows
use Rattle.land_tables_schema.specs.Rows.Versions.{whole}
use Rattle.land_tables_schema.specs.Tables as table
use Rattle.land_wire_json.specs.Bodies.WireFaults.{◌>>=◌}
use Rattle.land_wire_json.specs.Bodies.Words.{role_of}
use Rattle.land_wire_json.specs.declared.bodies.wire_fault.WireFault.{WireFault}
use Rattle.land_wire_json.specs.declared.bodies.wire_fault.WireFault.TheVariants as fault
use Rattle.sqlite_value.specs.Order.{column}
use Rattle.sqlite_value.specs.declared.value.Value.{Value}
use Rattle.sqlite_value.specs.declared.value.Value.TheVariants.{Int, Text}

-- the values of a role's cells
abbrev pub what : RoleRow → Result Grant WireFault
what r = number_in (whole r.party) >>= λ party. role_in (Text r.role) >>= λ role. Ok (record { party = party; role = role })

reads : (r : RoleRow) (since until : ℤ) → role_grant_in (role_cells r ++ Int since ∷ Int until ∷ []) ≡ (what r >>= λ it. lived it since until)
unfolding role_grant_in
reads r since until = two (number_in (whole r.party)) (role_in (Text r.role)) (λ party role. record { party = party; role = role }) (λ it. lived it since until)

cells_are : (a b c d : Value) (v : Version Grant) → role_grant_in (a ∷ b ∷ c ∷ d ∷ []) ≡ Ok v → (p : rows.Version RoleRow) × (role_cells p.what ++ Int p.since ∷ Int p.until ∷ [] ≡ a ∷ b ∷ c ∷ d ∷ [])
unfolding role_grant_in role_in
cells_are a b c d v h =
    let one = bound (number_in a) _ v h in
    let two = bound (text_in b >>= role_of) _ v one.2 in
    let three = bound (moment_in c) _ v two.2 in
    let four = bound (end_in d) _ v three.2 in
    let role = word_cell b _ two.0 two.1 in (
      record { what = record { party = one.0; role = role.0 }; since = three.0; until = four.0 },
      cons (sym (number_cell a one.0 one.1)) (cons role.1 (cons (sym (moment_cell c three.0 three.1)) (cons (sym (end_cell d four.0 four.1)) refl))),
    )

pub is_reading : IsReading table.role 2 role_cells role_grant_in what
is_reading = record { reads = reads; found = λ r v h. cells_are (column r 1) (column r 2) (column r 3) (column r 4) v h }

-- the word of a role decodes to that role
role_reads : (role : Role) → IsUtf8 (role_word role) → role_in (Text (role_word role)) ≡ Ok role
unfolding role_in
role_reads Citizen utf8 = rw (text_reads (codes "citizen") utf8) refl
role_reads Conveyancer utf8 = rw (text_reads (codes "conveyancer") utf8) refl
role_reads Notary utf8 = rw (text_reads (codes "notary") utf8) refl
role_reads Bank utf8 = rw (text_reads (codes "bank") utf8) refl
role_reads CertifiedSurveyor utf8 = rw (text_reads (codes "certifiedSurveyor") utf8) refl
role_reads StateAdministrator utf8 = rw (text_reads (codes "stateAdministrator") utf8) refl

-- how a grant is laid out in cells
abbrev pub row_of : Grant → RoleRow
row_of grant = record { party = grant.party; role = role_word grant.role }

-- a grant within its limits decodes to itself
pub what_is : (grant : Grant) → fits_grant grant ≡ true → IsUtf8 (role_word grant.role) → what (row_of grant) ≡ Ok grant
what_is grant fits word = rw (number_reads grant.party fits, role_reads grant.role word) refl

-- ---- the cells of a grant determine it

same_word : (word text : List ℕ) → bytes_eq word text ≡ true → word ≡ text
same_word word text h = (bytes_eq-Decides word text).0 h

decode_rows : (word : List ℕ) (role : Role) (a b c d e f : Bool) → bytes_eq word (codes "citizen") ≡ a → bytes_eq word (codes "conveyancer") ≡ b → bytes_eq word (codes "notary") ≡ c → bytes_eq word (codes "bank") ≡ d
    → bytes_eq word (codes "certifiedSurveyor") ≡ e → bytes_eq word (codes "stateAdministrator") ≡ f
    → ◌≡◌ {A = Result Role WireFault} (if a then Ok Citizen else (if b then Ok Conveyancer else (if c then Ok Notary else (if d then Ok Bank
    else (if e then Ok CertifiedSurveyor else (if f then Ok StateAdministrator else Err fault.Role)))))) (Ok role) → word ≡ role_word role
decode_rows word role true b c d e f p q r s t u h = same_word word (codes "citizen") p ∙ ap role_word (same_ok h)
decode_rows word role false true c d e f p q r s t u h = same_word word (codes "conveyancer") q ∙ ap role_word (same_ok h)
decode_rows word role false false true d e f p q r s t u h = same_word word (codes "notary") r ∙ ap role_word (same_ok h)
decode_rows word role false false false true e f p q r s t u h = same_word word (codes "bank") s ∙ ap role_word (same_ok h)
decode_rows word role false false false false true f p q r s t u h = same_word word (codes "certifiedSurveyor") t ∙ ap role_word (same_ok h)
decode_rows word role false false false false false true p q r s t u h = same_word word (codes "stateAdministrator") u ∙ ap role_word (same_ok h)
decode_rows word role false false false false false false p q r s t u h = absurd (let k = h in cc)

-- a word that decodes to a role is the word of that role
told : (word : List ℕ) (role : Role) → role_of word ≡ Ok role → word ≡ role_word role
told word role h = decode_rows word role _ _ _ _ _ _ refl refl refl refl refl refl h

word_is : (word : List ℕ) (role : Role) → role_in (Text word) ≡ Ok role → word ≡ role_word role
unfolding role_in
word_is word role h = let one = bound (text_in (Text word)) role_of role h in same_text word one.0 one.1 ∙ told one.0 role one.2

-- equal words have equal roles
same_roles : (r s : Role) → is_eq (role_cmp r s) ≡ bytes_eq (role_word r) (role_word s)
same_roles Citizen Citizen = refl
same_roles Conveyancer Conveyancer = refl
same_roles Notary Notary = refl
same_roles Bank Bank = refl
same_roles CertifiedSurveyor CertifiedSurveyor = refl
same_roles StateAdministrator StateAdministrator = refl
same_roles r s = refl

pub both_same : (a b : Ordering) → is_eq (ordering_then a b) ≡ (is_eq a && is_eq b)
both_same Less b = refl
both_same Equal b = refl
both_same Greater b = refl

pub same_parties : (m n : ℕ) → is_eq (nat_cmp m n) ≡ (m == n)
same_parties m n = grind (arith, nat_tests)

-- a grant decodes to itself
pub agree : (grant : Grant) (c : RoleRow) (x : Grant) → what c ≡ Ok x → is_same_grant x grant ≡ is_grant grant.party (role_word grant.role) c
agree grant c x h =
    let one = bound (number_in (whole c.party)) _ x h in
    let two = bound (role_in (Text c.role)) _ x one.2 in
    let is = same_ok two.2 in
    let party : c.party ≡ x.party = same_number c.party one.0 one.1 ∙ ap (λ (e : Grant). e.party) is in
    let role : c.role ≡ role_word x.role = word_is c.role two.0 two.1 ∙ ap (λ (e : Grant). role_word e.role) is in
    both_same (nat_cmp x.party grant.party) (role_cmp x.role grant.role) ∙ ap₂ ◌&&◌ (same_parties x.party grant.party) (same_roles x.role grant.role)
    ∙ sym (ap₂ (λ p r. (p == grant.party) && bytes_eq r (role_word grant.role)) party role)
