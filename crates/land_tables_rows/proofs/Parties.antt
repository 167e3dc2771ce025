-- A decoded party is the one that was written.
use Rattle.std.proofs.Common.{◌≡◌, ℕ, List, true, codes, nat_eq, Ok, Result, refl}
use Rattle.std.specs.Str.{IsUtf8}
use Rattle.std.proofs.lemmas.Bool.{and_parts}
use Rattle.land_core.specs.Numbers.{is_number}
use Rattle.land_core.specs.Texts.{is_name}
use Rattle.land_core.specs.Words.{party_word}
use Rattle.land_core.specs.declared.kind.PartyKind.{PartyKind}
use Rattle.land_core.specs.declared.kind.PartyKind.TheVariants.{Group, NaturalPerson, NonNaturalPerson}
use Rattle.land_core.specs.declared.party.PartyRecord.{PartyRecord}
use Rattle.land_tables_rows.proofs.Lives.{IsReading}
use Rattle.land_tables_rows.proofs.Numbered.{numbered_reading, numbers_agree}
use Rattle.land_tables_rows.proofs.WrittenCells.{limited_reads, number_reads, text_reads, word_cell}
use Rattle.land_tables_rows.specs.Party.Reading.{party_in}
use Rattle.land_tables_rows.specs.Party.Writing.{fits_party}
use Rattle.land_tables_rows.specs.Reading.Cells.{name_in, number_in}
use Rattle.land_tables_rows.specs.Reading.Words.{party_kind_of, party_kind_in}
use Rattle.land_tables_schema.specs.Rows.Party.{PartyRow, is_party, party_cells}
use Rattle.land_tables_schema.specs.Rows.Versions.{whole}
use Rattle.land_tables_schema.specs.Tables.{party}
use Rattle.land_wire_json.specs.Bodies.WireFaults.{◌>>=◌}
use Rattle.land_wire_json.specs.declared.bodies.wire_fault.WireFault.{WireFault}
use Rattle.sqlite_value.specs.declared.value.Value.{Value}
use Rattle.sqlite_value.specs.declared.value.Value.TheVariants.{Text}

abbrev pub what : PartyRow → Result (ℕ × PartyRecord) WireFault
what p =
    number_in (whole p.number) >>= λ number. name_in (Text p.name) >>= λ name. party_kind_in (Text p.kind)
    >>= λ kind. Ok (number, record { kind = kind; name = name })

-- cells that decode were laid out from a party
found : (number : ℕ) (x y : Value) (a : List ℕ) (b : PartyKind) → name_in x ≡ Ok a → party_kind_in y ≡ Ok b
    → (p : PartyRow) × (p.number ≡ number) × (Text p.name ≡ x) × (Text p.kind ≡ y)
unfolding party_kind_in
found number x y a b h k =
    let name = word_cell x _ a h in
    let kind = word_cell y party_kind_of b k in
    (record { number = number; name = name.0; kind = kind.0 }, refl, name.1, kind.1)

pub is_reading : IsReading party 3 party_cells party_in what
unfolding party_in
is_reading =
    numbered_reading {C = PartyRow} {R = PartyRecord} (λ p. p.number) (λ p. Text p.name) (λ p. Text p.kind)
    name_in party_kind_in (λ name kind. record { kind = kind; name = name }) party found

-- the word of a kind decodes to that kind
kind_reads : (kind : PartyKind) → IsUtf8 (party_word kind) → party_kind_in (Text (party_word kind)) ≡ Ok kind
unfolding party_kind_in
kind_reads NaturalPerson utf8 = rw (text_reads (codes "naturalPerson") utf8) refl
kind_reads NonNaturalPerson utf8 = rw (text_reads (codes "nonNaturalPerson") utf8) refl
kind_reads Group utf8 = rw (text_reads (codes "group") utf8) refl

-- how a party is laid out in cells
abbrev pub row_of : ℕ → PartyRecord → PartyRow
row_of number p = record { number = number; name = p.name; kind = party_word p.kind }

-- a party within its limits decodes to itself
pub what_is : (number : ℕ) (p : PartyRecord) → fits_party number p ≡ true → IsUtf8 p.name → IsUtf8 (party_word p.kind) → what (row_of number p) ≡ Ok (number, p)
what_is number p fits name kind =
    let parts = and_parts (is_number number) (is_name p.name) fits in
    rw (number_reads number parts.0, limited_reads is_name p.name name parts.1, kind_reads p.kind kind) refl

-- the number of a party decodes to itself
pub agree : (n : ℕ) (c : PartyRow) (x : ℕ × PartyRecord) → what c ≡ Ok x → nat_eq x.0 n ≡ is_party n c
agree =
    numbers_agree {C = PartyRow} {R = PartyRecord} (λ p. p.number) (λ p. Text p.name) (λ p. Text p.kind)
    name_in party_kind_in (λ name kind. record { kind = kind; name = name })
