-- A decoded source is the one that was written.
use Rattle.std.proofs.Common.{◌≡◌, ℕ, List, true, nat_eq, codes, Ok, Result, refl}
use Rattle.std.specs.Str.{IsUtf8}
use Rattle.std.proofs.lemmas.Bool.{and_parts}
use Rattle.land_core.specs.Numbers.{is_number}
use Rattle.land_core.specs.Texts.{is_title}
use Rattle.land_core.specs.Words.{source_word}
use Rattle.land_core.specs.declared.source.SourceKind.{SourceKind}
use Rattle.land_core.specs.declared.source.SourceKind.TheVariants.{Administrative, Spatial}
use Rattle.land_core.specs.declared.source.SourceRecord.{SourceRecord}
use Rattle.land_tables_rows.proofs.Lives.{IsReading}
use Rattle.land_tables_rows.proofs.Numbered.{numbered_reading, numbers_agree}
use Rattle.land_tables_rows.proofs.WrittenCells.{limited_reads, number_reads, text_reads, word_cell}
use Rattle.land_tables_rows.specs.Reading.Cells.{number_in, title_in}
use Rattle.land_tables_rows.specs.Reading.Words.{source_kind_in, source_kind_of}
use Rattle.land_tables_rows.specs.Source.Reading.{source_in}
use Rattle.land_tables_rows.specs.Source.Writing.{fits_source}
use Rattle.land_tables_schema.specs.Rows.Source.{SourceRow, is_source, source_cells}
use Rattle.land_tables_schema.specs.Rows.Versions.{whole}
use Rattle.land_tables_schema.specs.Tables as table
use Rattle.land_wire_json.specs.Bodies.WireFaults.{◌>>=◌}
use Rattle.land_wire_json.specs.declared.bodies.wire_fault.WireFault.{WireFault}
use Rattle.sqlite_value.specs.declared.value.Value.{Value}
use Rattle.sqlite_value.specs.declared.value.Value.TheVariants.{Text}

-- the values of a source's cells
abbrev pub what : SourceRow → Result (ℕ × SourceRecord) WireFault
what s =
    number_in (whole s.number) >>= λ number. source_kind_in (Text s.kind) >>= λ kind. title_in (Text s.title)
    >>= λ title. Ok (number, record { kind = kind; title = title })

-- cells that decode were laid out from a source
found : (number : ℕ) (x y : Value) (a : SourceKind) (b : List ℕ) → source_kind_in x ≡ Ok a → title_in y ≡ Ok b
    → (s : SourceRow) × (s.number ≡ number) × (Text s.kind ≡ x) × (Text s.title ≡ y)
unfolding source_kind_in
found number x y a b h k =
    let kind = word_cell x source_kind_of a h in
    let title = word_cell y _ b k in
    (record { number = number; kind = kind.0; title = title.0 }, refl, kind.1, title.1)

pub is_reading : IsReading table.source 3 source_cells source_in what
unfolding source_in
is_reading =
    numbered_reading {C = SourceRow} {R = SourceRecord} (λ s. s.number) (λ s. Text s.kind) (λ s. Text s.title)
    source_kind_in title_in (λ kind title. record { kind = kind; title = title }) table.source found

-- the word of a kind decodes to that kind
kind_reads : (kind : SourceKind) → IsUtf8 (source_word kind) → source_kind_in (Text (source_word kind)) ≡ Ok kind
unfolding source_kind_in
kind_reads Administrative utf8 = rw (text_reads (codes "administrative") utf8) refl
kind_reads Spatial utf8 = rw (text_reads (codes "spatial") utf8) refl

-- how a source is laid out in cells
abbrev pub row_of : ℕ → SourceRecord → SourceRow
row_of number s = record { number = number; kind = source_word s.kind; title = s.title }

-- a source within its limits decodes to itself
pub what_is : (number : ℕ) (s : SourceRecord) → fits_source number s ≡ true → IsUtf8 (source_word s.kind) → IsUtf8 s.title → what (row_of number s) ≡ Ok (number, s)
what_is number s fits kind title =
    let parts = and_parts (is_number number) (is_title s.title) fits in
    rw (number_reads number parts.0, kind_reads s.kind kind, limited_reads is_title s.title title parts.1) refl

-- the number of a source decodes to itself
pub agree : (n : ℕ) (c : SourceRow) (x : ℕ × SourceRecord) → what c ≡ Ok x → nat_eq x.0 n ≡ is_source n c
agree =
    numbers_agree {C = SourceRow} {R = SourceRecord} (λ s. s.number) (λ s. Text s.kind) (λ s. Text s.title)
    source_kind_in title_in (λ kind title. record { kind = kind; title = title })
