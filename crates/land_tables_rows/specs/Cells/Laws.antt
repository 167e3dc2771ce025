-- Laws of written cells, each over the definitions only.
use Rattle.std.specs.Prelude.{◌≡◌, ℕ, ℤ, true, Ok}
use Rattle.land_core.specs.Numbers.{IsMoment}
use Rattle.land_core.specs.Words.{content_word, party_word, role_word, source_word, state_word}
use Rattle.land_core.specs.declared.content.Content.{Content}
use Rattle.land_core.specs.declared.kind.PartyKind.{PartyKind}
use Rattle.land_core.specs.declared.mutation.MutationRecord.{MutationRecord}
use Rattle.land_core.specs.declared.mutation.MutationState.{MutationState}
use Rattle.land_core.specs.declared.parcel.ParcelRecord.{ParcelRecord}
use Rattle.land_core.specs.declared.role.Role.{Role}
use Rattle.land_core.specs.declared.rrr.RrrRecord.{RrrRecord}
use Rattle.land_core.specs.declared.source.SourceKind.{SourceKind}
use Rattle.land_tables_rows.specs.Cells.Closable.{DecodesCells, is_numbered}
use Rattle.land_tables_rows.specs.Mutation.Cells.{IsExactMutation, fits_mutation, mutation_row_of}
use Rattle.land_tables_rows.specs.Mutation.Reading.{mutation_in}
use Rattle.land_tables_rows.specs.Parcel.Cells.{IsExactParcel, fits_parcel, parcel_row_of}
use Rattle.land_tables_rows.specs.Parcel.Reading.{parcel_in}
use Rattle.land_tables_rows.specs.Reading.Cells.{text_in}
use Rattle.land_tables_rows.specs.Reading.Words.{class_word_in, party_kind_in, role_in, source_kind_in}
use Rattle.land_tables_rows.specs.Reading.Words.{state_in}
use Rattle.land_tables_rows.specs.Rrr.Cells.{IsExactRrr, class_column_word, fits_rrr, rrr_row_of}
use Rattle.land_tables_rows.specs.Rrr.Reading.{rrr_in}
use Rattle.land_tables_rows.specs.declared.reading.words.ClassWord.{ClassWord}
use Rattle.land_tables_schema.specs.Rows.Mutation.{is_mutation, mutation_form}
use Rattle.land_tables_schema.specs.Rows.Parcel.{is_parcel, parcel_form}
use Rattle.land_tables_schema.specs.Rows.Rrr.{is_rrr, rrr_form}
use Rattle.land_tables_schema.specs.Rows.Versions.{opened_version, never}
use Rattle.sqlite_value.specs.declared.value.Value.TheVariants.{Text}

-- the words of kinds, roles, classes and states decode to their values, and those of acts to themselves
pub record WordsAreRead : Type 0 where
  pub kinds : (kind : PartyKind) → party_kind_in (Text (party_word kind)) ≡ Ok kind
  pub roles : (role : Role) → role_in (Text (role_word role)) ≡ Ok role
  pub sources : (kind : SourceKind) → source_kind_in (Text (source_word kind)) ≡ Ok kind
  pub states : (state : MutationState) → state_in (Text (state_word state)) ≡ Ok state
  pub classes : (which : ClassWord) → class_word_in (Text (class_column_word which)) ≡ Ok which
  pub acts : (it : Content) → text_in (Text (content_word it)) ≡ Ok (content_word it)

-- a parcel within its limits decodes from its cells, as a version that begins at a moment
abbrev pub ParcelsReadBack : Type 0
ParcelsReadBack =
    (e : ℕ × ParcelRecord) (since : ℤ) → fits_parcel e ≡ true → IsExactParcel e.1 → IsMoment since
    → parcel_in (parcel_form.cells (opened_version (parcel_row_of e) since))
    ≡ Ok (record { what = e; since = since; until = never })

-- an entry within its limits likewise
abbrev pub RrrsReadBack : Type 0
RrrsReadBack = (e : ℕ × RrrRecord) (since : ℤ) → fits_rrr e ≡ true → IsExactRrr e.1 → IsMoment since
    → rrr_in (rrr_form.cells (opened_version (rrr_row_of e) since))
    ≡ Ok (record { what = e; since = since; until = never })

-- a mutation within its limits likewise
abbrev pub MutationsReadBack : Type 0
MutationsReadBack =
    (e : ℕ × MutationRecord) (since : ℤ) → fits_mutation e ≡ true → IsExactMutation e.1 → IsMoment since
    → mutation_in (mutation_form.cells (opened_version (mutation_row_of e) since))
    ≡ Ok (record { what = e; since = since; until = never })

-- the cells of parcels, of entries and of mutations determine them
abbrev pub ParcelCellsDecode : Type 0
ParcelCellsDecode = DecodesCells parcel_in 7 parcel_form is_parcel is_numbered

abbrev pub RrrCellsDecode : Type 0
RrrCellsDecode = DecodesCells rrr_in 13 rrr_form is_rrr is_numbered

abbrev pub MutationCellsDecode : Type 0
MutationCellsDecode = DecodesCells mutation_in 10 mutation_form is_mutation is_numbered
