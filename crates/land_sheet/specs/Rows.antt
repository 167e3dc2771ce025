-- Extracts: the columns of each kind, and the fields of an object. A field that an object lacks is empty.
use Rattle.std.specs.Prelude.{◌≡◌, List, [], ◌∷◌, ◌++◌, ℕ, codes, decimal, false, OnOk, Option, Result}
use Rattle.std.specs.Io.KnownBytes.{Appends}
use Rattle.std.specs.Fmt.{signed_decimal}
use Rattle.csv.specs.Writing.{default_writer, fields_written, has_written, row_text, text_written}
use Rattle.csv.specs.Writing.{writer_setup}
use Rattle.csv.specs.declared.writer.Writer.{Writer}
use Rattle.land_core.specs.Words.{content_word, class_word, party_word, source_word, state_word}
use Rattle.land_core.specs.declared.kind.Kind.{Kind}
use Rattle.land_core.specs.declared.kind.Kind.TheVariants as kind
use Rattle.land_core.specs.declared.mutation.Mutation.{Mutation}
use Rattle.land_core.specs.declared.object.Object.{Object}
use Rattle.land_core.specs.declared.object.Object.TheVariants as shown
use Rattle.land_core.specs.declared.parcel.Parcel.{Parcel}
use Rattle.land_core.specs.declared.party.Party.{Party}
use Rattle.land_core.specs.declared.rrr.Class.{Class}
use Rattle.land_core.specs.declared.rrr.Class.TheVariants.{Right, Restriction, Responsibility, Mortgage}
use Rattle.land_core.specs.declared.rrr.Rrr.{Rrr}
use Rattle.land_core.specs.declared.source.Source.{Source}
use Rattle.land_core.specs.declared.unit.Unit.{Unit}
use Rattle.land_fraction.specs.Text.{fraction_text}
use Rattle.land_shape.specs.Outline.{doubled_area}
use Rattle.land_shape.specs.Place.{Place}
use Rattle.land_shape.specs.Printed.{polygon_text}
use Rattle.land_sheet.specs.Areas.{square_metres}
use Rattle.land_sheet.specs.Words.{checked_word}

-- the names of a kind's columns
abbrev pub columns_of : Kind → List (List ℕ)
columns_of kind.Party = codes "number" ∷ codes "name" ∷ codes "kind" ∷ []
columns_of kind.Unit = codes "number" ∷ codes "name" ∷ codes "checked" ∷ []
columns_of kind.Parcel =
    codes "number" ∷ codes "unit" ∷ codes "label" ∷ codes "square_metres" ∷ codes "outline"
    ∷ codes "source" ∷ []
columns_of kind.Rrr =
    codes "number" ∷ codes "unit" ∷ codes "party" ∷ codes "name" ∷ codes "class" ∷ codes "share"
    ∷ codes "amount"
    ∷ codes "currency" ∷ codes "rank" ∷ codes "words" ∷ codes "source" ∷ []
columns_of kind.Source = codes "number" ∷ codes "kind" ∷ codes "title" ∷ []
columns_of kind.Mutation =
    codes "number" ∷ codes "lodger" ∷ codes "reference" ∷ codes "source" ∷ codes "lodged" ∷ codes "act"
    ∷ codes "state" ∷ []

unfoldable pub party_fields : Party → List (List ℕ)
party_fields party = decimal party.number ∷ party.name ∷ party_word party.kind ∷ []

unfoldable pub unit_fields : Unit → List (List ℕ)
unit_fields unit = decimal unit.number ∷ unit.name ∷ checked_word unit.checked ∷ []

-- the number, the unit and the label of a parcel
unfoldable pub parcel_start : Parcel → List (List ℕ)
parcel_start parcel = decimal parcel.number ∷ decimal parcel.unit ∷ parcel.label ∷ []

-- the square metres of an outline, and the outline as well-known text
unfoldable pub outline_fields : (ring : List Place) → List (List ℕ)
outline_fields ring = square_metres (doubled_area ring) ∷ polygon_text ring ∷ []

unfoldable pub parcel_fields : Parcel → List (List ℕ)
parcel_fields parcel = parcel_start parcel ++ (outline_fields parcel.outline ++ (decimal parcel.source ∷ []))

-- the fields of an entry before those of its class, with the name of its party
unfoldable pub entry_start : Rrr → (name : List ℕ) → List (List ℕ)
entry_start entry name =
    decimal entry.number ∷ decimal entry.unit ∷ decimal entry.party ∷ name ∷ class_word entry.class ∷ []

-- share, amount, currency, rank and words, each empty if the class lacks it
abbrev pub class_fields : Class → List (List ℕ)
class_fields (Right type share) = fraction_text share ∷ [] ∷ [] ∷ [] ∷ [] ∷ []
class_fields (Restriction words) = [] ∷ [] ∷ [] ∷ [] ∷ words ∷ []
class_fields (Responsibility words) = [] ∷ [] ∷ [] ∷ [] ∷ words ∷ []
class_fields (Mortgage amount currency rank) = [] ∷ decimal amount ∷ currency ∷ decimal rank ∷ [] ∷ []

unfoldable pub rrr_fields : Rrr → (name : List ℕ) → List (List ℕ)
rrr_fields entry name = entry_start entry name ++ (class_fields entry.class ++ (decimal entry.source ∷ []))

unfoldable pub source_fields : Source → List (List ℕ)
source_fields source = decimal source.number ∷ source_word source.kind ∷ source.title ∷ []

unfoldable pub mutation_fields : Mutation → List (List ℕ)
mutation_fields mutation =
    decimal mutation.number ∷ decimal mutation.lodger ∷ mutation.reference ∷ decimal mutation.source
    ∷ signed_decimal mutation.lodged ∷ content_word mutation.content ∷ state_word mutation.state ∷ []

-- the fields of an object; the name is only for an entry
abbrev pub object_fields : Object → (name : List ℕ) → List (List ℕ)
object_fields (shown.Party party) name = party_fields party
object_fields (shown.Unit unit) name = unit_fields unit
object_fields (shown.Parcel parcel) name = parcel_fields parcel
object_fields (shown.Rrr entry) name = rrr_fields entry name
object_fields (shown.Source source) name = source_fields source
object_fields (shown.Mutation mutation) name = mutation_fields mutation

-- the first row of an extract, and the row of an object; each ends with a line feed
abbrev pub header_text : Kind → List ℕ
header_text kind = row_text default_writer (columns_of kind)

abbrev pub object_row : Object → (name : List ℕ) → List ℕ
object_row it name = row_text default_writer (object_fields it name)

-- a writer with the default settings that is not inside a row
abbrev pub IsBetweenRows : {W : Type 0} → Writer W → Type 0
IsBetweenRows writer =
    (writer_setup writer ≡ default_writer) × (fields_written writer ≡ 0) × (has_written writer ≡ false)

-- a call that succeeds writes these rows; if it runs out of memory, a part of them may be missing
abbrev pub WritesRows : {W T E : Type 0} → (W → Option (List ℕ)) → Result T E → (old new : Writer W)
    → List ℕ → Type 0
WritesRows contents result old new rows =
    OnOk result (Appends (text_written contents old) (text_written contents new) rows)
