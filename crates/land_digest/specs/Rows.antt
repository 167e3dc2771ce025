-- The rows of the register's tables, with the values that their columns hold.
use Rattle.std.specs.Prelude.{ℕ, List, [], ◌∷◌, ◌++◌, if◌then◌else◌}
use Rattle.land_core.specs.Role.{role_index}
use Rattle.land_core.specs.Words.{content_word, class_word, party_word, source_word, state_word}
use Rattle.land_core.specs.declared.mandates.Mandate.{Mandate}
use Rattle.land_core.specs.declared.mutation.MutationRecord.{MutationRecord}
use Rattle.land_core.specs.declared.parcel.ParcelRecord.{ParcelRecord}
use Rattle.land_core.specs.declared.party.PartyRecord.{PartyRecord}
use Rattle.land_core.specs.declared.roles.Grant.{Grant}
use Rattle.land_core.specs.declared.rrr.Class.{Class}
use Rattle.land_core.specs.declared.rrr.Class.TheVariants.{Right, Restriction, Responsibility, Mortgage}
use Rattle.land_core.specs.declared.rrr.RrrRecord.{RrrRecord}
use Rattle.land_core.specs.declared.source.SourceRecord.{SourceRecord}
use Rattle.land_core.specs.declared.unit.UnitRecord.{UnitRecord}
use Rattle.land_digest.specs.Fields.{Absent, Field, Number, Text, number_field}
use Rattle.land_digest.specs.Versions.{Row}
use Rattle.land_fraction.specs.Ratio.{Ratio}
use Rattle.land_shape.specs.Printed.{polygon_text}
use Rattle.land_tables_history.specs.declared.group_member.GroupMember.{GroupMember}
use Rattle.land_tables_history.specs.declared.naming.Naming.{Naming}
use Rattle.land_wire_json.specs.Texts.Mutations.{content_text}

-- ---- the columns after the key, in their order

-- name, kind
abbrev pub party_values : PartyRecord → List Field
party_values party = Text party.name ∷ Text (party_word party.kind) ∷ []

-- num, den
abbrev pub share_values : Ratio → List Field
share_values share = number_field share.numerator ∷ number_field share.denominator ∷ []

-- name, checked
abbrev pub unit_values : UnitRecord → List Field
unit_values unit = Text unit.name ∷ number_field (if unit.checked then 1 else 0) ∷ []

-- unit, label, outline, source
abbrev pub parcel_values : ParcelRecord → List Field
parcel_values parcel =
    number_field parcel.unit ∷ Text parcel.label ∷ Text (polygon_text parcel.outline)
    ∷ number_field parcel.source ∷ []

-- num, den, amount, currency, place, words
abbrev pub class_values : Class → List Field
class_values (Right type share) =
    number_field share.numerator ∷ number_field share.denominator ∷ Absent ∷ Absent ∷ Absent ∷ Absent ∷ []
class_values (Restriction words) = Absent ∷ Absent ∷ Absent ∷ Absent ∷ Absent ∷ Text words ∷ []
class_values (Responsibility words) = Absent ∷ Absent ∷ Absent ∷ Absent ∷ Absent ∷ Text words ∷ []
class_values (Mortgage amount currency rank) =
    Absent ∷ Absent ∷ number_field amount ∷ Text currency ∷ number_field rank ∷ Absent ∷ []

-- unit, party, class, those of the class, source
abbrev pub rrr_values : RrrRecord → List Field
rrr_values rrr =
    number_field rrr.unit ∷ number_field rrr.party ∷ Text (class_word rrr.class)
    ∷ (class_values rrr.class ++ number_field rrr.source ∷ [])

-- kind, title
abbrev pub source_values : SourceRecord → List Field
source_values source = Text (source_word source.kind) ∷ Text source.title ∷ []

-- lodger, reference, source, lodged
abbrev pub lodging_values : MutationRecord → List Field
lodging_values mutation =
    number_field mutation.lodger ∷ Text mutation.reference ∷ number_field mutation.source
    ∷ Number mutation.lodged ∷ []

-- act, content, state
abbrev pub request_values : MutationRecord → List Field
request_values mutation =
    Text (content_word mutation.content) ∷ Text (content_text mutation.content)
    ∷ Text (state_word mutation.state) ∷ []

abbrev pub mutation_values : MutationRecord → List Field
mutation_values mutation = lodging_values mutation ++ request_values mutation

-- ---- the rows; the second number of a role's key is the position of the role in the order of roles

-- a row whose key is one number
abbrev pub numbered_row : (table number : ℕ) → List Field → Row
numbered_row table number values = record { table = table; first = number; second = 0; values = values }

-- a row whose key is two numbers
abbrev pub paired_row : (table first second : ℕ) → List Field → Row
paired_row table first second values =
    record { table = table; first = first; second = second; values = values }

abbrev pub party_row : ℕ × PartyRecord → Row
party_row e = numbered_row 1 e.0 (party_values e.1)

abbrev pub role_row : Grant → Row
role_row grant = paired_row 2 grant.party (role_index grant.role) []

abbrev pub member_row : GroupMember → Row
member_row e = paired_row 3 e.group e.member.party (share_values e.member.share)

abbrev pub unit_row : ℕ × UnitRecord → Row
unit_row e = numbered_row 4 e.0 (unit_values e.1)

abbrev pub parcel_row : ℕ × ParcelRecord → Row
parcel_row e = numbered_row 5 e.0 (parcel_values e.1)

abbrev pub rrr_row : ℕ × RrrRecord → Row
rrr_row e = numbered_row 6 e.0 (rrr_values e.1)

abbrev pub source_row : ℕ × SourceRecord → Row
source_row e = numbered_row 7 e.0 (source_values e.1)

abbrev pub mutation_row : ℕ × MutationRecord → Row
mutation_row e = numbered_row 8 e.0 (mutation_values e.1)

abbrev pub naming_row : Naming → Row
naming_row naming = paired_row 9 naming.mutation naming.unit []

abbrev pub mandate_row : Mandate → Row
mandate_row mandate = paired_row 10 mandate.principal mandate.agent []
