-- A row determines its value. Outlines and contents have to be within the limits of their types.
use Rattle.std.proofs.Common.{◌≡◌, ℕ, zero, suc, ℤ, pos, negsuc, Bool, true, false, List, [], ◌∷◌, refl, sym}
use Rattle.std.proofs.Common.{ap, ap₂, ◌∙◌, subst, nat_eq}
use Rattle.std.specs.Prelude.{bytes_eq, codes, if◌then◌else◌}
use Rattle.land_core.specs.Role.{role_at, role_at_place}
use Rattle.land_core.specs.Words.{party_word, source_word, state_word}
use Rattle.land_core.specs.declared.content.Content.{Content}
use Rattle.land_core.specs.declared.kind.PartyKind.{PartyKind}
use Rattle.land_core.specs.declared.kind.PartyKind.TheVariants as kind
use Rattle.land_core.specs.declared.mandates.Mandate.{Mandate}
use Rattle.land_core.specs.declared.mutation.MutationRecord.{MutationRecord}
use Rattle.land_core.specs.declared.mutation.MutationState.{MutationState}
use Rattle.land_core.specs.declared.mutation.MutationState.TheVariants as state
use Rattle.land_core.specs.declared.parcel.ParcelRecord.{ParcelRecord}
use Rattle.land_core.specs.declared.party.PartyRecord.{PartyRecord}
use Rattle.land_core.specs.declared.roles.Grant.{Grant}
use Rattle.land_core.specs.declared.rrr.Class.{Class}
use Rattle.land_core.specs.declared.rrr.Class.TheVariants as class
use Rattle.land_core.specs.declared.rrr.RightType.{RightType}
use Rattle.land_core.specs.declared.rrr.RightType.TheVariants as right
use Rattle.land_core.specs.declared.rrr.RrrRecord.{RrrRecord}
use Rattle.land_core.specs.declared.source.SourceKind.{SourceKind}
use Rattle.land_core.specs.declared.source.SourceKind.TheVariants as source
use Rattle.land_core.specs.declared.source.SourceRecord.{SourceRecord}
use Rattle.land_core.specs.declared.unit.UnitRecord.{UnitRecord}
use Rattle.land_digest.specs.Fields.{Absent, Field, Number, Text}
use Rattle.land_digest.specs.Rows.{mandate_row, member_row, mutation_row, naming_row, parcel_row, party_row}
use Rattle.land_digest.specs.Rows.{role_row, rrr_row, source_row, unit_row}
use Rattle.land_digest.specs.Versions.{Row}
use Rattle.land_fraction.specs.Ratio.{over}
use Rattle.land_shape.specs.Faults.{Denotes}
use Rattle.land_shape.specs.Laws.{PrintedLaw}
use Rattle.land_shape.specs.Outline.{IsOutline}
use Rattle.land_shape.specs.Place.{Place}
use Rattle.land_shape.specs.Printed.{polygon_text}
use Rattle.land_tables_history.specs.declared.group_member.GroupMember.{GroupMember}
use Rattle.land_tables_history.specs.declared.naming.Naming.{Naming}
use Rattle.land_wire_json.specs.Texts.Laws.{TextsDetermineContents}
use Rattle.land_wire_json.specs.Texts.Limits.{IsContentWithin}

-- ---- fields

abbrev field_at : ℕ → List Field → Field
field_at n [] = Absent
field_at zero (f ∷ fs) = f
field_at (suc n) (f ∷ fs) = field_at n fs

abbrev text_of : Field → List ℕ
text_of (Text bytes) = bytes
text_of (Number z) = []
text_of Absent = []

abbrev integer_of : Field → ℤ
integer_of (Number z) = z
integer_of (Text bytes) = pos 0
integer_of Absent = pos 0

abbrev natural_of : Field → ℕ
natural_of (Number (pos n)) = n
natural_of (Number (negsuc n)) = 0
natural_of (Text bytes) = 0
natural_of Absent = 0

abbrev number_at : ℕ → Row → ℕ
number_at n row = natural_of (field_at n row.values)

abbrev text_at : ℕ → Row → List ℕ
text_at n row = text_of (field_at n row.values)

-- ---- words

abbrev kind_of : List ℕ → PartyKind
kind_of word =
    if bytes_eq word (codes "group") then kind.Group
    else (if bytes_eq word (codes "naturalPerson") then kind.NaturalPerson else kind.NonNaturalPerson)

kind_back : (it : PartyKind) → kind_of (party_word it) ≡ it
kind_back kind.NaturalPerson = refl
kind_back kind.NonNaturalPerson = refl
kind_back kind.Group = refl

abbrev source_kind_of : List ℕ → SourceKind
source_kind_of word = if bytes_eq word (codes "spatial") then source.Spatial else source.Administrative

source_kind_back : (it : SourceKind) → source_kind_of (source_word it) ≡ it
source_kind_back source.Administrative = refl
source_kind_back source.Spatial = refl

abbrev state_of : List ℕ → MutationState
state_of word =
    if bytes_eq word (codes "lodged") then state.Lodged
    else (if bytes_eq word (codes "approved") then state.Approved else state.Refused)

state_back : (it : MutationState) → state_of (state_word it) ≡ it
state_back state.Lodged = refl
state_back state.Approved = refl
state_back state.Refused = refl

abbrev right_type_of : List ℕ → RightType
right_type_of word =
    if bytes_eq word (codes "ownership") then right.Ownership
    else (if bytes_eq word (codes "lease") then right.Lease else right.Usufruct)

-- ---- rows that determine their value

-- rows of values that pass a test determine them
abbrev pub Determines : {X : Type 0} → (X → Type 0) → (X → Row) → Type 0
Determines {X} Passes row = (a b : X) → Passes a → Passes b → row a ≡ row b → a ≡ b

abbrev pub Any : {X : Type 0} → X → Type 0
Any x = Unit {0}

by_reading : {X : Type 0} (row : X → Row) (read : Row → X) → ((x : X) → read (row x) ≡ x)
    → Determines Any row
by_reading row read back a b pass pass' e = sym (back a) ∙ ap read e ∙ back b

abbrev read_party : Row → ℕ × PartyRecord
read_party row = (row.first, record { kind = kind_of (text_at 1 row); name = text_at 0 row })

pub parties_determined : Determines Any party_row
parties_determined =
    by_reading party_row read_party
    (λ e. ap (λ kind. (e.0, record { kind = kind; name = e.1.name })) (kind_back e.1.kind))

abbrev read_role : Row → Grant
read_role row = record { party = row.first; role = role_at row.second }

pub roles_determined : Determines Any role_row
roles_determined =
    by_reading role_row read_role
    (λ e. ap (λ role. record { party = e.party; role = role }) (role_at_place e.role))

abbrev read_member : Row → GroupMember
read_member row = record {
  group = row.first;
  member = record { party = row.second; share = over (number_at 0 row) (number_at 1 row) };
}

pub members_determined : Determines Any member_row
members_determined = by_reading member_row read_member (λ e. refl)

abbrev read_unit : Row → ℕ × UnitRecord
read_unit row = (row.first, record { name = text_at 0 row; checked = nat_eq (number_at 1 row) 1 })

flag_back : (b : Bool) → nat_eq (if b then 1 else 0) 1 ≡ b
flag_back true = refl
flag_back false = refl

pub units_determined : Determines Any unit_row
units_determined =
    by_reading unit_row read_unit
    (λ e. ap (λ checked. (e.0, record { name = e.1.name; checked = checked })) (flag_back e.1.checked))

abbrev read_class : (word : List ℕ) → Row → Class
read_class word row =
    if bytes_eq word (codes "restriction") then class.Restriction (text_at 8 row)
    else (if bytes_eq word (codes "responsibility") then class.Responsibility (text_at 8 row)
    else (if bytes_eq word (codes "mortgage")
    then class.Mortgage (number_at 5 row) (text_at 6 row) (number_at 7 row)
    else class.Right (right_type_of word) (over (number_at 3 row) (number_at 4 row))))

abbrev read_rrr : Row → ℕ × RrrRecord
read_rrr row = (
  row.first,
  record {
    unit = number_at 0 row;
    party = number_at 1 row;
    class = read_class (text_at 2 row) row;
    source = number_at 9 row;
  },
)

abbrev rrr_of : (number unit party : ℕ) → Class → (source : ℕ) → ℕ × RrrRecord
rrr_of number unit party class source =
    (number, record { unit = unit; party = party; class = class; source = source })

rrr_back : (number unit party : ℕ) (it : Class) (source : ℕ)
    → read_rrr (rrr_row (rrr_of number unit party it source)) ≡ rrr_of number unit party it source
rrr_back number unit party (class.Right right.Ownership share) source = refl
rrr_back number unit party (class.Right right.Lease share) source = refl
rrr_back number unit party (class.Right right.Usufruct share) source = refl
rrr_back number unit party (class.Restriction words) source = refl
rrr_back number unit party (class.Responsibility words) source = refl
rrr_back number unit party (class.Mortgage amount currency rank) source = refl

pub rrrs_determined : Determines Any rrr_row
rrrs_determined =
    by_reading rrr_row read_rrr (λ e. rrr_back e.0 e.1.unit e.1.party e.1.class e.1.source)

abbrev read_source : Row → ℕ × SourceRecord
read_source row = (row.first, record { kind = source_kind_of (text_at 0 row); title = text_at 1 row })

pub sources_determined : Determines Any source_row
sources_determined =
    by_reading source_row read_source
    (λ e. ap (λ kind. (e.0, record { kind = kind; title = e.1.title })) (source_kind_back e.1.kind))

abbrev read_naming : Row → Naming
read_naming row = record { mutation = row.first; unit = row.second }

pub namings_determined : Determines Any naming_row
namings_determined = by_reading naming_row read_naming (λ e. refl)

abbrev read_mandate : Row → Mandate
read_mandate row = record { principal = row.first; agent = row.second }

pub mandates_determined : Determines Any mandate_row
mandates_determined = by_reading mandate_row read_mandate (λ e. refl)

-- ---- parcels: the canonical form of an outline determines it

abbrev pub HasExactOutline : ℕ × ParcelRecord → Type 0
HasExactOutline e = IsOutline e.1.outline

abbrev read_parcel : Row → List Place → ℕ × ParcelRecord
read_parcel row outline = (
  row.first,
  record {
    unit = number_at 0 row;
    label = text_at 1 row;
    outline = outline;
    source = number_at 3 row;
  },
)

outlines_determined : PrintedLaw → (a b : List Place) → IsOutline a → IsOutline b → polygon_text a ≡ polygon_text b
    → a ≡ b
outlines_determined law a b outline_a outline_b e =
    law.alone b a outline_b (subst (λ text. Denotes text a) e (law.stands a outline_a))

pub parcels_determined : PrintedLaw → Determines HasExactOutline parcel_row
parcels_determined law a b outline_a outline_b e =
    ap₂ read_parcel e
    (outlines_determined law a.1.outline b.1.outline outline_a outline_b (ap (text_at 2) e))

-- ---- mutations: the text of a content determines it

abbrev pub HasExactContent : ℕ × MutationRecord → Type 0
HasExactContent e = IsContentWithin e.1.content

abbrev read_mutation : Row → MutationState → Content → ℕ × MutationRecord
read_mutation row state content = (
  row.first,
  record {
    lodger = number_at 0 row;
    reference = text_at 1 row;
    source = number_at 2 row;
    lodged = integer_of (field_at 3 row.values);
    state = state;
    content = content;
  },
)

pub mutations_determined : TextsDetermineContents → Determines HasExactContent mutation_row
mutations_determined law a b within_a within_b e =
    ap (λ state. read_mutation (mutation_row a) state a.1.content) (sym (state_back a.1.state))
    ∙ ap₂ (λ row content. read_mutation row (state_of (text_at 6 row)) content) e
    (law a.1.content b.1.content within_a within_b (ap (text_at 5) e))
    ∙ ap (λ state. read_mutation (mutation_row b) state b.1.content) (state_back b.1.state)
