-- Laws of the texts, each stated with definitions only.
use Rattle.std.specs.Prelude.{◌≡◌, ◌≤◌, ℕ, pos, List, true, Some}
use Rattle.land_core.specs.Words.{party_word}
use Rattle.land_core.specs.declared.content.Content.{Content}
use Rattle.land_core.specs.declared.kind.PartyKind.{PartyKind}
use Rattle.land_core.specs.declared.member.Member.{Member}
use Rattle.land_core.specs.declared.mutation.MutationState.{MutationState}
use Rattle.land_core.specs.declared.object.Object.{Object}
use Rattle.land_core.specs.declared.object.Object.TheVariants as shown
use Rattle.land_core.specs.declared.parcel.Parcel.{Parcel}
use Rattle.land_core.specs.declared.role.Role.{Role}
use Rattle.land_core.specs.declared.rrr.Rrr.{Rrr}
use Rattle.land_core.specs.declared.source.Source.{Source}
use Rattle.land_core.specs.declared.unit.Unit.{Unit}
use Rattle.land_fraction.specs.Ratio.{Ratio, IsFraction}
use Rattle.land_fraction.specs.Text.{fraction_text}
use Rattle.land_shape.specs.Outline.{IsOutline}
use Rattle.land_shape.specs.Place.{Place}
use Rattle.land_shape.specs.Printed.{polygon_text}
use Rattle.land_wire_json.specs.Texts.Exact.{is_exact}
use Rattle.land_wire_json.specs.Texts.Limits.{IsContentWithin, IsObjectWithin}
use Rattle.land_wire_json.specs.Texts.Mutations.{content_text, content_text_by_kind, mutation_text}
use Rattle.land_wire_json.specs.Texts.Objects.{object_text}
use Rattle.land_wire_json.specs.Texts.Parcels.{parcel_text}
use Rattle.land_wire_json.specs.Texts.Parties.{party_text}
use Rattle.land_wire_json.specs.Texts.Rrrs.{rrr_text}
use Rattle.land_wire_json.specs.Texts.Sources.{source_text}
use Rattle.land_wire_json.specs.Texts.Units.{unit_text}
use Rattle.land_wire_json.specs.Texts.Values.{share_text, outline_text, string_text, quoted_word}
use Rattle.serde_json.specs.Data.{Data, string, depth}
use Rattle.serde_json.specs.Read.{read, max_depth}
use Rattle.serde_json.specs.Written.{compact_text}

-- the text of a party; its name is a JSON string
abbrev pub PartyTexts : Type 0
PartyTexts =
    (n : ℕ) (kind : PartyKind) (name : List ℕ) (members : List Member) (roles : List Role)
    → object_text (shown.Party (record {
      number = n;
      kind = kind;
      name = name;
      members = members;
      roles = roles;
    }))
    ≡ party_text (party_word kind) members (compact_text (string name)) n roles

-- the text of a share is its canonical form in quotation marks
abbrev pub ShareTexts : Type 0
ShareTexts = (share : Ratio) → IsFraction share → share_text share ≡ quoted_word (fraction_text share)

-- the text of an outline is its canonical form in quotation marks
abbrev pub OutlineTexts : Type 0
OutlineTexts = (ring : List Place) → IsOutline ring → outline_text ring ≡ quoted_word (polygon_text ring)

-- the text of a unit; its name is a JSON string
abbrev pub UnitTexts : Type 0
UnitTexts = (unit : Unit) → object_text (shown.Unit unit) ≡ unit_text unit

-- the text of a parcel, with twice its area, and its outline as a JSON string
abbrev pub ParcelTexts : Type 0
ParcelTexts = (parcel : Parcel) → object_text (shown.Parcel parcel) ≡ parcel_text parcel

-- the texts of the entries of each class
abbrev pub RrrTexts : Type 0
RrrTexts = (entry : Rrr) → object_text (shown.Rrr entry) ≡ rrr_text entry

-- the text of a source; its title is a JSON string
abbrev pub SourceTexts : Type 0
SourceTexts = (source : Source) → object_text (shown.Source source) ≡ source_text source

-- the texts of the contents of each kind
abbrev pub ContentTexts : Type 0
ContentTexts = (it : Content) → content_text it ≡ content_text_by_kind it

-- the text of a mutation whose time of lodging is not negative
abbrev pub MutationTexts : Type 0
MutationTexts =
    (n source lodger lodged : ℕ) (reference : List ℕ) (it : Content) (state : MutationState)
    → object_text (shown.Mutation (record {
      number = n;
      content = it;
      reference = reference;
      source = source;
      lodger = lodger;
      lodged = pos lodged;
      state = state;
    }))
    ≡ mutation_text it lodged lodger n (string_text reference) source state

-- reading the compact text of exact JSON that is not too deep returns that JSON
abbrev pub CompactLaw : Type 0
CompactLaw =
    (value : Data) → is_exact value ≡ true → depth value ≤ max_depth → read (compact_text value) ≡ Some value

-- a text determines its object, if the object is within its limits
abbrev pub TextsDetermineObjects : Type 0
TextsDetermineObjects = (a b : Object) → IsObjectWithin a → IsObjectWithin b → object_text a ≡ object_text b
    → a ≡ b

-- a text determines its content, if the content is within its limits; the word of the act is not part of it
abbrev pub TextsDetermineContents : Type 0
TextsDetermineContents =
    (a b : Content) → IsContentWithin a → IsContentWithin b → content_text a ≡ content_text b → a ≡ b
