-- Texts of objects, as plain bytes.
use Rattle.std.proofs.Common.{◌≡◌, ℕ, List, ◌++◌, Bool, true, false, refl, ap, codes, decimal, pos}
use Rattle.land_core.specs.Words.{content_word, source_word, state_word}
use Rattle.land_core.specs.declared.content.Content.{Content}
use Rattle.land_core.specs.declared.content.Content.TheVariants as content
use Rattle.land_core.specs.declared.mutation.MutationState.{MutationState}
use Rattle.land_core.specs.declared.mutation.MutationState.TheVariants.{Lodged, Approved, Refused}
use Rattle.land_core.specs.declared.object.Object.TheVariants as shown
use Rattle.land_core.specs.declared.parcel.Parcel.{Parcel}
use Rattle.land_core.specs.declared.rrr.Class.{Class}
use Rattle.land_core.specs.declared.rrr.Class.TheVariants.{Right, Restriction, Responsibility, Mortgage}
use Rattle.land_core.specs.declared.rrr.RightType.TheVariants.{Ownership, Lease, Usufruct}
use Rattle.land_core.specs.declared.rrr.Rrr.{Rrr}
use Rattle.land_core.specs.declared.source.Source.{Source}
use Rattle.land_core.specs.declared.source.SourceKind.{SourceKind}
use Rattle.land_core.specs.declared.source.SourceKind.TheVariants.{Administrative, Spatial}
use Rattle.land_core.specs.declared.unit.Unit.{Unit}
use Rattle.land_wire_json.specs.Texts.Mutations.{content_text, mutation_text}
use Rattle.land_wire_json.specs.Texts.Objects.{object_text}
use Rattle.land_wire_json.specs.Texts.Parcels.{parcel_text}
use Rattle.land_wire_json.specs.Texts.Rrrs.{class_data, class_text, rrr_text}
use Rattle.land_wire_json.specs.Texts.Sources.{source_text}
use Rattle.land_wire_json.specs.Texts.Units.{unit_text}
use Rattle.land_wire_json.specs.Texts.Values.{quoted_word, string_text, bool_text}
use Rattle.serde_json.proofs.OnLiterals.{serde_json_on_literals}
use Rattle.serde_json.specs.Data.{boolean, string}
use Rattle.serde_json.specs.Written.{compact_text}

truth-text : (b : Bool) → compact_text (boolean b) ≡ bool_text b
truth-text true = refl
truth-text false = refl

pub unit-text : (unit : Unit) → object_text (shown.Unit unit) ≡ unit_text unit
unfolding serde_json_on_literals
unit-text unit =
    ap (λ (t : List ℕ). codes "{\"checked\":" ++ (t ++ (codes ",\"name\":" ++ (string_text unit.name ++ (codes ",\"number\":"
    ++ (decimal unit.number ++ codes "}")))))) (truth-text unit.checked)

pub parcel-text : (parcel : Parcel) → object_text (shown.Parcel parcel) ≡ parcel_text parcel
unfolding serde_json_on_literals
parcel-text parcel = refl

class-text : (entry : Rrr) (class : Class) → compact_text (class_data entry class) ≡ class_text entry class
unfolding serde_json_on_literals
class-text entry (Right Ownership share) = refl
class-text entry (Right Lease share) = refl
class-text entry (Right Usufruct share) = refl
class-text entry (Restriction words) = refl
class-text entry (Responsibility words) = refl
class-text entry (Mortgage amount currency rank) = refl

pub rrr-text : (entry : Rrr) → object_text (shown.Rrr entry) ≡ rrr_text entry
rrr-text entry = class-text entry entry.class

source_kind-text : (kind : SourceKind) → compact_text (string (source_word kind)) ≡ quoted_word (source_word kind)
unfolding serde_json_on_literals
source_kind-text Administrative = refl
source_kind-text Spatial = refl

pub source-text : (source : Source) → object_text (shown.Source source) ≡ source_text source
unfolding serde_json_on_literals
source-text source =
    ap (λ (t : List ℕ). codes "{\"kind\":" ++ (t ++ (codes ",\"number\":" ++ (decimal source.number ++ (codes ",\"title\":"
    ++ (string_text source.title ++ codes "}")))))) (source_kind-text source.kind)

act-text : (it : Content) → compact_text (string (content_word it)) ≡ quoted_word (content_word it)
unfolding serde_json_on_literals
act-text (content.Transfer it) = refl
act-text (content.Subdivision it) = refl
act-text (content.Merger it) = refl
act-text (content.Mortgage it) = refl
act-text (content.Discharge it) = refl

state-text : (state : MutationState) → compact_text (string (state_word state)) ≡ quoted_word (state_word state)
unfolding serde_json_on_literals
state-text Lodged = refl
state-text Approved = refl
state-text Refused = refl

mutation_parts : (A B C D E F G H I J K L M N O P Q R : List ℕ) → A ≡ B → Q ≡ R
    → A ++ (C ++ (D ++ (E ++ (F ++ (G ++ (H ++ (I ++ (J ++ (K ++ (L ++ (M ++ (N ++ (O ++ (Q ++ P))))))))))))))
    ≡ B ++ (C ++ (D ++ (E ++ (F ++ (G ++ (H ++ (I ++ (J ++ (K ++ (L ++ (M ++ (N ++ (O ++ (R ++ P))))))))))))))
mutation_parts A B C D E F G H I J K L M N O P Q R e f = rw (e, f) refl

pub mutation-text : (n source lodger lodged : ℕ) (reference : List ℕ) (it : Content) (state : MutationState)
    → object_text (shown.Mutation (record { number = n; content = it; reference = reference; source = source; lodger = lodger; lodged = pos lodged; state = state }))
    ≡ mutation_text it lodged lodger n (string_text reference) source state
unfolding serde_json_on_literals
mutation-text n source lodger lodged reference it state =
    ap (λ (t : List ℕ). codes "{\"act\":" ++ t)
    (mutation_parts (compact_text (string (content_word it))) (quoted_word (content_word it)) (codes ",\"content\":") (content_text it)
    (codes ",\"lodged\":") (decimal lodged) (codes ",\"lodger\":") (decimal lodger) (codes ",\"number\":") (decimal n)
    (codes ",\"reference\":") (string_text reference) (codes ",\"source\":") (decimal source) (codes ",\"state\":") (codes "}")
    (compact_text (string (state_word state))) (quoted_word (state_word state)) (act-text it) (state-text state))
