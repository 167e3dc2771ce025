-- Each word decodes to its value.
use Rattle.std.proofs.Common.{◌≡◌, ℕ, List, true, codes, Result, Ok, refl, ap, ◌∙◌}
use Rattle.std.specs.Str.{is_utf8}
use Rattle.json.proofs.Printed.Utf8.{are_ascii}
use Rattle.land_core.specs.Words.{content_word, party_word, role_word, source_word, state_word}
use Rattle.land_core.specs.declared.content.Content.{Content}
use Rattle.land_core.specs.declared.content.Content.TheVariants as content
use Rattle.land_core.specs.declared.kind.PartyKind.{PartyKind}
use Rattle.land_core.specs.declared.kind.PartyKind.TheVariants as kind
use Rattle.land_core.specs.declared.mutation.MutationState.{MutationState}
use Rattle.land_core.specs.declared.mutation.MutationState.TheVariants as state
use Rattle.land_core.specs.declared.role.Role.{Role}
use Rattle.land_core.specs.declared.role.Role.TheVariants as role
use Rattle.land_core.specs.declared.rrr.RightType.TheVariants as right
use Rattle.land_core.specs.declared.source.SourceKind.{SourceKind}
use Rattle.land_core.specs.declared.source.SourceKind.TheVariants as source
use Rattle.land_tables_rows.proofs.CellReadings.{text_is_read}
use Rattle.land_tables_rows.proofs.TextReadings.{ascii_is_utf8}
use Rattle.land_tables_rows.specs.Cells.Laws.{WordsAreRead}
use Rattle.land_tables_rows.specs.Reading.Cells.{text_in}
use Rattle.land_tables_rows.specs.Reading.Words.{entry_class_of, class_word_in, party_kind_of, party_kind_in, role_in, source_kind_in, source_kind_of, state_in, mutation_state_of}
use Rattle.land_tables_rows.specs.Rrr.Cells.{class_column_word}
use Rattle.land_tables_rows.specs.declared.reading.words.ClassWord.{ClassWord}
use Rattle.land_tables_rows.specs.declared.reading.words.ClassWord.TheVariants as class
use Rattle.land_wire_json.specs.Bodies.WireFaults.{◌>>=◌}
use Rattle.land_wire_json.specs.Bodies.Words.{role_of}
use Rattle.land_wire_json.specs.declared.bodies.wire_fault.WireFault.{WireFault}
use Rattle.sqlite_value.specs.declared.value.Value.TheVariants.{Text}

word_is_read : {X : Type 0} (read : List ℕ → Result X WireFault) (word : List ℕ) (x : X) → are_ascii word ≡ true → read word ≡ Ok x → (text_in (Text word) >>= read) ≡ Ok x
word_is_read read word x ascii e = ap (λ m. m >>= read) (text_is_read word (ascii_is_utf8 word ascii)) ∙ e

pub kind_is_read : (it : PartyKind) → party_kind_in (Text (party_word it)) ≡ Ok it
unfolding party_kind_in
kind_is_read kind.NaturalPerson = word_is_read party_kind_of (codes "naturalPerson") kind.NaturalPerson refl refl
kind_is_read kind.NonNaturalPerson = word_is_read party_kind_of (codes "nonNaturalPerson") kind.NonNaturalPerson refl refl
kind_is_read kind.Group = word_is_read party_kind_of (codes "group") kind.Group refl refl

pub role_is_read : (it : Role) → role_in (Text (role_word it)) ≡ Ok it
unfolding role_in
role_is_read role.Citizen = word_is_read role_of (codes "citizen") role.Citizen refl refl
role_is_read role.Conveyancer = word_is_read role_of (codes "conveyancer") role.Conveyancer refl refl
role_is_read role.Notary = word_is_read role_of (codes "notary") role.Notary refl refl
role_is_read role.Bank = word_is_read role_of (codes "bank") role.Bank refl refl
role_is_read role.CertifiedSurveyor = word_is_read role_of (codes "certifiedSurveyor") role.CertifiedSurveyor refl refl
role_is_read role.StateAdministrator = word_is_read role_of (codes "stateAdministrator") role.StateAdministrator refl refl

pub source_is_read : (it : SourceKind) → source_kind_in (Text (source_word it)) ≡ Ok it
unfolding source_kind_in
source_is_read source.Administrative = word_is_read source_kind_of (codes "administrative") source.Administrative refl refl
source_is_read source.Spatial = word_is_read source_kind_of (codes "spatial") source.Spatial refl refl

pub state_is_read : (it : MutationState) → state_in (Text (state_word it)) ≡ Ok it
unfolding state_in
state_is_read state.Lodged = word_is_read mutation_state_of (codes "lodged") state.Lodged refl refl
state_is_read state.Approved = word_is_read mutation_state_of (codes "approved") state.Approved refl refl
state_is_read state.Refused = word_is_read mutation_state_of (codes "refused") state.Refused refl refl

-- ---- acts

act_is_utf8 : (it : Content) → is_utf8 (content_word it) ≡ true
act_is_utf8 (content.Transfer it) = ascii_is_utf8 (codes "transfer") refl
act_is_utf8 (content.Subdivision it) = ascii_is_utf8 (codes "subdivision") refl
act_is_utf8 (content.Merger it) = ascii_is_utf8 (codes "merger") refl
act_is_utf8 (content.Mortgage it) = ascii_is_utf8 (codes "mortgage") refl
act_is_utf8 (content.Discharge it) = ascii_is_utf8 (codes "discharge") refl

pub act_is_read : (it : Content) → text_in (Text (content_word it)) ≡ Ok (content_word it)
act_is_read it = text_is_read (content_word it) (act_is_utf8 it)

-- ---- classes

pub class_is_read : (it : ClassWord) → class_word_in (Text (class_column_word it)) ≡ Ok it
unfolding class_word_in
class_is_read (class.Right right.Ownership) = word_is_read entry_class_of (codes "ownership") (class.Right right.Ownership) refl refl
class_is_read (class.Right right.Lease) = word_is_read entry_class_of (codes "lease") (class.Right right.Lease) refl refl
class_is_read (class.Right right.Usufruct) = word_is_read entry_class_of (codes "usufruct") (class.Right right.Usufruct) refl refl
class_is_read class.Restriction = word_is_read entry_class_of (codes "restriction") class.Restriction refl refl
class_is_read class.Responsibility = word_is_read entry_class_of (codes "responsibility") class.Responsibility refl refl
class_is_read class.Mortgage = word_is_read entry_class_of (codes "mortgage") class.Mortgage refl refl

pub words_are_read : WordsAreRead
words_are_read = record {
  kinds = kind_is_read;
  roles = role_is_read;
  sources = source_is_read;
  states = state_is_read;
  classes = class_is_read;
  acts = act_is_read;
}
