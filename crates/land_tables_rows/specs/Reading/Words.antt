-- The words of kinds, roles, classes and states, and their cells. Words are case-sensitive; another word is
-- fault 133, or 134 for a role.
use Rattle.std.specs.Prelude.{ℕ, List, codes, bytes_eq, Result, Ok, Err, if◌then◌else◌}
use Rattle.land_core.specs.declared.kind.PartyKind.{PartyKind}
use Rattle.land_core.specs.declared.kind.PartyKind.TheVariants as kind
use Rattle.land_core.specs.declared.mutation.MutationState.{MutationState}
use Rattle.land_core.specs.declared.mutation.MutationState.TheVariants as state
use Rattle.land_core.specs.declared.role.Role.{Role}
use Rattle.land_core.specs.declared.source.SourceKind.{SourceKind}
use Rattle.land_core.specs.declared.source.SourceKind.TheVariants as source
use Rattle.land_tables_rows.specs.Reading.Cells.{text_in}
use Rattle.land_tables_rows.specs.declared.reading.words.ClassWord.{ClassWord}
use Rattle.land_tables_rows.specs.declared.reading.words.ClassWord.TheVariants as class
use Rattle.land_wire_json.specs.Bodies.WireFaults.{◌>>=◌}
use Rattle.land_wire_json.specs.Bodies.Words as body
use Rattle.land_wire_json.specs.declared.bodies.wire_fault.WireFault.{WireFault}
use Rattle.land_wire_json.specs.declared.bodies.wire_fault.WireFault.TheVariants as fault
use Rattle.sqlite_value.specs.declared.value.Value.{Value}

-- the kinds of parties: groups, and those that are enrolled
abbrev pub party_kind_of : List ℕ → Result PartyKind WireFault
party_kind_of word = if bytes_eq word (codes "group") then Ok kind.Group else body.enrolled_kind_of word

unfoldable pub party_kind_in : Value → Result PartyKind WireFault
party_kind_in cell = text_in cell >>= party_kind_of

unfoldable pub role_in : Value → Result Role WireFault
role_in cell = text_in cell >>= body.role_of

-- the kinds of sources
abbrev pub source_kind_of : List ℕ → Result SourceKind WireFault
source_kind_of word =
    if bytes_eq word (codes "administrative") then Ok source.Administrative
    else (if bytes_eq word (codes "spatial") then Ok source.Spatial else Err fault.Text)

unfoldable pub source_kind_in : Value → Result SourceKind WireFault
source_kind_in cell = text_in cell >>= source_kind_of

-- the states of mutations
abbrev pub mutation_state_of : List ℕ → Result MutationState WireFault
mutation_state_of word =
    if bytes_eq word (codes "lodged") then Ok state.Lodged
    else (if bytes_eq word (codes "approved") then Ok state.Approved
    else (if bytes_eq word (codes "refused") then Ok state.Refused else Err fault.Text))

unfoldable pub state_in : Value → Result MutationState WireFault
state_in cell = text_in cell >>= mutation_state_of

-- the classes of entries; a right has the word of its type
abbrev pub entry_class_of : List ℕ → Result ClassWord WireFault
entry_class_of word =
    if bytes_eq word (codes "restriction") then Ok class.Restriction
    else (if bytes_eq word (codes "responsibility") then Ok class.Responsibility
    else (if bytes_eq word (codes "mortgage") then Ok class.Mortgage
    else (body.right_type_of word >>= λ type. Ok (class.Right type))))

unfoldable pub class_word_in : Value → Result ClassWord WireFault
class_word_in cell = text_in cell >>= entry_class_of
