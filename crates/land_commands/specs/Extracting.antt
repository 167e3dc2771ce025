-- The command `extract`.
use Rattle.std.specs.Prelude.{◌≡◌, ◌⊎◌, ℕ, ℤ, List, [], Option, Result, Ok, Err, unwrap_or}
use Rattle.std.specs.Io.KnownBytes.{Appends}
use Rattle.land_commands.specs.Filed.{IsNotOpenable, IsOpened}
use Rattle.land_commands.specs.CommandErrors.{command_error_of}
use Rattle.land_commands.specs.declared.extract_command.ExtractRequest.{ExtractRequest}
use Rattle.land_commands.specs.declared.program_fault.ProgramFault.{ProgramFault}
use Rattle.land_commands.specs.declared.command_error.CommandError.{CommandError}
use Rattle.land_commands.specs.declared.command_error.CommandError.TheVariants.{Fault}
use Rattle.land_core.specs.declared.kind.Kind.{Kind}
use Rattle.land_core.specs.declared.role.Role.{Role}
use Rattle.land_keep.specs.Keeping.{Closes, IsHonestAndOpen}
use Rattle.land_keep.specs.Machine.{now_of}
use Rattle.land_keep.specs.Timeline.{Timeline, register_at}
use Rattle.land_sheet.specs.Extracts.{extract_of, list_reply}
use Rattle.land_sheet.specs.Extracts.Writing.{IsExtracted, store_result}
use Rattle.land_sheet.specs.declared.extracts.fault.ExtractFault.{ExtractFault}
use Rattle.land_tables.specs.TablesState.{IsHonest, TablesState, held_timeline}
use Rattle.sqlite.specs.State.{State}
use Rattle.sqlite.specs.Store.{Ghosts}

-- The request for an extract, by its parts.
abbrev pub extract_request_of : (clock : ℤ) → (party : ℕ) → Role → Kind → (at : Option ℤ) → ExtractRequest
extract_request_of clock party role kind at =
    record { clock = clock; caller = record { party = party; role = role }; kind = kind; at = at }

-- The extract of the register at the requested time is written, or a prefix of it, or nothing, as the result
-- reports.
abbrev pub ExtractsFrom : Timeline → ExtractRequest → (old new : Option (List ℕ)) → Result ℕ ExtractFault
    → Type 0
ExtractsFrom tl wanted old new r =
    IsExtracted (list_reply wanted.clock wanted.caller wanted.kind wanted.at tl)
    (extract_of (register_at tl (unwrap_or wanted.at (now_of wanted.clock tl))) wanted.caller wanted.kind)
    old new r

-- The extract is written from tables, if their store is honest. The register does not change.
pub record ExtractsTables {S : Type 0} (g : Ghosts S) (from : TablesState S) (wanted : ExtractRequest)
    (to : TablesState S)
    (old new : Option (List ℕ)) (r : Result ℕ ExtractFault) : Type 0 where
  pub was : IsHonest g to → IsHonest g from
  pub same : IsHonestAndOpen (IsHonest g to) to.is_closed → held_timeline g to ≡ held_timeline g from
  pub closes : Closes from.is_closed to.is_closed (store_result r)
  pub extracts : IsHonest g to → ExtractsFrom (held_timeline g from) wanted old new r

-- A register is opened in a file, and the extract is written from it.
pub record ExtractsOpened {S : Type 0} (g : Ghosts S) (holds : State
    → Type 0) (wanted : ExtractRequest) (old new : Option (List ℕ))
    (r : Result ℕ ExtractFault) : Type 0 where
  pub from : TablesState S
  pub to : TablesState S
  pub taken : IsOpened g holds from
  pub extracted : ExtractsTables g from wanted to old new r

-- No register can be opened in a file, and nothing is written.
pub record ReportsNotFound {S : Type 0} (g : Ghosts S) (holds : State
    → Type 0) (old new : Option (List ℕ)) (command_error : CommandError) : Type 0 where
  pub why : ProgramFault
  pub missing : IsNotOpenable g holds why
  pub nothing : Appends old new []
  pub told : command_error ≡ Fault why

-- The whole extract is written; or no register can be opened; or the extract is incomplete, and the error
-- says why.
abbrev pub ExtractsRegister : {S T : Type 0} → Ghosts S → (holds : State → Type 0) → ExtractRequest
    → (old new : Option (List ℕ)) → Result T CommandError → Type 0
ExtractsRegister g holds wanted old new (Ok done) =
    (written : ℕ) × ExtractsOpened g holds wanted old new (Ok written)
ExtractsRegister g holds wanted old new (Err command_error) =
    ReportsNotFound g holds old new command_error
    ⊎ ((why : ExtractFault) × ExtractsOpened g holds wanted old new (Err why)
    × (command_error ≡ command_error_of why))
