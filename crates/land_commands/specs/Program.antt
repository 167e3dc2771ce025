-- The program: its arguments, its streams and the host.
use Rattle.std.specs.Prelude.{◌≡◌, ◌⊎◌, ℕ, ℤ, false, List, [], take, string_bytes, Option, Result, Ok, Err}
use Rattle.std.specs.Prelude.{IfSome, unwrap_or}
use Rattle.std.specs.Io.KnownBytes.{Appends}
use Rattle.land_commands.specs.Digesting.{DigestsRegister}
use Rattle.land_commands.specs.Extracting.{ExtractsRegister, extract_request_of}
use Rattle.land_commands.specs.Filed.{ChecksRegister, CreatesRegister, ServesRegister}
use Rattle.land_commands.specs.Migrating.{IsMigrating}
use Rattle.land_commands.specs.ProgramFaults.{fault_of, line_of, exit_status}
use Rattle.land_commands.specs.CommandErrors.{denied_text}
use Rattle.land_commands.specs.Words.Names.{IsReading}
use Rattle.land_commands.specs.Words.PlainCommands.{PlainCommand, to_talk, to_make, to_serve, to_check}
use Rattle.land_commands.specs.Words.PlainCommands.{to_migrate, to_extract, to_digest, order_of}
use Rattle.land_commands.specs.declared.program_fault.ProgramFault.{ProgramFault}
use Rattle.land_commands.specs.declared.program_fault.ProgramFault.TheVariants.{NoMemory}
use Rattle.land_commands.specs.declared.command_error.CommandError.{CommandError}
use Rattle.land_commands.specs.declared.command_error.CommandError.TheVariants as command_error
use Rattle.land_commands.specs.declared.fixed_clock.FixedClock.{FixedClock}
use Rattle.land_commands.specs.declared.words.command.Command.{Command}
use Rattle.land_commands.specs.declared.words.words_fault.WordsFault.{WordsFault}
use Rattle.land_commands.specs.declared.words.words_fault.WordsFault.TheVariants as words
use Rattle.land_core.specs.Numbers.{last_moment}
use Rattle.land_desk.specs.Serving.{ServesByRun}
use Rattle.land_desk.specs.declared.serve.DeskFault.{DeskFault}
use Rattle.land_desk.specs.declared.serve.Served.{Served}
use Rattle.land_keep.specs.Machine as machine
use Rattle.land_keep.specs.Timeline.{new_timeline}
use Rattle.land_pool.specs.Endings.{Ending}
use Rattle.sqlite.specs.Held.{Held}
use Rattle.sqlite.specs.State.{State}
use Rattle.sqlite.specs.Store.{Ghosts}

-- A fixed clock always reads the same.
abbrev pub reads_fixed : FixedClock → ℤ → FixedClock → Type 0
reads_fixed old reading new = (reading ≡ old.reading) × (new ≡ old)

-- The state of an open, new register with a fixed clock.
abbrev pub at_start : ℤ → machine.State FixedClock
at_start reading = record { closed = false; timeline = new_timeline; clock = record { reading = reading } }

-- `talk`: the input is served on a new register with a fixed clock.
abbrev pub Talks : (input : List ℕ) → (reading : ℤ) → (old new : Option (List ℕ)) → Result Served DeskFault
    → Type 0
Talks input reading old new result =
    (to : machine.State FixedClock) × ServesByRun reads_fixed input (at_start reading) to old new result

-- A text is written, or a prefix of it if the writer fails.
abbrev pub WritesOrFails : List ℕ → (old new : Option (List ℕ)) → Type 0
WritesOrFails text old new = Appends old new text ⊎ ((n : ℕ) × Appends old new (take n text))

-- After serving the status is 0 and nothing is written; after a fault it is that of the fault, whose line is
-- written.
abbrev pub ReportsServed : Result Served DeskFault → (old new : Option (List ℕ)) → (status : ℕ) → Type 0
ReportsServed (Ok served) old new status = (status ≡ 0) × Appends old new []
ReportsServed (Err fault) old new status =
    (status ≡ exit_status (fault_of fault)) × WritesOrFails (line_of (fault_of fault)) old new

-- The same after a command on a file.
abbrev pub ReportsDone : {T : Type 0} → Result T ProgramFault → (old new : Option (List ℕ)) → (status : ℕ)
    → Type 0
ReportsDone (Ok done) old new status = (status ≡ 0) × Appends old new []
ReportsDone (Err fault) old new status = (status ≡ exit_status fault) × WritesOrFails (line_of fault) old new

-- A denial is written, and the status is 1. If out of memory for the line, 501 is written.
abbrev pub ReportsDenial : (rule : ℕ) → (old new : Option (List ℕ)) → (status : ℕ) → Type 0
ReportsDenial rule old new status =
    (status ≡ 1) × (WritesOrFails (denied_text rule) old new ⊎ WritesOrFails (line_of NoMemory) old new)

-- After an extract the status is 0 and nothing is written; a denial or a fault is written.
abbrev pub ReportsExtracted : {T : Type 0} → Result T CommandError → (old new : Option (List ℕ))
    → (status : ℕ) → Type 0
ReportsExtracted (Ok done) old new status = (status ≡ 0) × Appends old new []
ReportsExtracted (Err (command_error.Denied rule)) old new status = ReportsDenial rule old new status
ReportsExtracted (Err (command_error.Fault fault)) old new status =
    (status ≡ exit_status fault) × WritesOrFails (line_of fault) old new

-- A host, as far as a command depends on it: the states that its files may have, when a file is closed, and,
-- for each port, the pending connections and the recorded endings before the command and after it.
pub record Files (S : Type 0) : Type 1 where
  pub holds : List ℕ → State → Type 0
  pub is_closed : Held S → Type 0
  pub coming : ℕ → Option (List (Option (List ℕ)))
  pub after : ℕ → Option (List (Option (List ℕ)))
  pub ended : ℕ → Option (List Ending)
  pub ended_after : ℕ → Option (List Ending)

-- The host before a call and after it.
abbrev pub files_of : {H S : Type 0} → (holds : List ℕ → State → Type 0) → (is_closed : Held S → Type 0)
    → (coming : H → ℕ → Option (List (Option (List ℕ)))) → (ended : H → ℕ → Option (List Ending))
    → (old new : H) → Files S
files_of holds is_closed coming ended old new = record {
  holds = holds;
  is_closed = is_closed;
  coming = coming old;
  after = coming new;
  ended = ended old;
  ended_after = ended new;
}

-- Running commands on a host, with a clock.
module _ {S C : Type 0} (g : Ghosts S) (h : Files S) (reads : C → ℤ → C → Type 0) where
  -- A command: its output, its errors and its exit status.
  abbrev pub RunsCommand : PlainCommand → (input : Option (List ℕ)) → (clock clock_after : C)
      → (old new : Option (List ℕ)) → (old_errors new_errors : Option (List ℕ))
      → (status : ℕ) → Type 0
  RunsCommand (to_talk reading) input clock clock_after old new old_errors new_errors status =
      (served : Result Served DeskFault) × IfSome input (λ bytes. Talks bytes reading old new served)
      × ReportsServed served old_errors new_errors status
  RunsCommand (to_make file) input clock clock_after old new old_errors new_errors status =
      (done : Result (Unit {0}) ProgramFault) × CreatesRegister g (h.holds file) h.is_closed done
      × Appends old new [] × ReportsDone done old_errors new_errors status
  RunsCommand (to_serve file port connections at_once) input clock clock_after old new old_errors new_errors
      status =
      (done : Result (Unit {0}) ProgramFault) × ServesRegister g (h.holds file) h.is_closed at_once
      (record {
        reads = reads;
        wanted = connections;
        coming = h.coming port;
        after = h.after port;
        clock = clock;
        clock_after = clock_after;
      }) (record { old = h.ended port; new = h.ended_after port }) done
      × Appends old new [] × ReportsDone done old_errors new_errors status
  RunsCommand (to_check file) input clock clock_after old new old_errors new_errors status =
      (done : Result (Unit {0}) ProgramFault) × ChecksRegister g (h.holds file) old new done
      × ReportsDone done old_errors new_errors status
  RunsCommand (to_migrate file) input clock clock_after old new old_errors new_errors status =
      (done : Result (Unit {0}) ProgramFault) × IsMigrating g (h.holds file) h.is_closed old new done
      × ReportsDone done old_errors new_errors status
  RunsCommand (to_extract file reading party role kind at) input clock clock_after old new old_errors
      new_errors status =
      (done : Result (Unit {0}) CommandError)
      × ExtractsRegister g (h.holds file) (extract_request_of reading party role kind at) old new done
      × ReportsExtracted done old_errors new_errors status
  RunsCommand (to_digest file at) input clock clock_after old new old_errors new_errors status =
      (done : Result (Unit {0}) ProgramFault)
      × DigestsRegister g (h.holds file) (unwrap_or at last_moment) old new done
      × ReportsDone done old_errors new_errors status

  -- The command that was read is run. If `clap` rejects the arguments, only its message is written, and the
  -- status is 2.
  abbrev pub RunsParsed : Result Command WordsFault → (input : Option (List ℕ)) → (clock clock_after : C)
      → (old new : Option (List ℕ))
      → (old_errors new_errors : Option (List ℕ)) → (status : ℕ) → Type 0
  RunsParsed (Ok command) input clock clock_after old new old_errors new_errors status =
      RunsCommand (order_of command) input clock clock_after old new old_errors new_errors status
  RunsParsed (Err (words.Refused text)) input clock clock_after old new old_errors new_errors status =
      (status ≡ 2) × Appends old new [] × WritesOrFails (string_bytes text) old_errors new_errors
  RunsParsed (Err words.NoMemory) input clock clock_after old new old_errors new_errors status =
      (status ≡ exit_status NoMemory) × Appends old new []
      × WritesOrFails (line_of NoMemory) old_errors new_errors

  -- The arguments are read, and the command is run.
  abbrev pub RunsArguments : List (List ℕ) → (input : Option (List ℕ)) → (clock clock_after : C)
      → (old new : Option (List ℕ))
      → (old_errors new_errors : Option (List ℕ)) → (status : ℕ) → Type 0
  RunsArguments said input clock clock_after old new old_errors new_errors status =
      (outcome : Result Command WordsFault) × IsReading said outcome
      × RunsParsed outcome input clock clock_after old new old_errors new_errors status
