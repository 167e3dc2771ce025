-- The command `digest`.
use Rattle.std.specs.Prelude.{◌≡◌, ◌⊎◌, ℕ, ℤ, List, [], ◌++◌, codes, Option, Result, Ok, Err}
use Rattle.std.specs.Fmt.{signed_decimal}
use Rattle.std.specs.Io.KnownBytes.{Appends}
use Rattle.hex.specs.Hex.{encode_lower}
use Rattle.land_commands.specs.Filed.{IsNotOpenable, IsOpened, IsTruncated}
use Rattle.land_commands.specs.declared.program_fault.ProgramFault.{ProgramFault}
use Rattle.land_commands.specs.declared.program_fault.ProgramFault.TheVariants as program
use Rattle.land_digest.specs.History.{history_digest}
use Rattle.land_digest.specs.Stamps.{last_stamp_at}
use Rattle.land_tables.specs.TableContents.{Finds, PassesTests}
use Rattle.land_tables.specs.TablesState.{IsHonest, TablesState}
use Rattle.land_tables.specs.declared.table_contents.TableContents.{TableContents}
use Rattle.sqlite.specs.Held.{state}
use Rattle.sqlite.specs.State.{State}
use Rattle.sqlite.specs.Store.{Ghosts}

-- The line that reports a digest: its stamp, and the digest in hexadecimal digits.
abbrev pub digest_text : (stamp : ℤ) → (digest : List ℕ) → List ℕ
digest_text stamp digest =
    codes "digest: " ++ (signed_decimal stamp ++ (codes " " ++ (encode_lower digest ++ codes "\n")))

-- The line for the history in the contents of tables, up to the last stamp at or before a time.
abbrev pub contents_text : TableContents → (at : ℤ) → List ℕ
contents_text found at =
    digest_text (last_stamp_at found.moments at)
    (history_digest found.moments found.history (last_stamp_at found.moments at))

-- A register was opened, and these are the contents of its tables, if their store is honest. They pass the
-- tests of a register in any case.
pub record IsOpenedWith {S : Type 0} (g : Ghosts S) (holds : State → Type 0) (o : TablesState S)
    (found : TableContents) : Type 0 where
  pub opened : IsOpened g holds o
  pub finds : IsHonest g o → Finds (state g o.conn).now.trees found
  pub passes : PassesTests found

-- A register is opened with its contents, or cannot be.
abbrev pub OpensContents : {S : Type 0} → Ghosts S → (holds : State → Type 0)
    → Result (TablesState S × TableContents) ProgramFault → Type 0
OpensContents g holds (Ok it) = IsOpenedWith g holds it.0 it.1
OpensContents g holds (Err fault) = IsNotOpenable g holds fault

-- A register is opened, and the line for its history is written; or none can be opened, and nothing is
-- written; or the line could not be built or written.
abbrev pub DigestsRegister : {S T : Type 0} → Ghosts S → (holds : State → Type 0) → (at : ℤ)
    → (old new : Option (List ℕ)) → Result T ProgramFault → Type 0
DigestsRegister {S} g holds at old new (Ok done) =
    (o : TablesState S) × (found : TableContents) × IsOpenedWith g holds o found
    × Appends old new (contents_text found at)
DigestsRegister {S} g holds at old new (Err fault) =
    (IsNotOpenable g holds fault × Appends old new [])
    ⊎ ((o : TablesState S) × (found : TableContents) × IsOpenedWith g holds o found
    × (((fault ≡ program.NoMemory) × Appends old new [])
    ⊎ ((fault ≡ program.Stream) × IsTruncated (contents_text found at) old new)))
