-- The command `migrate`: from schema version 1 to 2.
use Rattle.std.specs.Prelude.{◌≡◌, ◌≢◌, ◌⊎◌, ℕ, ℤ, List, [], ◌++◌, codes, decimal, Option, Result, Ok, Err}
use Rattle.std.specs.Fmt.{signed_decimal}
use Rattle.std.specs.Io.KnownBytes.{Appends}
use Rattle.land_commands.specs.Filed.{IsTruncated, HoldsFileState}
use Rattle.land_commands.specs.ProgramFaults.{IsFaultOfClosing, IsFaultOfOpeningExisting, fault_of_adopting}
use Rattle.land_commands.specs.declared.program_fault.ProgramFault.{ProgramFault}
use Rattle.land_commands.specs.declared.program_fault.ProgramFault.TheVariants as program
use Rattle.land_tables.specs.Adopting.{IsRefused}
use Rattle.land_tables.specs.Migrating.{IsMigratedFrom, IsMigrated, CrashLeavesOldOrMigrated}
use Rattle.land_tables.specs.Migrating.{StaysSameAfterCrash}
use Rattle.land_tables.specs.TablesState.{TablesState}
use Rattle.land_tables.specs.Registers.{version_1}
use Rattle.land_tables.specs.declared.fault.AdoptFault.{AdoptFault}
use Rattle.land_tables.specs.declared.fault.AdoptFault.TheVariants as adopt
use Rattle.sqlite.specs.Held.{Held, state}
use Rattle.sqlite.specs.State.{HasCleanDisk, State, Survives}
use Rattle.sqlite.specs.Store.{Ghosts}

-- A store was opened, and its register migrated to version 2. A crash leaves version 1, or all of version 2.
pub record IsMigratedFile {S : Type 0} (g : Ghosts S) (holds : State → Type 0)
    (o : TablesState S) : Type 0 where
  pub was : Held S
  pub shows : HoldsFileState g holds was
  pub migrated : IsMigrated g was o
  pub survives : Survives (state g was) (state g o.conn) (IsMigratedFrom (state g was).now)

-- A store was opened and not migrated. It is unchanged, unless a store operation failed. A crash leaves the
-- old state, or all of version 2.
pub record IsNotMigrated {S : Type 0} (g : Ghosts S) (holds : State
    → Type 0) (fault : ProgramFault) : Type 0 where
  pub was : Held S
  pub left : Held S
  pub why : AdoptFault
  pub shows : HoldsFileState g holds was
  pub refused : HasCleanDisk (state g left) → IsRefused version_1 why (state g was).now
  pub same : HasCleanDisk (state g left) → why ≢ adopt.Store
      → StaysSameAfterCrash (state g was) (state g left)
  pub either : CrashLeavesOldOrMigrated (state g was) (state g left)
  pub told : fault ≡ fault_of_adopting why

-- The register in a file is migrated; or the file cannot be opened, or is not migrated.
abbrev pub OpensMigrated : {S : Type 0} → Ghosts S → (holds : State → Type 0)
    → Result (TablesState S) ProgramFault
    → Type 0
OpensMigrated g holds (Ok o) = IsMigratedFile g holds o
OpensMigrated g holds (Err fault) = IsFaultOfOpeningExisting fault ⊎ IsNotMigrated g holds fault

-- The line that reports a migrated register: its last stamp and its next number.
abbrev pub migrated_text : (last : ℤ) → (next : ℕ) → List ℕ
migrated_text last next =
    codes "migrated: last " ++ (signed_decimal last ++ (codes ", next " ++ (decimal next ++ codes "\n")))

-- The register is migrated, its file closed, and the line written. Or it is not migrated, and nothing is
-- written. Or it is migrated, and the line could not be built, the file not closed, or the line not written
-- after the file was closed.
abbrev pub IsMigrating : {S T : Type 0} → Ghosts S → (holds : State → Type 0) → (closed : Held S → Type 0)
    → (old new : Option (List ℕ)) → Result T ProgramFault → Type 0
IsMigrating {S} g holds closed old new (Ok done) =
    (o : TablesState S) × IsMigratedFile g holds o × closed o.conn
    × Appends old new (migrated_text o.last o.next)
IsMigrating {S} g holds closed old new (Err fault) =
    ((IsFaultOfOpeningExisting fault ⊎ IsNotMigrated g holds fault) × Appends old new [])
    ⊎ ((o : TablesState S) × IsMigratedFile g holds o
    × ((IsFaultOfClosing fault × Appends old new [])
    ⊎ ((fault ≡ program.Stream) × closed o.conn × IsTruncated (migrated_text o.last o.next) old new)))
