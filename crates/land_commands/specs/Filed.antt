-- The commands `new`, `check` and `serve`, on files.
use Rattle.std.specs.Prelude.{◌≡◌, ◌≢◌, ◌⊎◌, ◌<◌, ◌≤◌, ℕ, ℤ, List, [], ◌++◌, codes, decimal, length, take}
use Rattle.std.specs.Prelude.{Option, Result, Ok, Err}
use Rattle.std.specs.Fmt.{signed_decimal}
use Rattle.std.specs.Io.KnownBytes.{Appends}
use Rattle.land_commands.specs.ProgramFaults.{IsFaultOfClosing, IsFaultOfOpeningExisting, IsFaultOfOpening}
use Rattle.land_commands.specs.ProgramFaults.{fault_of_adopting, fault_of_creating, fault_of_pool}
use Rattle.land_commands.specs.ProgramFaults.{fault_of_service}
use Rattle.land_commands.specs.declared.program_fault.ProgramFault.{ProgramFault}
use Rattle.land_commands.specs.declared.program_fault.ProgramFault.TheVariants as program
use Rattle.land_desk.specs.Service.{ServesConnections, ReportsClosed}
use Rattle.land_desk.specs.declared.service.serving.ServiceFault.{ServiceFault}
use Rattle.land_keep.specs.Keeping.{IsStateOf}
use Rattle.land_keep.specs.Timeline.{new_timeline}
use Rattle.land_keep.specs.declared.store_fault.StoreFault.{StoreFault}
use Rattle.land_pool.specs.Endings.{Ending}
use Rattle.land_pool.specs.Interleaving.{ReportsClosedStore, ServesAtOnce}
use Rattle.land_pool.specs.declared.pool.PoolFault.{PoolFault}
use Rattle.land_tables.specs.Adopting.{IsAdopted, IsRefused}
use Rattle.land_tables.specs.Calls.{StaysOpenAndSame}
use Rattle.land_tables.specs.TablesState.{IsCreated, IsHonest, IsOldOrCommitted, TablesState, held_timeline}
use Rattle.land_tables.specs.Registers.{version_2}
use Rattle.land_tables.specs.Standing.{HoldsTimeline}
use Rattle.land_tables.specs.declared.fault.AdoptFault.{AdoptFault}
use Rattle.land_tables.specs.declared.fault.AdoptFault.TheVariants as adopt
use Rattle.sqlite.specs.Held.{Held, state}
use Rattle.sqlite.specs.State.{HasCleanDisk, State, Survives}
use Rattle.sqlite.specs.Store.{Ghosts}

-- The store has a state that its file may have, if its disk is honest.
abbrev pub HoldsFileState : {S : Type 0} → Ghosts S → (holds : State → Type 0) → Held S → Type 0
HoldsFileState g holds c = HasCleanDisk (state g c) → holds (state g c)

-- ---- creating a register

-- A store was opened, and the tables of a new register were created in it. A crash leaves the old state, or
-- the new register.
pub record IsCreatedIn {S : Type 0} (g : Ghosts S) (holds : State → Type 0) (o : TablesState S) : Type 0 where
  pub was : Held S
  pub shows : HoldsFileState g holds was
  pub created : IsCreated g o
  pub survives : Survives (state g was) (state g o.conn) (λ db. HoldsTimeline db new_timeline)

-- A store was opened, and no register was created in it: its state is unchanged, or the last committed one.
pub record IsNotCreated {S : Type 0} (g : Ghosts S) (holds : State → Type 0)
    (fault : ProgramFault) : Type 0 where
  pub was : Held S
  pub left : Held S
  pub why : StoreFault
  pub shows : HoldsFileState g holds was
  pub kept : IsOldOrCommitted (state g was) (state g left)
  pub told : fault ≡ fault_of_creating why

-- A register is created and its file closed; or opening, creating or closing failed.
abbrev pub CreatesRegister : {S T : Type 0} → Ghosts S → (holds : State → Type 0) → (closed : Held S → Type 0)
    → Result T ProgramFault → Type 0
CreatesRegister {S} g holds closed (Ok done) = (o : TablesState S) × IsCreatedIn g holds o × closed o.conn
CreatesRegister {S} g holds closed (Err fault) =
    IsFaultOfOpening fault ⊎ IsNotCreated g holds fault
    ⊎ ((o : TablesState S) × IsCreatedIn g holds o × IsFaultOfClosing fault)

-- ---- opening a register

-- A store was opened and is a valid register.
pub record IsOpened {S : Type 0} (g : Ghosts S) (holds : State → Type 0) (o : TablesState S) : Type 0 where
  pub was : Held S
  pub shows : HoldsFileState g holds was
  pub adopted : IsAdopted g was o

-- A store was opened and is not a valid register. It is unchanged, unless a store operation failed.
pub record IsNotOpened {S : Type 0} (g : Ghosts S) (holds : State
    → Type 0) (fault : ProgramFault) : Type 0 where
  pub was : Held S
  pub left : Held S
  pub why : AdoptFault
  pub shows : HoldsFileState g holds was
  pub refused : HasCleanDisk (state g left) → IsRefused version_2 why (state g was).now
  pub same : HasCleanDisk (state g left) → why ≢ adopt.Store → StaysOpenAndSame (state g was) (state g left)
  pub told : fault ≡ fault_of_adopting why

-- No register can be opened: the file cannot be opened, or is not a valid register.
abbrev pub IsNotOpenable : {S : Type 0} → Ghosts S → (holds : State → Type 0) → ProgramFault → Type 0
IsNotOpenable g holds fault = IsFaultOfOpeningExisting fault ⊎ IsNotOpened g holds fault

-- A register is opened in a file, or cannot be.
abbrev pub OpensRegister : {S : Type 0} → Ghosts S → (holds : State → Type 0)
    → Result (TablesState S) ProgramFault
    → Type 0
OpensRegister g holds (Ok o) = IsOpened g holds o
OpensRegister g holds (Err fault) = IsNotOpenable g holds fault

-- ---- checking a register

-- The line that reports a sound register: its last stamp and its next number.
abbrev pub check_text : (last : ℤ) → (next : ℕ) → List ℕ
check_text last next =
    codes "sound: last " ++ (signed_decimal last ++ (codes ", next " ++ (decimal next ++ codes "\n")))

-- A prefix of a text is written, and not all of it.
abbrev pub IsTruncated : List ℕ → (old new : Option (List ℕ)) → Type 0
IsTruncated text old new = (n : ℕ) × (n < length text) × Appends old new (take n text)

-- The register is sound, and the line is written; or none can be opened, and nothing is written; or the line
-- could not be built or written.
abbrev pub ChecksRegister : {S T : Type 0} → Ghosts S → (holds : State → Type 0) → (old new : Option (List ℕ))
    → Result T ProgramFault → Type 0
ChecksRegister {S} g holds old new (Ok done) =
    (o : TablesState S) × IsOpened g holds o × Appends old new (check_text o.last o.next)
ChecksRegister {S} g holds old new (Err fault) =
    (IsNotOpenable g holds fault × Appends old new [])
    ⊎ ((o : TablesState S) × IsOpened g holds o
    × (((fault ≡ program.NoMemory) × Appends old new [])
    ⊎ ((fault ≡ program.Stream) × IsTruncated (check_text o.last o.next) old new)))

-- ---- serving a register

-- `wanted` of the pending connections are served on tables, if their store is honest.
pub record ServesTables {S C T : Type 0} (g : Ghosts S) (reads : C → ℤ → C
    → Type 0) (wanted : ℕ) (coming after : Option (List (Option (List ℕ))))
    (from : TablesState S) (clock : C) (to : TablesState S) (clock_after : C)
    (r : Result T ServiceFault) : Type 0 where
  pub told : ReportsClosed r to.is_closed
  pub was : IsHonest g to → IsHonest g from
  pub served : IsHonest g to
      → ServesConnections reads wanted
      (record { closed = from.is_closed; timeline = held_timeline g from; clock = clock })
      (IsStateOf (IsHonest g to) to.is_closed (held_timeline g to) clock_after) coming after r

-- A service: the clock, the number of connections to serve, and the pending connections and the clock before
-- and after.
pub record Service (C : Type 0) : Type 1 where
  pub reads : C → ℤ → C → Type 0
  pub wanted : ℕ
  pub coming : Option (List (Option (List ℕ)))
  pub after : Option (List (Option (List ℕ)))
  pub clock : C
  pub clock_after : C

-- The endings of connections to a port that were recorded before a service and after it.
pub record Endings : Type 0 where
  pub old : Option (List Ending)
  pub new : Option (List Ending)

-- `wanted` of the pending connections are served on tables, several at the same time, if their store is
-- honest.
pub record ServesTablesAtOnce {S C T : Type 0} (g : Ghosts S) (reads : C → ℤ → C
    → Type 0) (wanted : ℕ) (coming after : Option (List (Option (List ℕ)))) (endings : Endings)
    (from : TablesState S) (clock : C) (to : TablesState S) (clock_after : C)
    (r : Result T PoolFault) : Type 0 where
  pub told : ReportsClosedStore r to.is_closed
  pub was : IsHonest g to → IsHonest g from
  pub served : IsHonest g to
      → ServesAtOnce reads wanted
      (record { closed = from.is_closed; timeline = held_timeline g from; clock = clock })
      (IsStateOf (IsHonest g to) to.is_closed (held_timeline g to) clock_after) coming after endings.old
      endings.new r

-- A register is opened in a file, and its tables are served.
pub record ServesOpened {S T F : Type 0} (g : Ghosts S) (holds : State → Type 0)
    (serves : TablesState S → TablesState S → Result T F → Type 0) (r : Result T F) : Type 0 where
  pub from : TablesState S
  pub to : TablesState S
  pub taken : IsOpened g holds from
  pub served : serves from to r

-- The tables in a file are served without a fault, and the file is closed. Or no register can be opened; or
-- listening fails; or the service ends early; or closing fails.
abbrev pub ServesFileBy : {S T F : Type 0} → Ghosts S → (holds : State → Type 0) → (closed : Held S → Type 0)
    → (serves : TablesState S → TablesState S → Result T F → Type 0) → (reported : F → ProgramFault)
    → Result T ProgramFault → Type 0
ServesFileBy g holds closed serves reported (Ok done) =
    (it : ServesOpened g holds serves (Ok done)) × closed it.to.conn
ServesFileBy {S} {T} {F} g holds closed serves reported (Err fault) =
    IsNotOpenable g holds fault
    ⊎ (((o : TablesState S) × IsOpened g holds o × (fault ≡ program.Listen))
    ⊎ (((why : F) × ServesOpened g holds serves (Err why) × (fault ≡ reported why))
    ⊎ ((done : T) × ServesOpened g holds serves (Ok done) × IsFaultOfClosing fault)))

-- Connections are served one at a time, as many as requested.
abbrev pub ServesFile : {S C T : Type 0} → Ghosts S → (holds : State → Type 0) → (closed : Held S → Type 0)
    → Service C → Result T ProgramFault → Type 0
ServesFile g holds closed s =
    ServesFileBy g holds closed
    (λ from to r. ServesTables g s.reads s.wanted s.coming s.after from s.clock to s.clock_after r)
    fault_of_service

-- The same, several at the same time.
abbrev pub ServesFileAtOnce : {S C T : Type 0} → Ghosts S → (holds : State → Type 0)
    → (closed : Held S → Type 0) → Service C → Endings → Result T ProgramFault → Type 0
ServesFileAtOnce g holds closed s endings =
    ServesFileBy g holds closed
    (λ from to r.
    ServesTablesAtOnce g s.reads s.wanted s.coming s.after endings from s.clock to s.clock_after r)
    fault_of_pool

-- Connections are served one at a time, or several at the same time if `at_once` is above 1.
abbrev pub ServesRegister : {S C T : Type 0} → Ghosts S → (holds : State → Type 0)
    → (closed : Held S → Type 0) → (at_once : ℕ) → Service C → Endings → Result T ProgramFault → Type 0
ServesRegister g holds closed at_once s endings result =
    (at_once ≤ 1 → ServesFile g holds closed s result)
    × (1 < at_once → ServesFileAtOnce g holds closed s endings result)
