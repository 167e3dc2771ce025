-- Faults of the program.
use Rattle.std.specs.Prelude.{◌≡◌, ◌≢◌, ◌⊎◌, ℕ, List, codes}
use Rattle.std.specs.declared.io.ErrorKind.{ErrorKind}
use Rattle.std.specs.declared.io.ErrorKind.TheVariants.{OutOfMemory}
use Rattle.land_commands.specs.declared.program_fault.ProgramFault.{ProgramFault}
use Rattle.land_commands.specs.declared.program_fault.ProgramFault.TheVariants as program
use Rattle.land_desk.specs.declared.serve.DeskFault.{DeskFault}
use Rattle.land_desk.specs.declared.serve.DeskFault.TheVariants as desk
use Rattle.land_desk.specs.declared.service.serving.ServiceFault.{ServiceFault}
use Rattle.land_desk.specs.declared.service.serving.ServiceFault.TheVariants as service
use Rattle.land_keep.specs.declared.store_fault.StoreFault.{StoreFault}
use Rattle.land_keep.specs.declared.store_fault.StoreFault.TheVariants as store
use Rattle.land_pool.specs.declared.pool.PoolFault.{PoolFault}
use Rattle.land_pool.specs.declared.pool.PoolFault.TheVariants as pool
use Rattle.land_tables.specs.declared.fault.AdoptFault.{AdoptFault}
use Rattle.land_tables.specs.declared.fault.AdoptFault.TheVariants as adopt

-- The fault for a stream that could not be served.
abbrev pub fault_of : DeskFault → ProgramFault
fault_of desk.Read = program.Stream
fault_of desk.Write = program.Stream
fault_of desk.NoMemory = program.NoMemory

-- The fault for a file in which no register could be created. A store that failed is closed.
abbrev pub fault_of_creating : StoreFault → ProgramFault
fault_of_creating store.NoMemory = program.NoMemory
fault_of_creating store.Store = program.Closed
fault_of_creating store.Closed = program.Closed

-- The fault for a file that is not a valid register.
abbrev pub fault_of_adopting : AdoptFault → ProgramFault
fault_of_adopting adopt.NotOurs = program.NotOurs
fault_of_adopting adopt.Interval = program.Interval
fault_of_adopting adopt.Unsound = program.Unsound
fault_of_adopting adopt.Version = program.Version
fault_of_adopting adopt.NoMemory = program.NoMemory
fault_of_adopting adopt.Store = program.Closed

-- The fault for a service that ended early.
abbrev pub fault_of_service : ServiceFault → ProgramFault
fault_of_service service.Closed = program.Closed
fault_of_service service.Accept = program.Stream

-- The fault for a service of several connections at the same time that ended early.
abbrev pub fault_of_pool : PoolFault → ProgramFault
fault_of_pool pool.Closed = program.Closed
fault_of_pool pool.Accept = program.Stream
fault_of_pool pool.NoMemory = program.NoMemory

-- Reading the arguments failed: out of memory, or one is not valid UTF-8.
abbrev pub IsFaultOfWords : ErrorKind → ProgramFault → Type 0
IsFaultOfWords kind fault =
    ((kind ≡ OutOfMemory) × (fault ≡ program.NoMemory)) ⊎ ((kind ≢ OutOfMemory) × (fault ≡ program.Words))

-- A file cannot be opened: out of memory, or for another reason.
abbrev pub IsFaultOfOpening : ProgramFault → Type 0
IsFaultOfOpening fault = (fault ≡ program.NoMemory) ⊎ (fault ≡ program.Open)

-- An existing file cannot be opened. An empty file is not a register.
abbrev pub IsFaultOfOpeningExisting : ProgramFault → Type 0
IsFaultOfOpeningExisting fault = IsFaultOfOpening fault ⊎ (fault ≡ program.NotOurs)

-- A file cannot be closed: out of memory, or its store failed.
abbrev pub IsFaultOfClosing : ProgramFault → Type 0
IsFaultOfClosing fault = (fault ≡ program.NoMemory) ⊎ (fault ≡ program.Closed)

-- The exit status: 2 for arguments that are not valid UTF-8, as for other invalid arguments, and 1 for a
-- fault.
abbrev pub exit_status : ProgramFault → ℕ
exit_status program.Words = 2
exit_status program.Stream = 1
exit_status program.NoMemory = 1
exit_status program.Open = 1
exit_status program.Listen = 1
exit_status program.FutureMoment = 1
exit_status program.Closed = 1
exit_status program.NotOurs = 1
exit_status program.Interval = 1
exit_status program.Unsound = 1
exit_status program.Version = 1

-- The line that reports a fault.
abbrev pub line_of : ProgramFault → List ℕ
line_of program.Words = codes "land: a word of the command line is no text\n"
line_of program.Stream = codes "land: input or output failed\n"
line_of program.NoMemory = codes "land: fault 501\n"
line_of program.Open = codes "land: cannot open\n"
line_of program.Listen = codes "land: cannot listen\n"
line_of program.FutureMoment = codes "land: fault 135\n"
line_of program.Closed = codes "land: fault 502\n"
line_of program.NotOurs = codes "land: fault 520\n"
line_of program.Interval = codes "land: fault 521\n"
line_of program.Unsound = codes "land: fault 522\n"
line_of program.Version = codes "land: fault 523\n"
