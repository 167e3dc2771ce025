-- The numbers of `AdoptFault`, and the fault of a failed read.
use Rattle.std.specs.Prelude.{ℕ}
use Rattle.land_tables.specs.declared.fault.AdoptFault.{AdoptFault}
use Rattle.land_tables.specs.declared.fault.AdoptFault.TheVariants.{NotOurs, Interval, Unsound, Version}
use Rattle.land_tables.specs.declared.fault.AdoptFault.TheVariants.{NoMemory, Store}
use Rattle.land_tables_rows.specs.declared.listing.fault.ReadFault.{ReadFault}
use Rattle.land_tables_rows.specs.declared.listing.fault.ReadFault.TheVariants as read

abbrev pub adopt_fault_number : AdoptFault → ℕ
adopt_fault_number NotOurs = 520
adopt_fault_number Interval = 521
adopt_fault_number Unsound = 522
adopt_fault_number Version = 523
adopt_fault_number NoMemory = 501
adopt_fault_number Store = 502

-- the fault of a failed read
abbrev pub of_read : ReadFault → AdoptFault
of_read read.Unreadable = NotOurs
of_read read.NoMemory = NoMemory
of_read read.Store = Store
