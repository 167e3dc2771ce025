-- The numbers of the store's faults.
use Rattle.std.specs.Prelude.{ℕ}
use Rattle.land_keep.specs.declared.store_fault.StoreFault.{StoreFault}
use Rattle.land_keep.specs.declared.store_fault.StoreFault.TheVariants.{NoMemory, Store, Closed}

abbrev pub store_fault_number : StoreFault → ℕ
store_fault_number NoMemory = 501
store_fault_number Store = 502
store_fault_number Closed = 503
