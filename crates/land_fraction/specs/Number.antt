-- The numbers of the faults.
use Rattle.std.specs.Prelude.{ℕ}
use Rattle.land_fraction.specs.declared.fault.FractionFault.{FractionFault}
use Rattle.land_fraction.specs.declared.fault.FractionFault.TheVariants.{Zero, AboveOne, TooFine}

abbrev pub fraction_fault_number : FractionFault → ℕ
fraction_fault_number Zero = 101
fraction_fault_number AboveOne = 102
fraction_fault_number TooFine = 103
