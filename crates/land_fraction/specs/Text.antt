-- Printed forms.
use Rattle.std.specs.Prelude.{ℕ, List, ◌++◌, codes}
use Rattle.std.specs.Fmt.{decimal}
use Rattle.land_fraction.specs.Ratio.{Ratio}
use Rattle.land_fraction.specs.declared.fault.FractionFault.{FractionFault}
use Rattle.land_fraction.specs.declared.fault.FractionFault.TheVariants.{Zero, AboveOne, TooFine}

-- n/d, both in decimal digits
abbrev pub fraction_text : Ratio → List ℕ
fraction_text f = decimal f.numerator ++ codes "/" ++ decimal f.denominator

-- the message of each fault
abbrev pub fault_text : FractionFault → List ℕ
fault_text Zero = codes "a fraction is above zero"
fault_text AboveOne = codes "a fraction is at most one"
fault_text TooFine = codes "the denominator in lowest terms is above 1000000000"
