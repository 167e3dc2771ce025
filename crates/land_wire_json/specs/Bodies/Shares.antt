-- Shares as texts: 1 to 18 digits, `/`, 1 to 18 digits.
use Rattle.std.specs.Prelude.{ℕ, ◌==◌, Bool, List, Option, Some, None, Result, Ok, Err}
use Rattle.std.specs.List.{before_first, after_first}
use Rattle.land_fraction.specs.Answer.{fraction_of}
use Rattle.land_fraction.specs.Ratio.{Ratio, over}
use Rattle.land_fraction.specs.declared.fault.FractionFault.{FractionFault}
use Rattle.land_wire_json.specs.Bodies.Decimals.{digits_in}
use Rattle.land_wire_json.specs.Bodies.Fields.{text_at}
use Rattle.land_wire_json.specs.Bodies.WireFaults.{◌>>=◌}
use Rattle.land_wire_json.specs.declared.bodies.wire_fault.WireFault.{WireFault}
use Rattle.land_wire_json.specs.declared.bodies.wire_fault.WireFault.TheVariants as fault
use Rattle.serde_json.specs.Data.{Data}

abbrev pub is_slash : ℕ → Bool
is_slash byte = byte == 47

-- the fraction of two numbers, or one of faults 101 to 103
abbrev pub share_or_fault : Result Ratio FractionFault → Result Ratio WireFault
share_or_fault (Ok share) = Ok share
share_or_fault (Err f) = Err (fault.Share f)

-- fault 132 if either number is missing
abbrev pub share_from : (numerator denominator : Option ℕ) → Result Ratio WireFault
share_from None d = Err fault.Number
share_from (Some n) None = Err fault.Number
share_from (Some n) (Some d) = share_or_fault (fraction_of (over n d))

-- the numbers before and after the first `/`
unfoldable pub share_in_text : List ℕ → Result Ratio WireFault
share_in_text text =
    share_from (digits_in 18 (before_first is_slash text)) (digits_in 18 (after_first is_slash text))

-- the share of a key
unfoldable pub share_at : (key : List ℕ) → Data → Result Ratio WireFault
share_at key value = text_at key value >>= share_in_text
