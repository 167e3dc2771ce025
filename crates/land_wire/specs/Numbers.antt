-- Decimal numbers and moments in header fields and request targets.
use Rattle.std.specs.Prelude.{ℕ, ℤ, pos, int_lt, List, Result, Ok, Err, if◌then◌else◌}
use Rattle.land_core.specs.Numbers.{is_number, last_moment}
use Rattle.land_wire_json.specs.Bodies.Decimals.{digits_in}
use Rattle.land_wire_json.specs.Bodies.WireFaults.{◌>>=◌, or_fault}
use Rattle.land_wire_json.specs.declared.bodies.wire_fault.WireFault.{WireFault}
use Rattle.land_wire_json.specs.declared.bodies.wire_fault.WireFault.TheVariants as fault

-- the value of 1 to 13 decimal digits, leading zeros allowed; fault 132 for any other text
abbrev pub decimal_in : List ℕ → Result ℕ WireFault
decimal_in text = or_fault (digits_in 13 text) fault.Number

-- the number of an object, 1 to 1_000_000_000; fault 132 for any other value
abbrev pub number_in_text : List ℕ → Result ℕ WireFault
number_in_text text = decimal_in text >>= λ value. if is_number value then Ok value else Err fault.Number

-- a moment, from 0 to the last one; fault 132 for a later one
abbrev pub moment_in_text : List ℕ → Result ℤ WireFault
moment_in_text text =
    decimal_in text >>= λ value. if int_lt last_moment (pos value) then Err fault.Number else Ok (pos value)
