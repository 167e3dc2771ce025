-- Faults of requests and bodies, and readings: a value or the first fault.
use Rattle.std.specs.Prelude.{◌≡◌, ◌≢◌, ℕ, Option, Some, None, Result, Ok, Err}
use Rattle.land_fraction.specs.Number.{fraction_fault_number}
use Rattle.land_shape.specs.FaultTexts.{shape_fault_number}
use Rattle.land_wire_json.specs.declared.bodies.wire_fault.WireFault.{WireFault}
use Rattle.land_wire_json.specs.declared.bodies.wire_fault.WireFault.TheVariants.{Json, Field, Number, Text}
use Rattle.land_wire_json.specs.declared.bodies.wire_fault.WireFault.TheVariants.{Role, NoRoute, Method}
use Rattle.land_wire_json.specs.declared.bodies.wire_fault.WireFault.TheVariants.{Share, Outline, NoMemory}

-- the number of a fault; shares and outlines have their own numbers
abbrev pub fault_number : WireFault → ℕ
fault_number Json = 130
fault_number Field = 131
fault_number Number = 132
fault_number Text = 133
fault_number Role = 134
fault_number NoRoute = 136
fault_number Method = 137
fault_number (Share fault) = fraction_fault_number fault
fault_number (Outline fault) = shape_fault_number fault
fault_number NoMemory = 501

-- continues with the value, or stops at the first fault
infixl 10 ◌>>=◌
abbrev pub ◌>>=◌ : {A B : Type 0} → Result A WireFault → (A → Result B WireFault) → Result B WireFault
(Ok value) >>= next = next value
(Err fault) >>= next = Err fault

-- the value, or this fault if there is none
abbrev pub or_fault : {A : Type 0} → Option A → WireFault → Result A WireFault
or_fault None fault = Err fault
or_fault (Some value) fault = Ok value

-- the result with `view` applied to its value
abbrev pub map_ok : {A B : Type 0} → (A → B) → Result A WireFault → Result B WireFault
map_ok view (Ok value) = Ok (view value)
map_ok view (Err fault) = Err fault

-- the result, with `view` applied to its value, is the wanted one, if it is not out of memory
abbrev pub Returns : {A B : Type 0} → (A → B) → Result A WireFault → Result B WireFault → Type 0
Returns view (Ok value) wanted = wanted ≡ Ok (view value)
Returns view (Err fault) wanted = fault ≢ NoMemory → wanted ≡ Err fault
