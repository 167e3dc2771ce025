-- Decodes the rows of a list in order: the first fault, or all values.
use Rattle.std.specs.Prelude.{List, [], ◌∷◌, Result, Ok}
use Rattle.land_wire_json.specs.Bodies.WireFaults.{◌>>=◌}
use Rattle.land_wire_json.specs.declared.bodies.wire_fault.WireFault.{WireFault}
use Rattle.sqlite_value.specs.Order.{Row}

abbrev pub each_row : {X : Type 0} → (Row → Result X WireFault) → List Row → Result (List X) WireFault
each_row read [] = Ok []
each_row read (row ∷ rows) = read row >>= λ first. each_row read rows >>= λ rest. Ok (first ∷ rest)
