-- The queries of request targets.
use Rattle.std.specs.Prelude.{ℕ, ℤ, List, [], ◌∷◌, take, drop, codes, bytes_eq, Option, Some, None, Result}
use Rattle.std.specs.Prelude.{Ok, Err, if◌then◌else◌, ⊤}
use Rattle.land_wire.specs.Numbers.{moment_in_text}
use Rattle.land_wire_json.specs.Bodies.WireFaults.{◌>>=◌}
use Rattle.land_wire_json.specs.declared.bodies.wire_fault.WireFault.{WireFault}
use Rattle.land_wire_json.specs.declared.bodies.wire_fault.WireFault.TheVariants as fault

-- fault 131 if an act has a query
abbrev pub no_query : List ℕ → Result ⊤ WireFault
no_query [] = Ok tt
no_query (byte ∷ bytes) = Err fault.Field

-- the query `at=` and a moment; fault 132 if the rest is not a moment, 131 for any other query
abbrev pub moment_parameter : List ℕ → Result (Option ℤ) WireFault
moment_parameter query =
    if bytes_eq (take 3 query) (codes "at=")
    then (moment_in_text (drop 3 query) >>= λ moment. Ok (Some moment))
    else Err fault.Field

-- the optional time of a read; without a query it is now
abbrev pub at_in : List ℕ → Result (Option ℤ) WireFault
at_in [] = Ok None
at_in (byte ∷ bytes) = moment_parameter (byte ∷ bytes)
