use Rattle.std.proofs.Common.{◌≡◌, ◌++◌, drop, Ok}
use Rattle.land_wire_json.specs.Bodies.Fields.{each_item}
use Rattle.land_wire_json.specs.Bodies.Units.{parcel_of}
use Rattle.land_wire_json.specs.Bodies.WireFaults.{◌>>=◌}
use Rattle.serde_json.specs.View.{items_view}
use Rattle.land_wire_json.proofs.bodies.unit.each_parcel.Given as goal

abbrev pub invariant-loop-value : goal.invariant-loop-value
invariant-loop-value l =
    each_item parcel_of (items_view l.items) ≡ (each_item parcel_of (items_view (drop l.value-index l.items)) >>= λ rest. Ok (l.parcels ++ rest))
