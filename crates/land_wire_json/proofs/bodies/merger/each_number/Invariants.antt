use Rattle.std.proofs.Common.{◌≡◌, ◌++◌, drop, Ok}
use Rattle.land_wire_json.specs.Bodies.Fields.{each_item, number_in}
use Rattle.land_wire_json.specs.Bodies.WireFaults.{◌>>=◌}
use Rattle.serde_json.specs.View.{items_view}
use Rattle.land_wire_json.proofs.bodies.merger.each_number.Given as goal

abbrev pub invariant-loop-value : goal.invariant-loop-value
invariant-loop-value l =
    each_item number_in (items_view l.items) ≡ (each_item number_in (items_view (drop l.value-index l.items)) >>= λ rest. Ok (l.numbers ++ rest))
