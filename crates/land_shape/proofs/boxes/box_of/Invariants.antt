use Rattle.land_shape.specs.Simple.{place_of, places}
use Rattle.land_shape.specs.Turns.{HoldsEdges}
use Rattle.land_shape.proofs.boxes.box_of.Given as goal

abbrev pub invariant-loop-i : goal.invariant-loop-i
invariant-loop-i l = HoldsEdges (places l.points) l.start l.i (place_of l.around.least) (place_of l.around.greatest)
