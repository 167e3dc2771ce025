use Rattle.std.proofs.Common.{◌≡◌, ◌++◌, ◌∷◌, [], drop, string_bytes}
use Rattle.land_shape.specs.Simple.{place_of, places}
use Rattle.land_shape.specs.Printed.{points_text, polygon_text}
use Rattle.land_shape.proofs.printing.write_points.Given as goal

abbrev pub invariant-loop-point : goal.invariant-loop-point
invariant-loop-point l =
    string_bytes l.out ++ (points_text (places (drop l.point-index l.points) ++ place_of l.first ∷ []) ++ 41 ∷ 41 ∷ []) ≡ polygon_text (places l.points)
