use Rattle.std.proofs.Common.{◌+◌, ◌∷◌, [], ◌++◌, drop, string_bytes}
use Rattle.land_shape.specs.Simple.{place_of, places}
use Rattle.land_shape.specs.Printed.{point_text, points_text, polygon_text}
use Rattle.land_shape.proofs.PrintLemmas.{points_text-more, one_step}
use Rattle.land_shape.proofs.printing.write_points.Goals as goal

pub loop-point-preserved : goal.loop-point-preserved
loop-point-preserved c =
    let ps = c.args.points.now in
    let i = c.loop-point.point-index in
    let first = place_of c.index-points-0.result in
    rw (c.in_ok-push_str.ensures.bytes, c.in_ok-push_point.ensures)
    (one_step (string_bytes c.loop-point.out) (points_text (places (drop i ps) ++ first ∷ [])) (point_text (place_of c.point-item.result))
    (points_text (places (drop (i + 1) ps) ++ first ∷ [])) (41 ∷ 41 ∷ []) (polygon_text (places ps))
    (points_text-more ps i c.point-item.result first c.loop-point-test.true c.point-item.is) c.loop-point.invariant)
