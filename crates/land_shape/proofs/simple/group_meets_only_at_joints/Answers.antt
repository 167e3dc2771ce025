use Rattle.land_shape.specs.Simple.{place_of, places}
use Rattle.land_shape.proofs.BoxLemmas.{beside-rightly, pairs_more}
use Rattle.land_shape.proofs.SomeLemmas.{not_both}
use Rattle.land_shape.proofs.simple.group_meets_only_at_joints.Goals as goal
use Rattle.land_shape.proofs.simple.group_meets_only_at_joints.Goals.{else-overlaps_edge-via-then-overlaps_edge+else-not-earlier_meet_only_at_joint, else-overlaps_edge-via-else-overlaps_edge}

pub loop-j-preserved : goal.loop-j-preserved
loop-j-preserved c =
    let ps = places c.args.points.now in
    pairs_more ps c.args.start c.args.end c.loop-j.j c.loop-j.invariant
    (λ i above below order. elim c.else-overlaps_edge.branch [
      | else-overlaps_edge-via-then-overlaps_edge+else-not-earlier_meet_only_at_joint w ↦ w.earlier_meet_only_at_joint.ensures.0 w.if-not-earlier_meet_only_at_joint.false i above below order
      | else-overlaps_edge-via-else-overlaps_edge w ↦ beside-rightly ps i c.loop-j.j (place_of c.box_of-around.result.least) (place_of c.box_of-around.result.greatest) (place_of c.corner.result) (place_of c.corner_after.result)
          (c.box_of-around.ensures i above below) c.corner.ensures c.corner_after.ensures (λ overlap. not_both (c.overlaps_edge.ensures.1 overlap) w.if-overlaps_edge.false)
    ])
