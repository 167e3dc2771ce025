use Rattle.std.proofs.Common.{subst}
use Rattle.land_shape.specs.Place.{Place}
use Rattle.land_shape.specs.Simple.{place_of, places}
use Rattle.land_shape.specs.Turns.{IsInBox}
use Rattle.land_shape.proofs.BoxLemmas.{holds_more}
use Rattle.land_shape.proofs.boxes.box_of.Goals as goal

pub loop-i-preserved : goal.loop-i-preserved
loop-i-preserved c =
    let low = place_of c.with-around.result.least in let high = place_of c.with-around.result.greatest in
    holds_more (places c.args.points.now) c.args.start c.loop-i.i (place_of c.loop-i.around.least) (place_of c.loop-i.around.greatest) low high
    c.loop-i.invariant
    (λ p h. c.with-around.ensures.still p (c.with.ensures.still p h))
    (subst (λ (p : Place). IsInBox low high p) c.corner.ensures (c.with-around.ensures.still _ c.with.ensures.holds))
    (subst (λ (p : Place). IsInBox low high p) c.corner_after.ensures c.with-around.ensures.holds)
