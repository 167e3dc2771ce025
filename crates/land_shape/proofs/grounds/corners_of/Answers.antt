use Rattle.std.proofs.Common.{◌≡◌}
use Rattle.land_shape.specs.Matching.{places_of}
use Rattle.land_shape.specs.Simple.{places}
use Rattle.land_shape.proofs.EdgeLemmas.{places_of-append}
use Rattle.land_shape.proofs.grounds.corners_of.Goals as goal

pub returns : goal.returns
returns c =
    let first : places c.in_ok-corners.corners.items ≡ places_of c.args.rings.now = rw c.new.ensures.items at c.in_ok-corners.ensures in
    rw (places_of-append c.args.rings.now c.args.others.now) (rw first at c.with_corners-2.ensures)
