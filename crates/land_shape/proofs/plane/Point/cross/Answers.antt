use Rattle.std.proofs.Common.{◌≡◌, rules}
use Rattle.std.proofs.lemmas.Int.{to_z-of_z}
use mir.Syntax.{w128}
use mir.Val.{SFits}
use Rattle.land_shape.specs.Coordinate.{cross_of}
use Rattle.land_shape.proofs.Bounds.{IsTriangle-cross}
use Rattle.land_shape.proofs.plane.Point.cross.Goals as goal

pub returns : goal.returns
returns c =
    let a = c.args.self in let b = c.args.other in
    let f : SFits w128 c.cross.result = search rules in
    let e : c.cross.result ≡ cross_of a.x a.y b.x b.y = rw (c.from_origin.ensures.x, c.from_origin.ensures.y, c.from_origin-2.ensures.x, c.from_origin-2.ensures.y) at c.cross.ensures in
    simp to_z-of_z (record { value = e; small = rw e (IsTriangle-cross a.x a.y b.x b.y a.x_in_range a.y_in_range b.x_in_range b.y_in_range) })
