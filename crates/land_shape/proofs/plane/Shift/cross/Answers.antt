use Rattle.land_shape.proofs.Bounds.{cross-fits, cross-same}
use Rattle.land_shape.proofs.plane.Shift.cross.Goals as goal

pub overflow_sub-result : goal.overflow_sub-result
overflow_sub-result c =
    let a = c.args.self in let b = c.args.other in
    cross-fits a.x a.y b.x b.y a.x_in_range a.y_in_range b.x_in_range b.y_in_range

pub returns : goal.returns
returns c =
    let a = c.args.self in let b = c.args.other in
    cross-same a.x a.y b.x b.y a.x_in_range a.y_in_range b.x_in_range b.y_in_range
