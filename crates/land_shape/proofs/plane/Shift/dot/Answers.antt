use Rattle.land_shape.proofs.Bounds.{dot-fits, dot-same}
use Rattle.land_shape.proofs.plane.Shift.dot.Goals as goal

pub overflow_add-result : goal.overflow_add-result
overflow_add-result c =
    let a = c.args.self in let b = c.args.other in
    dot-fits a.x a.y b.x b.y a.x_in_range a.y_in_range b.x_in_range b.y_in_range

pub returns : goal.returns
returns c =
    let a = c.args.self in let b = c.args.other in
    dot-same a.x a.y b.x b.y a.x_in_range a.y_in_range b.x_in_range b.y_in_range
