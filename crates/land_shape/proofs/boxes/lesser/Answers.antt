use Rattle.std.proofs.Common.{rules}
use mir.Syntax.{w64}
use mir.Val.{SFits}
use Rattle.land_shape.proofs.BoxLemmas.{lesser-near}
use Rattle.land_shape.proofs.boxes.lesser.Goals as goal

pub invariant_of-result : goal.invariant_of-result
invariant_of-result c =
    let ax : SFits w64 c.args.a.x = search rules in
    let bx : SFits w64 c.args.b.x = search rules in
    let ay : SFits w64 c.args.a.y = search rules in
    let by : SFits w64 c.args.b.y = search rules in
    record {
      x_in_range = lesser-near _ _ _ ax bx (record { sfits = c.min.type_inv }) c.args.a.x_in_range c.args.b.x_in_range c.min.ensures.value;
      y_in_range = lesser-near _ _ _ ay by (record { sfits = c.min-2.type_inv }) c.args.a.y_in_range c.args.b.y_in_range c.min-2.ensures.value;
    }
