use Rattle.std.proofs.Common.{rules}
use mir.Syntax.{w64}
use mir.Val.{SFits}
use Rattle.land_shape.proofs.BoxLemmas.{greater-near}
use Rattle.land_shape.proofs.boxes.greater.Goals as goal

pub invariant_of-result : goal.invariant_of-result
invariant_of-result c =
    let ax : SFits w64 c.args.a.x = search rules in
    let bx : SFits w64 c.args.b.x = search rules in
    let ay : SFits w64 c.args.a.y = search rules in
    let by : SFits w64 c.args.b.y = search rules in
    record {
      x_in_range = greater-near _ _ _ ax bx (record { sfits = c.max.type_inv }) c.args.a.x_in_range c.args.b.x_in_range c.max.ensures.value;
      y_in_range = greater-near _ _ _ ay by (record { sfits = c.max-2.type_inv }) c.args.a.y_in_range c.args.b.y_in_range c.max-2.ensures.value;
    }
