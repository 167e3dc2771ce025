use Rattle.std.proofs.Common.{rules}
use Rattle.std.proofs.lemmas.Int.{to_z-of_z}
use mir.Syntax.{w64}
use mir.Val.{SFits}
use Rattle.land_shape.proofs.SomeLemmas.{not_both}
use Rattle.land_shape.proofs.segment.boxes_overlap.Goals as goal

pub returns-then-overlap : goal.returns-then-overlap
returns-then-overlap c =
    let ax : SFits w64 c.args.a.x = search rules in
    let bx : SFits w64 c.args.b.x = search rules in
    let cx : SFits w64 c.args.c.x = search rules in
    let dx : SFits w64 c.args.d.x = search rules in
    let ay : SFits w64 c.args.a.y = search rules in
    let by : SFits w64 c.args.b.y = search rules in
    let cy : SFits w64 c.args.c.y = search rules in
    let dy : SFits w64 c.args.d.y = search rules in
    let ox = simp to_z-of_z at c.overlap.ensures in
    let oy = simp to_z-of_z at c.overlap-then-overlap.ensures in
    (λ t. (ox.0 c.if-overlap.true, oy.0 t), λ both. oy.1 both.1)

pub returns-else-overlap : goal.returns-else-overlap
returns-else-overlap c =
    let ax : SFits w64 c.args.a.x = search rules in
    let bx : SFits w64 c.args.b.x = search rules in
    let cx : SFits w64 c.args.c.x = search rules in
    let dx : SFits w64 c.args.d.x = search rules in
    let ox = simp to_z-of_z at c.overlap.ensures in
    (λ t. absurd (not_both t c.if-overlap.false), λ both. ox.1 both.0)
