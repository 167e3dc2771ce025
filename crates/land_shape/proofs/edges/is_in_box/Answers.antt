use Rattle.std.proofs.Common.{◌≡◌, Bool, true, rules, sym, ◌∙◌, ◌&&◌}
use Rattle.std.proofs.lemmas.Int.{to_z-of_z}
use mir.Syntax.{w64}
use mir.Val.{SFits}
use Rattle.land_shape.specs.Matching.{is_between}
use Rattle.land_shape.proofs.edges.is_in_box.Goals as goal

both : (r s a b : Bool) → r ≡ a → s ≡ b → r ≡ true → s ≡ (a && b)
both r s a b e f t = rw (sym e ∙ t) f

pub returns-then-is_between : goal.returns-then-is_between
returns-then-is_between c =
    let e = c.args.edge in let p = c.args.point in
    let fx : SFits w64 e.from.x = search rules in
    let tx : SFits w64 e.to.x = search rules in
    let px : SFits w64 p.x = search rules in
    let fy : SFits w64 e.from.y = search rules in
    let ty : SFits w64 e.to.y = search rules in
    let py : SFits w64 p.y = search rules in
    both c.is_between.result c.is_between-then-is_between.result (is_between e.from.x e.to.x p.x) (is_between e.from.y e.to.y p.y)
    (simp to_z-of_z at c.is_between.ensures) (simp to_z-of_z at c.is_between-then-is_between.ensures) c.if-is_between.true
