use Rattle.std.proofs.Common.{◌≡◌, ◌∙◌, sym, arith, rules}
use Rattle.std.proofs.lemmas.Int.{ints}
use lib.IntN.{pos, ◌-ℤ◌}
use lib.Signed.{◌≤ℤ◌}
use mir.Syntax.{w128}
use mir.Val.{SFits}
use Rattle.land_shape.specs.Coordinate.{cross_of, dot_of}
use Rattle.land_shape.specs.Simple.{place_of}
use Rattle.land_shape.proofs.Folding.{ahead, HasManyWords-ends}
use Rattle.land_shape.proofs.simple.meet_at_joint.Goals as goal

pub returns-then-cross-ne0 : goal.returns-then-cross-ne0
returns-then-cross-ne0 c =
    let f : SFits w128 c.cross.result = search rules in
    let a = place_of c.args.a in let b = place_of c.args.b in let p = place_of c.args.c in
    let e : c.cross.result ≡ cross_of (b.x -ℤ a.x) (b.y -ℤ a.y) (p.x -ℤ b.x) (p.y -ℤ b.y)
    = rw (c.shift_to-first.ensures.x, c.shift_to-first.ensures.y, c.shift_to-second.ensures.x, c.shift_to-second.ensures.y) at c.cross.ensures in
    let both = ahead a b p (HasManyWords-ends a b c.requires) in
    (λ t. both.1 (λ flat. let z : c.cross.result ≡ pos 0 = e ∙ flat in absurd (omega (arith, ints))), λ m. grind arith)

pub returns-else-cross-ne0 : goal.returns-else-cross-ne0
returns-else-cross-ne0 c =
    let f : SFits w128 c.cross.result = search rules in
    let g : SFits w128 c.dot.result = search rules in
    let a = place_of c.args.a in let b = place_of c.args.b in let p = place_of c.args.c in
    let e : c.cross.result ≡ cross_of (b.x -ℤ a.x) (b.y -ℤ a.y) (p.x -ℤ b.x) (p.y -ℤ b.y)
    = rw (c.shift_to-first.ensures.x, c.shift_to-first.ensures.y, c.shift_to-second.ensures.x, c.shift_to-second.ensures.y) at c.cross.ensures in
    let d : c.dot.result ≡ dot_of (b.x -ℤ a.x) (b.y -ℤ a.y) (p.x -ℤ b.x) (p.y -ℤ b.y)
    = rw (c.shift_to-first.ensures.x, c.shift_to-first.ensures.y, c.shift_to-second.ensures.x, c.shift_to-second.ensures.y) at c.dot.ensures in
    let z : c.cross.result ≡ pos 0 = omega (arith, ints) in
    let both = ahead a b p (HasManyWords-ends a b c.requires) in (
      λ t. both.1 (λ flat. let k : pos 0 ≤ℤ c.dot.result = omega (arith, ints, t) in rw d at k),
      λ m. let k = rw (sym d) at (both.0 m (sym e ∙ z)) in sym (omega (arith, ints)),
    )
