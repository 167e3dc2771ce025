use Rattle.std.proofs.Common.{◌≡◌, ◌==◌, arith, rules, of_z, ap, ◌∙◌}
use Rattle.std.proofs.lemmas.Int.{ints}
use Rattle.std.proofs.lemmas.Bool.Decides.{Decides-int_eq, nat_tests}
use Rattle.std.specs.Bool.{one_answer}
use Rattle.std.specs.Ordering.{int_eq}
use lib.IntN.{ℤ, pos, ◌-ℤ◌}
use mir.Syntax.{w128}
use mir.Val.{SFits}
use Rattle.land_shape.specs.Coordinate.{cross_of}
use Rattle.land_shape.specs.Simple.{place_of}
use Rattle.land_shape.proofs.edges.is_on_line.Goals as goal

zero_test : (z : ℤ) → SFits w128 z → (of_z w128 z == 0) ≡ int_eq z (pos 0)
zero_test z f = one_answer (of_z w128 z == 0) (int_eq z (pos 0)) (
  λ t. let e : of_z w128 z ≡ 0 = grind (arith, nat_tests) in omega (arith, ints),
  λ e. let n : of_z w128 z ≡ 0 = omega (arith, ints) in grind (arith, nat_tests),
)
    (Decides-int_eq z (pos 0))

pub returns : goal.returns
returns c =
    let f : SFits w128 c.cross.result = search rules in
    let a = place_of c.args.edge.from in let b = place_of c.args.edge.to in let p = place_of c.args.point in
    let e : c.cross.result ≡ cross_of (b.x -ℤ a.x) (b.y -ℤ a.y) (p.x -ℤ a.x) (p.y -ℤ a.y)
    = rw (c.shift_to.ensures.x, c.shift_to.ensures.y, c.shift_to-2.ensures.x, c.shift_to-2.ensures.y) at c.cross.ensures in
    zero_test c.cross.result f ∙ ap (λ (z : ℤ). int_eq z (pos 0)) e
