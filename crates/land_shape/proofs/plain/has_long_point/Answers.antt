use Rattle.std.proofs.Common.{refl, length, arith, ap, ◌≡◌}
use Rattle.land_shape.specs.Faults.{HasManyWords}
use Rattle.land_shape.proofs.SomeLemmas.{some_at, none_more}
use Rattle.land_shape.proofs.plain.has_long_point.Goals as goal

pub returns-then-words-gt2 : goal.returns-then-words-gt2
returns-then-words-gt2 c =
    let e : length c.words.result.now ≡ length c.point-item.result = ap length c.words.ensures in (
      λ _. some_at HasManyWords c.args.points.now c.point-item.result c.loop-point.point-index c.loop-point-test.true c.point-item.is (omega arith),
      λ _. refl,
    )

pub loop-point-preserved : goal.loop-point-preserved
loop-point-preserved c =
    let e : length c.words.result.now ≡ length c.point-item.result = ap length c.words.ensures in
    none_more HasManyWords c.args.points.now c.point-item.result c.loop-point.point-index c.loop-point-test.true c.point-item.is c.loop-point.invariant
    (λ here. omega arith)
