use Rattle.std.proofs.Common.{refl}
use Rattle.land_shape.specs.Faults.{SomeOf, IsNotNumber}
use Rattle.land_shape.proofs.SomeLemmas.{some_at, none_more, not_both}
use Rattle.land_shape.proofs.listing.has_wrong_point.Goals as goal

pub returns-then-has_wrong_word : goal.returns-then-has_wrong_word
returns-then-has_wrong_word c = (
  λ _. some_at (SomeOf IsNotNumber) c.args.points.now c.point-item.result c.loop-point.point-index c.loop-point-test.true c.point-item.is
      (rw c.words.ensures at c.has_wrong_word.ensures.0 c.if-has_wrong_word.true),
  λ _. refl,
)

pub loop-point-preserved : goal.loop-point-preserved
loop-point-preserved c =
    none_more (SomeOf IsNotNumber) c.args.points.now c.point-item.result c.loop-point.point-index c.loop-point-test.true c.point-item.is c.loop-point.invariant
    (λ here. not_both (c.has_wrong_word.ensures.1 (rw c.words.ensures here)) c.if-has_wrong_word.false)
