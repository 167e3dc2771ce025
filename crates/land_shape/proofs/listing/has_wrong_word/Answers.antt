use Rattle.std.proofs.Common.{refl}
use Rattle.land_shape.specs.Faults.{IsNotNumber}
use Rattle.land_shape.proofs.SomeLemmas.{some_at, none_more, not_both}
use Rattle.land_shape.proofs.listing.has_wrong_word.Goals as goal

pub returns-then-is_no_number : goal.returns-then-is_no_number
returns-then-is_no_number c = (
  λ _. some_at IsNotNumber c.args.words.now c.word-item.result c.loop-word.word-index c.loop-word-test.true c.word-item.is
      (rw c.bytes.ensures at c.is_no_number.ensures.0 c.if-is_no_number.true),
  λ _. refl,
)

pub loop-word-preserved : goal.loop-word-preserved
loop-word-preserved c =
    none_more IsNotNumber c.args.words.now c.word-item.result c.loop-word.word-index c.loop-word-test.true c.word-item.is c.loop-word.invariant
    (λ here. not_both (c.is_no_number.ensures.1 (rw c.bytes.ensures here)) c.if-is_no_number.false)
