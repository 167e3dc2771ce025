use Rattle.land_shape.proofs.NumberLemmas.{far_number}
use Rattle.land_shape.proofs.numbers.coordinate.Goals as goal

pub returns-then-size-gt-MAX_COORDINATE : goal.returns-then-size-gt-MAX_COORDINATE
returns-then-size-gt-MAX_COORDINATE c =
    far_number c.args.word.now c.in-Some.size (rw c.split_sign-negative.ensures.rest at c.in-Some.ensures) c.if-size-gt-MAX_COORDINATE.true
