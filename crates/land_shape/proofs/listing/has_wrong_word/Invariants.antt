use Rattle.std.proofs.Common.{take}
use Rattle.land_shape.specs.Faults.{SomeOf, IsNotNumber}
use Rattle.land_shape.proofs.listing.has_wrong_word.Given as goal

abbrev pub invariant-loop-word : goal.invariant-loop-word
invariant-loop-word l = ¬ SomeOf IsNotNumber (take l.word-index l.words)
