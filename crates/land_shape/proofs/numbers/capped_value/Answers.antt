use Rattle.std.proofs.Common.{◌∙◌, ap, min, ℕ, ◌+◌, ◌*◌}
use Rattle.land_shape.proofs.NumberLemmas.{capped_more}
use Rattle.land_shape.proofs.numbers.capped_value.Goals as goal

pub loop-digit-preserved : goal.loop-digit-preserved
loop-digit-preserved c =
    c.min-value.ensures
    ∙ ap (λ (d : ℕ). min (c.loop-digit.value * 10 + d) 10000000001) c.from.ensures
    ∙ capped_more c.args.digits.now c.loop-digit.digit-index c.loop-digit.value c.loop-digit-test.true c.requires c.loop-digit.invariant
