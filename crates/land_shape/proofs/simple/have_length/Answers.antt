use Rattle.std.proofs.Common.{sym, ◌∙◌, below_more}
use Rattle.land_shape.proofs.SomeLemmas.{not_both}
use Rattle.land_shape.proofs.simple.have_length.Goals as goal

pub loop-i-preserved : goal.loop-i-preserved
loop-i-preserved c =
    below_more _ _ c.loop-i.invariant
    (λ same. not_both (c.is_same_place.ensures.1 (c.corner.ensures ∙ same ∙ sym c.corner_after.ensures)) c.if-is_same_place.false)
