use Rattle.std.proofs.Common.{sym, ap, ◌∙◌}
use Rattle.std.specs.Cmp.Derive.Mapped.{pointwise-map}
use Rattle.land_shape.specs.Place.{is_same_place, is_same_ring}
use Rattle.land_shape.specs.Simple.{place_of, places}
use Rattle.land_shape.proofs.outline.Ring.is_same.Goals as goal

pub returns : goal.returns
returns c =
    c.eq.ensures ∙ sym (pointwise-map place_of is_same_place c.points.result.now c.points-2.result.now)
    ∙ ap (λ ring. is_same_ring ring (places c.points-2.result.now)) c.points.ensures.points
    ∙ ap (λ ring. is_same_ring c.args.self.now ring) c.points-2.ensures.points
