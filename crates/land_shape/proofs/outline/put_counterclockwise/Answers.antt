use Rattle.std.proofs.Common.{◌≡◌, ◌-◌, length, sym, ap, ◌∙◌, refl, arith, List}
use Rattle.std.proofs.lemmas.Int.{ints}
use lib.IntN.{pos, ◌-ℤ◌}
use lib.Signed.{◌<ℤ◌}
use Rattle.land_shape.specs.Outline.{reversed_ring}
use Rattle.land_shape.specs.Place.{Place, area_of, ring_edges}
use Rattle.land_shape.specs.Simple.{places}
use Rattle.land_shape.proofs.OutlineLemmas.{turned_part, area-reversed_ring, put_left}
use Rattle.land_shape.proofs.outline.put_counterclockwise.Goals as goal

pub overflow_sub-result : goal.overflow_sub-result
overflow_sub-result c = let b = c.signed_area-area.ensures.bounded in let f = c.if-area-lt0.true in omega (arith, ints)

pub returns-then-area-lt0-clause-ring : goal.returns-then-area-lt0-clause-ring
returns-then-area-lt0-clause-ring c =
    let ps = c.args.points.now in
    let e = c.signed_area-area.ensures.value in let b = c.signed_area-area.ensures.bounded in let f = c.if-area-lt0.true in
    let below : area_of (ring_edges (places ps)) <ℤ pos 0 = omega (arith, ints, e) in
    turned_part ps c.reverse.new.self (length ps - 1) c.requires.some refl c.reverse.ensures.after ∙ sym (put_left (places ps) below)

pub returns-then-area-lt0-clause-area : goal.returns-then-area-lt0-clause-area
returns-then-area-lt0-clause-area c =
    let ps = c.args.points.now in
    let e = c.signed_area-area.ensures.value in let b = c.signed_area-area.ensures.bounded in let f = c.if-area-lt0.true in
    let turn : area_of (ring_edges (reversed_ring (places ps))) ≡ pos 0 -ℤ area_of (ring_edges (places ps)) = area-reversed_ring (places ps) in
    let same = ap (λ (s : List Place). area_of (ring_edges s))
    (turned_part ps c.reverse.new.self (length ps - 1) c.requires.some refl c.reverse.ensures.after) in
    omega (arith, ints, e, turn, same)
