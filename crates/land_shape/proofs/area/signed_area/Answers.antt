use Rattle.std.proofs.Common.{◌≡◌, ℕ, ◌-◌, ◌<◌, ◌≤◌, List, length, take, drop, [], ap, ◌*◌, sym, ◌∙◌, arith, length-drop}
use Rattle.std.proofs.lemmas.Int.{ints}
use Rattle.std.proofs.lemmas.List.{take_rest, drop_all}
use lib.IntN.{ℤ, pos, ◌+ℤ◌}
use lib.IntN.{◌-ℤ◌}
use lib.Signed.{◌≤ℤ◌}
use Rattle.land_shape.specs.Coordinate.{cross_of, IsTriangle}
use Rattle.land_shape.specs.declared.plane.Point.{Point}
use Rattle.land_shape.proofs.AreaLemmas.{rest_area, rest_area-all, rest_area-none, rest_area-more, step_sum, Step}
use Rattle.land_shape.proofs.area.signed_area.Goals as goal

named : (cross term now rest : ℤ) → cross ≡ term → now ≡ term +ℤ rest → now ≡ cross +ℤ rest
named cross term now rest e m = m ∙ ap (λ (z : ℤ). z +ℤ rest) (sym e)

others_few : (ps : List Point) → length (take (length ps - 1) (drop 1 ps)) ≡ length ps - 1
others_few ps = ap length (take_rest ps 1) ∙ length-drop 1 ps

pub loop-point-init : goal.loop-point-init
loop-point-init c =
    let e = rest_area-all c.args.points.now c.index-points-0.result c.requires.some c.index-points-0.is in
    record { so_far = rw (take_rest c.args.points.now 1) (omega (arith, ints, e)); low = omega (arith, ints); high = omega (arith, ints) }

pub overflow_add-sum : goal.overflow_add-sum
overflow_add-sum c =
    let k = c.loop-point in let ps = c.args.points.now in
    let few = others_few ps in
    let more = rest_area-more k.last c.index-points-0.result (take (length ps - 1) (drop 1 ps)) k.point-index c.point-item.result c.loop-point-test.true c.point-item.is in
    (step_sum _ c.cross-sum.result _ _ _ k.point-index (omega arith) k.invariant.so_far (named _ _ _ _ c.cross-sum.ensures.value more) k.invariant.low k.invariant.high c.cross-sum.ensures.small).fits

pub loop-point-preserved : goal.loop-point-preserved
loop-point-preserved c =
    let k = c.loop-point in let ps = c.args.points.now in
    let few = others_few ps in
    let more = rest_area-more k.last c.index-points-0.result (take (length ps - 1) (drop 1 ps)) k.point-index c.point-item.result c.loop-point-test.true c.point-item.is in
    let step = step_sum _ c.cross-sum.result _ _ _ k.point-index (omega arith) k.invariant.so_far (named _ _ _ _ c.cross-sum.ensures.value more) k.invariant.low k.invariant.high c.cross-sum.ensures.small in
    record { so_far = step.so_far; low = step.low; high = step.high }

last_step : (ps : List Point) (last first : Point) (sum cross : ℤ) (i : ℕ) (whole : ℤ) → length ps ≤ 200 → length (take (length ps - 1) (drop 1 ps)) ≤ i → i ≤ length ps - 1 → 0 < length ps
    → sum +ℤ rest_area last (drop i (take (length ps - 1) (drop 1 ps))) first ≡ whole
    → (pos 0 -ℤ pos (200000000000000000000 * i)) ≤ℤ sum → sum ≤ℤ pos (200000000000000000000 * i) → cross ≡ cross_of last.x last.y first.x first.y → IsTriangle cross
    → Step sum cross (pos 0) whole i
last_step ps last first sum cross i whole few out in' some e low high v t =
    let none : drop i (take (length ps - 1) (drop 1 ps)) ≡ [] = drop_all i _ out in
    let e' : sum +ℤ rest_area last [] first ≡ whole = rw none at e in
    step_sum sum cross _ (pos 0) whole i (omega arith) e' (rest_area-none last first ∙ sym v ∙ omega (arith, ints)) low high t

pub overflow_add-result : goal.overflow_add-result
overflow_add-result c =
    let k = c.loop-point in let ps = c.args.points.now in
    let few = others_few ps in
    (last_step ps k.last c.index-points-0.result _ c.cross.result k.point-index _ c.requires.few c.loop-point-test.false (omega arith) c.requires.some
    k.invariant.so_far k.invariant.low k.invariant.high c.cross.ensures.value c.cross.ensures.small).fits

pub returns : goal.returns
returns c =
    let k = c.loop-point in let ps = c.args.points.now in
    let few = others_few ps in
    let step = last_step ps k.last c.index-points-0.result _ c.cross.result k.point-index _ c.requires.few c.loop-point-test.false (omega arith) c.requires.some
    k.invariant.so_far k.invariant.low k.invariant.high c.cross.ensures.value c.cross.ensures.small in
    let e = step.so_far in let l = step.low in
    record { value = omega (arith, ints, e); bounded = omega (arith, ints, l) }
