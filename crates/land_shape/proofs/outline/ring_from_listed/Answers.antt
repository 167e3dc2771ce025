use Rattle.std.proofs.Common.{◌≡◌, ◌≤◌, ◌-◌, ◌++◌, length, take, drop, sym, ap, ◌∙◌, arith, subst, List, ℕ, vec_len}
use Rattle.std.proofs.lemmas.Grind.{common_steps}
use Rattle.std.proofs.lemmas.Int.{ints, to_z-of_z}
use Rattle.std.proofs.lemmas.List.{length-map}
use lib.IntN.{ℤ, pos}
use lib.Signed.{◌≤ℤ◌}
use mir.Syntax.{w128}
use mir.Val.{SFits, to_z, of_z}
use lib.IntN.{nat_abs}
use Rattle.std.proofs.Common.{rules}
use Rattle.land_shape.specs.declared.plane.Point.{Point}
use Rattle.land_shape.specs.Outline.{IsOutline, ring_of, doubled_area, counterclockwise_ring}
use Rattle.land_shape.specs.Place.{area_of, ring_edges}
use Rattle.land_shape.specs.Simple.{places, place_of, HaveLength, AllMeetOnlyAtJoints}
use Rattle.land_shape.proofs.OutlineLemmas.{all_written, ring_of-points, outlined}
use Rattle.land_shape.proofs.outline.ring_from_listed.Goals as goal

-- the results of the checks of the ring's points
record Found (ring listed : List Point) (area : ℤ) : Type 0 where
  is_ring : places ring ≡ ring_of (places listed)
  outline : IsOutline (places ring)
  same_area : area ≡ area_of (ring_edges (places ring))

found : (ring kept listed : List Point) (n : ℕ) (area : ℤ) → 4 ≤ length listed → length listed ≤ 201
    → places ring ≡ counterclockwise_ring (places kept) → kept ≡ take (n - 1) listed → n ≡ length listed
    → area ≡ area_of (ring_edges (places ring)) → pos 0 ≤ℤ area → ¬ (area ≡ pos 0) → area ≤ℤ pos 1000000000000000000
    → HaveLength (places ring) × AllMeetOnlyAtJoints (places ring) → Found ring listed area
found ring kept listed n area some few e k m a left wide small apart =
    let is = ring_of-points ring kept listed n e k m in
    let l : length (places listed) ≡ length listed = length-map listed place_of in
    record { is_ring = is; outline = outlined ring (places listed) area is (omega arith) (omega arith) a left wide small apart; same_area = a }

pub invariant_of-result : goal.invariant_of-result
invariant_of-result c =
    let f : SFits w128 c.put_counterclockwise-area.result = search rules in
    let ring = c.put_counterclockwise-area.new.points in
    let area = c.put_counterclockwise-area.result in
    let all : vec_len c.args.listed ≡ length c.args.listed.items = grind (arith, common_steps) in
    let n : c.pop.new.self.len ≡ length c.pop.new.self.items = grind (arith, common_steps) in
    let m : length ring ≡ length c.pop.new.self.items = c.put_counterclockwise-area.auto.points ∙ ap length c.deref_mut.ensures.value in
    let whole : take c.pop.new.self.len (ring ++ drop (length ring) c.pop.new.self.items) ≡ ring
    = all_written ring c.pop.new.self.items c.pop.new.self.len m n in
    let h = c.if-area-eq0.false in let i = c.if-area-gt-MAX_DOUBLED_AREA.false in
    let both = found ring c.deref_mut.result.now c.args.listed.items (vec_len c.args.listed) area c.requires.some c.requires.few c.put_counterclockwise-area.ensures.ring
    (c.deref_mut.ensures.value ∙ c.pop.ensures.rest) all c.put_counterclockwise-area.ensures.area c.put_counterclockwise-area.ensures.left
    (λ z. h (omega (arith, ints))) (omega (arith, ints))
    (subst (λ (ps : List Point). HaveLength (places ps) × AllMeetOnlyAtJoints (places ps)) (c.deref.ensures.value ∙ whole) (c.meets_only_at_joints.ensures.0 c.if-not-meets_only_at_joints.false)) in
    subst (λ (ps : List Point). IsOutline (places ps) × (nat_abs (to_z w128 (of_z w128 area)) ≡ doubled_area (places ps))) (sym whole)
    (both.outline, simp to_z-of_z (ap nat_abs both.same_area))

pub returns : goal.returns
returns c =
    let f : SFits w128 c.put_counterclockwise-area.result = search rules in
    let ring = c.put_counterclockwise-area.new.points in
    let area = c.put_counterclockwise-area.result in
    let all : vec_len c.args.listed ≡ length c.args.listed.items = grind (arith, common_steps) in
    let n : c.pop.new.self.len ≡ length c.pop.new.self.items = grind (arith, common_steps) in
    let m : length ring ≡ length c.pop.new.self.items = c.put_counterclockwise-area.auto.points ∙ ap length c.deref_mut.ensures.value in
    let whole : take c.pop.new.self.len (ring ++ drop (length ring) c.pop.new.self.items) ≡ ring
    = all_written ring c.pop.new.self.items c.pop.new.self.len m n in
    let h = c.if-area-eq0.false in let i = c.if-area-gt-MAX_DOUBLED_AREA.false in
    let both = found ring c.deref_mut.result.now c.args.listed.items (vec_len c.args.listed) area c.requires.some c.requires.few c.put_counterclockwise-area.ensures.ring
    (c.deref_mut.ensures.value ∙ c.pop.ensures.rest) all c.put_counterclockwise-area.ensures.area c.put_counterclockwise-area.ensures.left
    (λ z. h (omega (arith, ints))) (omega (arith, ints))
    (subst (λ (ps : List Point). HaveLength (places ps) × AllMeetOnlyAtJoints (places ps)) (c.deref.ensures.value ∙ whole) (c.meets_only_at_joints.ensures.0 c.if-not-meets_only_at_joints.false)) in
    subst (λ (ps : List Point). (places ps ≡ ring_of (places c.args.listed.items)) × IsOutline (places ps)) (sym whole)
    (both.is_ring, both.outline)
