use Rattle.std.proofs.Common.{◌≡◌, ◌↔◌, arith, IsTrue, Bool, true, false, not, length}
use Rattle.std.proofs.lemmas.List.{length-map}
use Rattle.land_shape.specs.Simple.{places}
use Rattle.land_shape.proofs.CornerLemmas.{meet-following, meet-around, meet-apart, through}
use Rattle.land_shape.proofs.simple.meet_only_at_joint.Goals as goal
use Rattle.land_shape.proofs.simple.meet_only_at_joint.Goals.{else-i-eq0-via-then-i-eq0+else-j-points, else-i-eq0-via-else-i-eq0}

negated : {A B : Type 0} (t : Bool) → (IsTrue t ↔ A) → (¬ A) ↔ B → IsTrue (not t) ↔ B
negated true f g = (λ h. cc h, λ b. absurd (g.1 b (f.0 (let e : true ≡ true = cc in e))))
negated false f g = (λ h. g.0 (λ a. let e = f.1 a in cc e), λ b. let e : true ≡ true = cc in e)

pub returns-then-j-i : goal.returns-then-j-i
returns-then-j-i c =
    let ps = places c.args.points.now in
    let n : length (places c.args.points.now) ≡ length c.args.points.now = simp length-map in
    through (rw (c.corner.ensures, c.corner-then-j-i.ensures, c.corner_after.ensures) at c.meet_at_joint.ensures)
    (meet-following ps c.args.i c.args.j c.if-j-i.true (omega arith))

pub returns-then-j-points : goal.returns-then-j-points
returns-then-j-points c =
    let ps = places c.args.points.now in
    let n : length (places c.args.points.now) ≡ length c.args.points.now = simp length-map in
    let z : c.args.i ≡ 0 = omega arith in
    rw z (through (rw (c.corner-then-j-points.ensures, c.corner-then-j-points-2.ensures, c.corner_after-then-j-points.ensures) at c.meet_at_joint-then-j-points.ensures)
    (meet-around ps c.args.j (omega arith) (omega arith)))

pub returns-else-i-eq0 : goal.returns-else-i-eq0
returns-else-i-eq0 c =
    let ps = places c.args.points.now in
    let n : length (places c.args.points.now) ≡ length c.args.points.now = simp length-map in
    negated c.edges_meet.result c.edges_meet.ensures
    (meet-apart ps c.args.i c.args.j c.if-j-i.false
    (λ h. elim c.else-i-eq0.branch [ else-i-eq0-via-then-i-eq0+else-j-points w ↦ omega (arith, h) | else-i-eq0-via-else-i-eq0 w ↦ omega (arith, h) ]))
