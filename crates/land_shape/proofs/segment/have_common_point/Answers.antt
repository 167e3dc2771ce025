use Rattle.std.proofs.Common.{◌≡◌, ◌↔◌, true, arith, rules, nat_eq}
use Rattle.std.proofs.lemmas.Bool.Decides.{nat_tests}
use Rattle.std.proofs.lemmas.Int.{ints, to_z-of_z}
use lib.IntN.{ℤ, pos}
use mir.Syntax.{w128}
use mir.Val.{SFits, of_z}
use Rattle.land_shape.specs.Simple.{place_of}
use Rattle.land_shape.proofs.Meeting.{left-common, right-common, line-common, common-boxes}
use Rattle.land_shape.proofs.SomeLemmas.{not_both}
use Rattle.land_shape.proofs.segment.have_common_point.Goals as goal

-- two tests of one fact
chain : (A B C : Type 0) → A ↔ B → C ↔ B → A ↔ C
chain A B C f g = (λ a. g.1 (f.0 a), λ c. f.1 (g.0 c))

pub returns-then-turns-gt0 : goal.returns-then-turns-gt0
returns-then-turns-gt0 c =
    let t = c.turns_of-turns.result in
    let fw : SFits w128 t.whole = search rules in
    let ff : SFits w128 t.first = search rules in
    let fs : SFits w128 t.second = search rules in
    chain _ _ _ (simp to_z-of_z at c.are_inside.ensures)
    (left-common (place_of c.args.a) (place_of c.args.b) (place_of c.args.c) (place_of c.args.d) t.whole t.first t.second c.turns_of-turns.ensures (omega (arith, ints)))

pub returns-then-turns-lt0 : goal.returns-then-turns-lt0
returns-then-turns-lt0 c =
    let t = c.turns_of-turns.result in
    let fw : SFits w128 t.whole = search rules in
    let ff : SFits w128 t.first = search rules in
    let fs : SFits w128 t.second = search rules in
    chain _ _ _ (simp to_z-of_z at c.are_inside-then-turns-lt0.ensures)
    (right-common (place_of c.args.a) (place_of c.args.b) (place_of c.args.c) (place_of c.args.d) t.whole t.first t.second c.turns_of-turns.ensures (omega (arith, ints)))

pub returns-then-not-boxes_overlap : goal.returns-then-not-boxes_overlap
returns-then-not-boxes_overlap c = (
  λ t. cc t,
  λ h. absurd (not_both (c.boxes_overlap.ensures.1 (common-boxes (place_of c.args.a) (place_of c.args.b) (place_of c.args.c) (place_of c.args.d) h)) c.if-not-boxes_overlap.true),
)

nought : (z : ℤ) → SFits w128 z → nat_eq (of_z w128 z) 0 ≡ true → z ≡ pos 0
nought z f t = let e : of_z w128 z ≡ 0 = grind (arith, nat_tests) in omega (arith, ints)

is_nought : (z : ℤ) → z ≡ pos 0 → nat_eq (of_z w128 z) 0 ≡ true
is_nought z e = let n : of_z w128 z ≡ 0 = omega (arith, ints) in grind (arith, nat_tests)

pub returns-then-turns-eq0 : goal.returns-then-turns-eq0
returns-then-turns-eq0 c =
    let t = c.turns_of-turns.result in
    let fw : SFits w128 t.whole = search rules in
    let ff : SFits w128 t.first = search rules in
    let fs : SFits w128 t.second = search rules in
    let e = c.if-turns-eq0.true in
    let both = line-common (place_of c.args.a) (place_of c.args.b) (place_of c.args.c) (place_of c.args.d) t.whole t.first t.second c.turns_of-turns.ensures (omega (arith, ints))
    (c.boxes_overlap.ensures.0 c.if-not-boxes_overlap.false) in
    (λ h. both.1 (omega (arith, ints), nought t.second fs h), λ h. is_nought t.second ((both.0 h).1))

pub returns-else-turns-eq0 : goal.returns-else-turns-eq0
returns-else-turns-eq0 c =
    let t = c.turns_of-turns.result in
    let fw : SFits w128 t.whole = search rules in
    let ff : SFits w128 t.first = search rules in
    let fs : SFits w128 t.second = search rules in
    let n = c.if-turns-eq0.false in
    let both = line-common (place_of c.args.a) (place_of c.args.b) (place_of c.args.c) (place_of c.args.d) t.whole t.first t.second c.turns_of-turns.ensures (omega (arith, ints))
    (c.boxes_overlap.ensures.0 c.if-not-boxes_overlap.false) in
    (λ h. let z = nought t.first ff h in absurd (n (omega (arith, ints))), λ h. is_nought t.first ((both.0 h).0))
