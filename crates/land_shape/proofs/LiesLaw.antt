use Rattle.std.proofs.Common.{◌≡◌, ◌↔◌, true, arith, refl, sym, int_le}
use Rattle.std.proofs.lemmas.Int.{ints, clamps}
use Rattle.std.proofs.lemmas.Bool.Decides.{Decides-int_eq}
use Rattle.std.specs.Int.{int_min, int_max}
use Rattle.std.proofs.lemmas.Bool.{and_from}
use lib.IntN.{ℤ, pos, ◌-ℤ◌}
use lib.Signed.{le_z}
use Rattle.land_shape.specs.Coordinate.{cross_of}
use Rattle.land_shape.specs.Turns.{Overlap}
use Rattle.land_shape.specs.Matching.{is_between, is_on_line, is_in_box, LiesLaw}
use Rattle.land_shape.proofs.Expressions.{var, num, ◌⊖◌, ◌⊗◌, by_parts, parts_eq}
use Rattle.land_shape.proofs.Meeting.{line-common, common-boxes, cross_expr}
use Rattle.land_shape.proofs.MatchingLaw.{and_left, and_right}

no_turn : (x y a b : ℤ) → cross_of x y (a -ℤ a) (b -ℤ b) ≡ pos 0
no_turn x y a b =
    by_parts (var x ⊗ (var b ⊖ var b) ⊖ var y ⊗ (var a ⊖ var a)) (num 0) (omega arith)

turn_over : (ux uy wx wy : ℤ) → cross_of ux uy wx wy ≡ pos 0 → cross_of wx wy ux uy ≡ pos 0
turn_over ux uy wx wy h =
    by_parts (cross_expr (var wx) (var wy) (var ux) (var uy)) (num 0) (omega (arith, parts_eq (cross_expr (var ux) (var uy) (var wx) (var wy)) (num 0) h))

pub in_box : (a b x : ℤ) → is_between a b x ≡ true ↔ Overlap a b x x
in_box a b x = (
  λ h. let l = and_left (int_le (int_min a b) x) (int_le x (int_max a b)) h in let g = and_right (int_le (int_min a b) x) (int_le x (int_max a b)) h in
      record { low = omega (arith, ints, clamps); high = omega (arith, ints, clamps) },
  λ o. let l = o.low in let g = o.high in and_from (int_le (int_min a b) x) (int_le x (int_max a b)) (sym (omega (arith, ints, clamps))) (sym (omega (arith, ints, clamps))),
)

pub lies_law : LiesLaw
lies_law p e =
    let a = e.from in let b = e.to in
    let turn = cross_of (b.x -ℤ a.x) (b.y -ℤ a.y) (p.x -ℤ a.x) (p.y -ℤ a.y) in
    let over = cross_of (p.x -ℤ a.x) (p.y -ℤ a.y) (b.x -ℤ a.x) (b.y -ℤ a.y) in
    let line = line-common a b p p (pos 0) (pos 0) over
    (record { whole_is = sym (no_turn (b.x -ℤ a.x) (b.y -ℤ a.y) p.x p.y); first_is = sym (no_turn (p.x -ℤ a.x) (p.y -ℤ a.y) p.x p.y); second_is = refl }) refl in (
      λ t. let on = (Decides-int_eq turn (pos 0)).0 (and_left (is_on_line p e) (is_in_box p e) t) in
          let box = and_right (is_on_line p e) (is_in_box p e) t in
          (line ((in_box a.x b.x p.x).0 (and_left (is_between a.x b.x p.x) (is_between a.y b.y p.y) box), (in_box a.y b.y p.y).0 (and_right (is_between a.x b.x p.x) (is_between a.y b.y p.y) box))).1
          (refl, turn_over (b.x -ℤ a.x) (b.y -ℤ a.y) (p.x -ℤ a.x) (p.y -ℤ a.y) on),
      λ h. let boxes = common-boxes a b p p h in
          let l = (line boxes).0 h in
          and_from (is_on_line p e) (is_in_box p e) ((Decides-int_eq turn (pos 0)).1 (turn_over (p.x -ℤ a.x) (p.y -ℤ a.y) (b.x -ℤ a.x) (b.y -ℤ a.y) l.1))
          (and_from (is_between a.x b.x p.x) (is_between a.y b.y p.y) ((in_box a.x b.x p.x).1 boxes.0) ((in_box a.y b.y p.y).1 boxes.1)),
    )
