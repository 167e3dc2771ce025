-- Lemmas: two closed segments have a common point if and only if the signs of three cross products, and for
-- segments on one line the overlap of their boxes, imply it. The segments are u and v, and w is the vector
-- from the start of the first to the start of the second.
use Rattle.std.proofs.Common.{◌≡◌, ◌↔◌, ℕ, ◌+◌, ◌*◌, ◌-◌, ◌≤◌, ◌<◌, ◌⊎◌, inl, inr, arith, refl, sym, ◌∙◌, ap}
use Rattle.std.proofs.lemmas.Int.{ints, clamps, by_lt_z}
use Rattle.std.specs.Int.{int_min, int_max}
use Rattle.std.proofs.Math.Nat.{mul-le-mul_left, le_of_mul-le-mul_left}
use lib.IntN.{ℤ, pos, ◌+ℤ◌, ◌-ℤ◌, ◌*ℤ◌, nat_abs}
use lib.Signed.{◌≤ℤ◌, ◌<ℤ◌, pos-nat_abs, yes_non_neg}
use borrow.Author.Differences.{up, down}
use Rattle.land_shape.specs.Coordinate.{cross_of}
use Rattle.land_shape.specs.Segment.{HaveCommonPoint, along}
use Rattle.land_shape.specs.Turns.{Overlap, BoxesOverlap, AreInside, AreTurns}
use Rattle.land_shape.specs.Place.{Place}
use Rattle.land_shape.proofs.Expressions.{Expr, var, num, ◌⊕◌, ◌⊖◌, ◌⊗◌, upper, lower, by_parts, parts_eq}

abbrev pub cross_expr : Expr → Expr → Expr → Expr → Expr
cross_expr px py qx qy = px ⊗ qy ⊖ py ⊗ qx

-- a common point, seen from the start of the first segment
pub record Meets (ux uy vx vy wx wy : ℤ) : Type 0 where
  pub q : ℕ
  pub s : ℕ
  pub r : ℕ
  pub positive : 1 ≤ q
  pub on_first : s ≤ q
  pub on_second : r ≤ q
  pub same_x : pos s *ℤ ux ≡ pos q *ℤ wx +ℤ pos r *ℤ vx
  pub same_y : pos s *ℤ uy ≡ pos q *ℤ wy +ℤ pos r *ℤ vy

-- ---- from a common point to the signs

pub first_ratio : (ux uy vx vy wx wy : ℤ) (m : Meets ux uy vx vy wx wy) → pos m.s *ℤ cross_of ux uy vx vy ≡ pos m.q *ℤ cross_of wx wy vx vy
first_ratio ux uy vx vy wx wy m =
    let s = num m.s in let r = num m.r in let q = num m.q in
    let a = var ux in let b = var uy in let c = var vx in let d = var vy in let e = var wx in let f = var wy in
    let hx : (pos m.s *ℤ ux) *ℤ vy ≡ (pos m.q *ℤ wx +ℤ pos m.r *ℤ vx) *ℤ vy = ap (λ (t : ℤ). t *ℤ vy) m.same_x in
    let hy : (pos m.s *ℤ uy) *ℤ vx ≡ (pos m.q *ℤ wy +ℤ pos m.r *ℤ vy) *ℤ vx = ap (λ (t : ℤ). t *ℤ vx) m.same_y in
    by_parts (s ⊗ cross_expr a b c d) (q ⊗ cross_expr e f c d)
    (omega (arith, parts_eq (s ⊗ a ⊗ d) ((q ⊗ e ⊕ r ⊗ c) ⊗ d) hx, parts_eq (s ⊗ b ⊗ c) ((q ⊗ f ⊕ r ⊗ d) ⊗ c) hy))

second_ratio : (ux uy vx vy wx wy : ℤ) (m : Meets ux uy vx vy wx wy) → pos m.r *ℤ cross_of ux uy vx vy ≡ pos m.q *ℤ cross_of wx wy ux uy
second_ratio ux uy vx vy wx wy m =
    let s = num m.s in let r = num m.r in let q = num m.q in
    let a = var ux in let b = var uy in let c = var vx in let d = var vy in let e = var wx in let f = var wy in
    let hx : (pos m.s *ℤ ux) *ℤ uy ≡ (pos m.q *ℤ wx +ℤ pos m.r *ℤ vx) *ℤ uy = ap (λ (t : ℤ). t *ℤ uy) m.same_x in
    let hy : (pos m.s *ℤ uy) *ℤ ux ≡ (pos m.q *ℤ wy +ℤ pos m.r *ℤ vy) *ℤ ux = ap (λ (t : ℤ). t *ℤ ux) m.same_y in
    by_parts (r ⊗ cross_expr a b c d) (q ⊗ cross_expr e f a b)
    (omega (arith, parts_eq (s ⊗ a ⊗ b) ((q ⊗ e ⊕ r ⊗ c) ⊗ b) hx, parts_eq (s ⊗ b ⊗ a) ((q ⊗ f ⊕ r ⊗ d) ⊗ a) hy))

pub times : (k m n : ℕ) → m ≤ n → k * m ≤ k * n
times k m n h = mul-le-mul_left k h

-- the same on the parts of the numbers, as natural numbers
not_below : (q s ud dd ux dx : ℕ) → 1 ≤ q → dd < ud → s * ud + q * dx ≡ q * ux + s * dd → ux < dx → ⊥
not_below q s ud dd ux dx one hd e h =
    omega (arith, times s dd ud (omega arith), times q (ux + 1) dx (omega arith))

not_above : (q s t ud dd ux dx : ℕ) → 1 ≤ q → q ≡ s + t → dd < ud → s * ud + q * dx ≡ q * ux + s * dd → ud + dx < ux + dd → ⊥
not_above q s t ud dd ux dx one eq hd e h =
    let e1 : q * ud ≡ (s + t) * ud = ap (λ (k : ℕ). k * ud) eq in
    let e2 : q * dd ≡ (s + t) * dd = ap (λ (k : ℕ). k * dd) eq in
    omega (arith, times t dd ud (omega arith), times q (ud + dx + 1) (ux + dd) (omega arith))

-- s/q of a positive number lies between 0 and that number
ratio_within : (q s : ℕ) (d x : ℤ) → 1 ≤ q → s ≤ q → pos 0 <ℤ d → pos s *ℤ d ≡ pos q *ℤ x → (pos 0 ≤ℤ x) × (x ≤ℤ d)
ratio_within q s d x one le hd e =
    let h : upper (num s ⊗ var d) + lower (num q ⊗ var x) ≡ upper (num q ⊗ var x) + lower (num s ⊗ var d)
    = parts_eq (num s ⊗ var d) (num q ⊗ var x) e in
    let g : s * up d + q * down x ≡ q * up x + s * down d = omega arith in
    let p : down d < up d = omega (arith, ints) in (
      by_lt_z x (pos 0) (λ below. absurd (not_below q s (up d) (down d) (up x) (down x) one p g (omega (arith, ints)))) (λ at. at),
      by_lt_z d x (λ above. absurd (not_above q s (q - s) (up d) (down d) (up x) (down x) one (omega arith) p g (omega (arith, ints)))) (λ at. at),
    )

le_or_lt : (m n : ℕ) → (m ≤ n) ⊎ (n < m)
le_or_lt m n = grind arith

-- no place on a segment from 0 to u is one on a segment from w to w + v that lies wholly above it
apart_parts : (q s s' r r' uu du uv dv uw dw : ℕ) → 1 ≤ q → q ≡ s + s' → q ≡ r + r'
    → s * uu + (q * dw + r * dv) ≡ (q * uw + r * uv) + s * du
    → dw < uw → uu + dw < uw + du → dw + dv < uw + uv → uu + dw + dv < uw + uv + du → ⊥
apart_parts q s s' r r' uu du uv dv uw dw one hs hr e h1 h2 h3 h4 =
    let e1 : q * uw ≡ (r + r') * uw = ap (λ (k : ℕ). k * uw) hr in
    let e2 : q * dw ≡ (r + r') * dw = ap (λ (k : ℕ). k * dw) hr in
    let e3 : q * uu ≡ (r + r') * uu = ap (λ (k : ℕ). k * uu) hr in
    let e4 : q * du ≡ (r + r') * du = ap (λ (k : ℕ). k * du) hr in
    let e5 : q * uu ≡ (s + s') * uu = ap (λ (k : ℕ). k * uu) hs in
    let e6 : q * du ≡ (s + s') * du = ap (λ (k : ℕ). k * du) hs in
    elim (le_or_lt uu du) [
      | inl k ↦ omega (arith, times s uu du k, times r' (dw + 1) uw (omega arith), times r (dw + dv + 1) (uw + uv) (omega arith))
      | inr k ↦ omega (arith, times s' du uu (omega arith), times r' (uu + dw + 1) (uw + du) (omega arith), times r (uu + dw + dv + 1) (uw + uv + du) (omega arith))
    ]

apart : (q s r : ℕ) (u v w : ℤ) → 1 ≤ q → s ≤ q → r ≤ q → pos s *ℤ u ≡ pos q *ℤ w +ℤ pos r *ℤ v
    → pos 0 <ℤ w → u <ℤ w → pos 0 <ℤ (w +ℤ v) → u <ℤ (w +ℤ v) → ⊥
apart q s r u v w one ls lr e h1 h2 h3 h4 =
    let h = parts_eq (num s ⊗ var u) (num q ⊗ var w ⊕ num r ⊗ var v) e in
    apart_parts q s (q - s) r (q - r) (up u) (down u) (up v) (down v) (up w) (down w) one (omega arith) (omega arith) (omega arith)
    (omega (arith, ints)) (omega (arith, ints)) (omega (arith, ints)) (omega (arith, ints))

-- on one axis, the segment from 0 to u and that from w to w + v overlap
pub record ShiftedOverlap (u v w : ℤ) : Type 0 where
  pub low : int_min w (w +ℤ v) ≤ℤ int_max (pos 0) u
  pub high : int_min (pos 0) u ≤ℤ int_max w (w +ℤ v)

neg_meets : (ux uy vx vy wx wy : ℤ)
    → Meets (pos 0 -ℤ ux) (pos 0 -ℤ uy) (pos 0 -ℤ vx) (pos 0 -ℤ vy) (pos 0 -ℤ wx) (pos 0 -ℤ wy) → Meets ux uy vx vy wx wy
neg_meets ux uy vx vy wx wy m =
    let s = num m.s in let r = num m.r in let q = num m.q in let o = num 0 in
    let a = var ux in let b = var uy in let c = var vx in let d = var vy in let e = var wx in let f = var wy in
    record {
      q = m.q;
      s = m.s;
      r = m.r;
      positive = m.positive;
      on_first = m.on_first;
      on_second = m.on_second;
      same_x = by_parts (s ⊗ a) (q ⊗ e ⊕ r ⊗ c) (omega (arith, parts_eq (s ⊗ (o ⊖ a)) (q ⊗ (o ⊖ e) ⊕ r ⊗ (o ⊖ c)) m.same_x));
      same_y = by_parts (s ⊗ b) (q ⊗ f ⊕ r ⊗ d) (omega (arith, parts_eq (s ⊗ (o ⊖ b)) (q ⊗ (o ⊖ f) ⊕ r ⊗ (o ⊖ d)) m.same_y));
    }

pub swap_meets : (ux uy vx vy wx wy : ℤ) → Meets uy ux vy vx wy wx → Meets ux uy vx vy wx wy
swap_meets ux uy vx vy wx wy m =
    record { q = m.q; s = m.s; r = m.r; positive = m.positive; on_first = m.on_first; on_second = m.on_second; same_x = m.same_y; same_y = m.same_x }

-- the overlap of the boxes of two segments with a common point
low_overlap : (ux uy vx vy wx wy : ℤ) → Meets ux uy vx vy wx wy → int_min wx (wx +ℤ vx) ≤ℤ int_max (pos 0) ux
low_overlap ux uy vx vy wx wy m =
    by_lt_z (int_max (pos 0) ux) (int_min wx (wx +ℤ vx))
    (λ h. absurd (apart m.q m.s m.r ux vx wx m.positive m.on_first m.on_second m.same_x
    (omega (arith, ints, clamps)) (omega (arith, ints, clamps)) (omega (arith, ints, clamps)) (omega (arith, ints, clamps))))
    (λ h. h)

high_overlap : (ux uy vx vy wx wy : ℤ) → Meets ux uy vx vy wx wy → int_min (pos 0) ux ≤ℤ int_max wx (wx +ℤ vx)
high_overlap ux uy vx vy wx wy m =
    by_lt_z (int_max wx (wx +ℤ vx)) (int_min (pos 0) ux)
    (λ h. absurd (apart m.q m.s m.r (pos 0 -ℤ ux) (pos 0 -ℤ vx) (pos 0 -ℤ wx) m.positive m.on_first m.on_second
    (by_parts (num m.s ⊗ (num 0 ⊖ var ux)) (num m.q ⊗ (num 0 ⊖ var wx) ⊕ num m.r ⊗ (num 0 ⊖ var vx))
    (omega (arith, parts_eq (num m.s ⊗ var ux) (num m.q ⊗ var wx ⊕ num m.r ⊗ var vx) m.same_x)))
    (omega (arith, ints, clamps)) (omega (arith, ints, clamps)) (omega (arith, ints, clamps)) (omega (arith, ints, clamps))))
    (λ h. h)

pub meets-overlap : (ux uy vx vy wx wy : ℤ) → Meets ux uy vx vy wx wy → ShiftedOverlap ux vx wx
meets-overlap ux uy vx vy wx wy m = record { low = low_overlap ux uy vx vy wx wy m; high = high_overlap ux uy vx vy wx wy m }

-- ---- from the signs to a common point

pub nat_of : (z : ℤ) → pos 0 ≤ℤ z → pos (nat_abs z) ≡ z
nat_of z h = pos-nat_abs z (yes_non_neg h)

-- the lines cross, and the second points to the left of the first
crossing : (ux uy vx vy wx wy : ℤ) → pos 0 <ℤ cross_of ux uy vx vy
    → pos 0 ≤ℤ cross_of wx wy vx vy → cross_of wx wy vx vy ≤ℤ cross_of ux uy vx vy
    → pos 0 ≤ℤ cross_of wx wy ux uy → cross_of wx wy ux uy ≤ℤ cross_of ux uy vx vy
    → Meets ux uy vx vy wx wy
crossing ux uy vx vy wx wy hd hs hs' hr hr' =
    let ed = nat_of (cross_of ux uy vx vy) (omega (arith, ints)) in
    let es = nat_of (cross_of wx wy vx vy) hs in
    let er = nat_of (cross_of wx wy ux uy) hr in
    let a = var ux in let b = var uy in let c = var vx in let d = var vy in let e = var wx in let f = var wy in
    record {
      q = nat_abs (cross_of ux uy vx vy);
      s = nat_abs (cross_of wx wy vx vy);
      r = nat_abs (cross_of wx wy ux uy);
      positive = omega (arith, ints);
      on_first = omega (arith, ints);
      on_second = omega (arith, ints);
      same_x = rw (ed, es, er) (by_parts (cross_expr e f c d ⊗ a) (cross_expr a b c d ⊗ e ⊕ cross_expr e f a b ⊗ c) (omega arith));
      same_y = rw (ed, es, er) (by_parts (cross_expr e f c d ⊗ b) (cross_expr a b c d ⊗ f ⊕ cross_expr e f a b ⊗ d) (omega arith));
    }

-- On one line, the first running in the positive direction of the x-axis: the start of the second lies on the
-- first,
start_on : (ux uy vx vy wx wy : ℤ) → pos 0 <ℤ ux → pos 0 ≤ℤ wx → wx ≤ℤ ux → cross_of wx wy ux uy ≡ pos 0 → Meets ux uy vx vy wx wy
start_on ux uy vx vy wx wy hu hw hw' r0 =
    let eu = nat_of ux (omega (arith, ints)) in
    let ew = nat_of wx hw in
    let a = var ux in let b = var uy in let c = var vx in let d = var vy in let e = var wx in let f = var wy in
    record {
      q = nat_abs ux;
      s = nat_abs wx;
      r = 0;
      positive = omega (arith, ints);
      on_first = omega (arith, ints);
      on_second = omega arith;
      same_x = rw (eu, ew) (by_parts (e ⊗ a) (a ⊗ e ⊕ num 0 ⊗ c) (omega arith));
      same_y = rw (eu, ew) (by_parts (e ⊗ b) (a ⊗ f ⊕ num 0 ⊗ d) (omega (arith, parts_eq (cross_expr e f a b) (num 0) r0)));
    }

-- or its end does,
end_on : (ux uy vx vy wx wy : ℤ) → pos 0 <ℤ ux → pos 0 ≤ℤ (wx +ℤ vx) → (wx +ℤ vx) ≤ℤ ux
    → cross_of ux uy vx vy ≡ pos 0 → cross_of wx wy ux uy ≡ pos 0 → Meets ux uy vx vy wx wy
end_on ux uy vx vy wx wy hu hw hw' d0 r0 =
    let eu = nat_of ux (omega (arith, ints)) in
    let ew = nat_of (wx +ℤ vx) hw in
    let a = var ux in let b = var uy in let c = var vx in let d = var vy in let e = var wx in let f = var wy in
    record {
      q = nat_abs ux;
      s = nat_abs (wx +ℤ vx);
      r = nat_abs ux;
      positive = omega (arith, ints);
      on_first = omega (arith, ints);
      on_second = omega arith;
      same_x = rw (eu, ew) (by_parts ((e ⊕ c) ⊗ a) (a ⊗ e ⊕ a ⊗ c) (omega arith));
      same_y = rw (eu, ew) (by_parts ((e ⊕ c) ⊗ b) (a ⊗ f ⊕ a ⊗ d)
          (omega (arith, parts_eq (cross_expr e f a b) (num 0) r0, parts_eq (cross_expr a b c d) (num 0) d0)));
    }

-- or the start of the first lies on the second, which runs in the positive direction.
start_within : (ux uy vx vy wx wy : ℤ) → pos 0 <ℤ vx → wx ≤ℤ pos 0 → pos 0 ≤ℤ (wx +ℤ vx) → cross_of wx wy vx vy ≡ pos 0 → Meets ux uy vx vy wx wy
start_within ux uy vx vy wx wy hv hw hw' s0 =
    let ev = nat_of vx (omega (arith, ints)) in
    let ew = nat_of (pos 0 -ℤ wx) (omega (arith, ints)) in
    let a = var ux in let b = var uy in let c = var vx in let d = var vy in let e = var wx in let f = var wy in let o = num 0 in
    record {
      q = nat_abs vx;
      s = 0;
      r = nat_abs (pos 0 -ℤ wx);
      positive = omega (arith, ints);
      on_first = omega arith;
      on_second = omega (arith, ints);
      same_x = rw (ev, ew) (by_parts (o ⊗ a) (c ⊗ e ⊕ (o ⊖ e) ⊗ c) (omega arith));
      same_y = rw (ev, ew) (by_parts (o ⊗ b) (c ⊗ f ⊕ (o ⊖ e) ⊗ d) (omega (arith, parts_eq (cross_expr e f c d) (num 0) s0)));
    }

-- the segments lie on one line
pub record OnOneLine (ux uy vx vy wx wy : ℤ) : Type 0 where
  pub along_both : cross_of ux uy vx vy ≡ pos 0
  pub from_first : cross_of wx wy ux uy ≡ pos 0
  pub from_second : cross_of wx wy vx vy ≡ pos 0

neg_line : (ux uy vx vy wx wy : ℤ) → OnOneLine ux uy vx vy wx wy
    → OnOneLine (pos 0 -ℤ ux) (pos 0 -ℤ uy) (pos 0 -ℤ vx) (pos 0 -ℤ vy) (pos 0 -ℤ wx) (pos 0 -ℤ wy)
neg_line ux uy vx vy wx wy h =
    let a = var ux in let b = var uy in let c = var vx in let d = var vy in let e = var wx in let f = var wy in let o = num 0 in
    record {
      along_both = by_parts (cross_expr (o ⊖ a) (o ⊖ b) (o ⊖ c) (o ⊖ d)) o (omega (arith, parts_eq (cross_expr a b c d) o h.along_both));
      from_first = by_parts (cross_expr (o ⊖ e) (o ⊖ f) (o ⊖ a) (o ⊖ b)) o (omega (arith, parts_eq (cross_expr e f a b) o h.from_first));
      from_second = by_parts (cross_expr (o ⊖ e) (o ⊖ f) (o ⊖ c) (o ⊖ d)) o (omega (arith, parts_eq (cross_expr e f c d) o h.from_second));
    }

pub swap_line : (ux uy vx vy wx wy : ℤ) → OnOneLine ux uy vx vy wx wy → OnOneLine uy ux vy vx wy wx
swap_line ux uy vx vy wx wy h =
    let a = var ux in let b = var uy in let c = var vx in let d = var vy in let e = var wx in let f = var wy in let o = num 0 in
    record {
      along_both = by_parts (cross_expr b a d c) o (omega (arith, parts_eq (cross_expr a b c d) o h.along_both));
      from_first = by_parts (cross_expr f e b a) o (omega (arith, parts_eq (cross_expr e f a b) o h.from_first));
      from_second = by_parts (cross_expr f e d c) o (omega (arith, parts_eq (cross_expr e f c d) o h.from_second));
    }

neg_overlap : (u v w : ℤ) → ShiftedOverlap u v w → ShiftedOverlap (pos 0 -ℤ u) (pos 0 -ℤ v) (pos 0 -ℤ w)
neg_overlap u v w h =
    let l = h.low in let g = h.high in
    record { low = omega (arith, ints, clamps); high = omega (arith, ints, clamps) }

-- the second segment runs in the positive direction across 0
across : (ux uy vx vy wx wy : ℤ) → OnOneLine ux uy vx vy wx wy → wx ≤ℤ pos 0 → pos 0 ≤ℤ (wx +ℤ vx) → pos 0 <ℤ vx → Meets ux uy vx vy wx wy
across ux uy vx vy wx wy line h k hv = start_within ux uy vx vy wx wy hv h k line.from_second

across_back : (ux uy vx vy wx wy : ℤ) → OnOneLine ux uy vx vy wx wy → pos 0 ≤ℤ wx → (wx +ℤ vx) ≤ℤ pos 0 → vx <ℤ pos 0 → Meets ux uy vx vy wx wy
across_back ux uy vx vy wx wy line h k hv =
    neg_meets ux uy vx vy wx wy (across _ _ _ _ _ _ (neg_line ux uy vx vy wx wy line) (omega (arith, ints)) (omega (arith, ints)) (omega (arith, ints)))

-- the first runs in the positive direction
forward : (ux uy vx vy wx wy : ℤ) → pos 0 <ℤ ux → OnOneLine ux uy vx vy wx wy → ShiftedOverlap ux vx wx → Meets ux uy vx vy wx wy
forward ux uy vx vy wx wy hu line o =
    let l = o.low in let g = o.high in
    by_lt_z wx (pos 0)
    (λ below. by_lt_z ux (wx +ℤ vx)
    (λ past. across ux uy vx vy wx wy line (omega (arith, ints)) (omega (arith, ints)) (omega (arith, ints)))
    (λ within. end_on ux uy vx vy wx wy hu (omega (arith, ints, clamps)) within line.along_both line.from_first))
    (λ at. by_lt_z ux wx
    (λ past. by_lt_z (wx +ℤ vx) (pos 0)
    (λ before. across_back ux uy vx vy wx wy line at (omega (arith, ints)) (omega (arith, ints)))
    (λ after. end_on ux uy vx vy wx wy hu after (omega (arith, ints, clamps)) line.along_both line.from_first))
    (λ within. start_on ux uy vx vy wx wy hu at within line.from_first))

-- on one line, segments that overlap on an axis have a common point, or they are one point on that axis
on_axis : (ux uy vx vy wx wy : ℤ) → OnOneLine ux uy vx vy wx wy → ShiftedOverlap ux vx wx
    → ((ux ≡ pos 0) × (vx ≡ pos 0) × (wx ≡ pos 0)) ⊎ Meets ux uy vx vy wx wy
on_axis ux uy vx vy wx wy line o =
    let l = o.low in let g = o.high in
    by_lt_z (pos 0) ux (λ hu. inr (forward ux uy vx vy wx wy hu line o))
    (λ not_pos. by_lt_z ux (pos 0)
    (λ hu. inr (neg_meets ux uy vx vy wx wy (forward _ _ _ _ _ _ (omega (arith, ints)) (neg_line ux uy vx vy wx wy line) (neg_overlap ux vx wx o))))
    (λ not_neg. by_lt_z (pos 0) vx
    (λ hv. inr (across ux uy vx vy wx wy line (omega (arith, ints, clamps)) (omega (arith, ints, clamps)) hv))
    (λ v_not_pos. by_lt_z vx (pos 0)
    (λ hv. inr (across_back ux uy vx vy wx wy line (omega (arith, ints, clamps)) (omega (arith, ints, clamps)) hv))
    (λ v_not_neg. inl (omega (arith, ints), omega (arith, ints), omega (arith, ints, clamps))))))

one_point : (ux uy vx vy wx wy : ℤ) → (ux ≡ pos 0) × (vx ≡ pos 0) × (wx ≡ pos 0) → (uy ≡ pos 0) × (vy ≡ pos 0) × (wy ≡ pos 0) → Meets ux uy vx vy wx wy
one_point ux uy vx vy wx wy hx hy =
    record {
      q = 1;
      s = 0;
      r = 0;
      positive = omega arith;
      on_first = omega arith;
      on_second = omega arith;
      same_x = rw (hx.0, hx.1, hx.2) refl;
      same_y = rw (hy.0, hy.1, hy.2) refl;
    }

pub line-meets : (ux uy vx vy wx wy : ℤ) → OnOneLine ux uy vx vy wx wy → ShiftedOverlap ux vx wx → ShiftedOverlap uy vy wy → Meets ux uy vx vy wx wy
line-meets ux uy vx vy wx wy line ox oy =
    elim (on_axis ux uy vx vy wx wy line ox) [
      | inr m ↦ m
      | inl zx ↦ elim (on_axis uy ux vy vx wy wx (swap_line ux uy vx vy wx wy line) oy) [
        | inr m ↦ swap_meets ux uy vx vy wx wy m
        | inl zy ↦ one_point ux uy vx vy wx wy zx zy
      ]
    ]

-- ---- both ways

zero_ratio : (q s : ℕ) (d x : ℤ) → 1 ≤ q → d ≡ pos 0 → pos s *ℤ d ≡ pos q *ℤ x → x ≡ pos 0
zero_ratio q s d x one zero e =
    let h : upper (num s ⊗ var (pos 0)) + lower (num q ⊗ var x) ≡ upper (num q ⊗ var x) + lower (num s ⊗ var (pos 0))
    = parts_eq (num s ⊗ var (pos 0)) (num q ⊗ var x) (rw zero at e) in
    let below : up x ≤ down x = le_of_mul-le-mul_left (let g : q * up x ≤ q * down x = omega arith in g) one in
    let above : down x ≤ up x = le_of_mul-le-mul_left (let g : q * down x ≤ q * up x = omega arith in g) one in
    omega (arith, ints)

pub meets-line : (ux uy vx vy wx wy : ℤ) → cross_of ux uy vx vy ≡ pos 0 → Meets ux uy vx vy wx wy → OnOneLine ux uy vx vy wx wy
meets-line ux uy vx vy wx wy zero m = record {
  along_both = zero;
  from_first = zero_ratio m.q m.r _ _ m.positive zero (second_ratio ux uy vx vy wx wy m);
  from_second = zero_ratio m.q m.s _ _ m.positive zero (first_ratio ux uy vx vy wx wy m);
}

-- the lines cross inside both segments, if the second points to the left of the first
pub record CrossInside (d s r : ℤ) : Type 0 where
  pub first_from : pos 0 ≤ℤ s
  pub first_to : s ≤ℤ d
  pub second_from : pos 0 ≤ℤ r
  pub second_to : r ≤ℤ d

meets-left : (ux uy vx vy wx wy : ℤ) → pos 0 <ℤ cross_of ux uy vx vy → Meets ux uy vx vy wx wy
    → CrossInside (cross_of ux uy vx vy) (cross_of wx wy vx vy) (cross_of wx wy ux uy)
meets-left ux uy vx vy wx wy hd m =
    let first = ratio_within m.q m.s _ _ m.positive m.on_first hd (first_ratio ux uy vx vy wx wy m) in
    let second = ratio_within m.q m.r _ _ m.positive m.on_second hd (second_ratio ux uy vx vy wx wy m) in
    record { first_from = first.0; first_to = first.1; second_from = second.0; second_to = second.1 }

pub left-meets : (ux uy vx vy wx wy : ℤ) → pos 0 <ℤ cross_of ux uy vx vy
    → Meets ux uy vx vy wx wy ↔ CrossInside (cross_of ux uy vx vy) (cross_of wx wy vx vy) (cross_of wx wy ux uy)
left-meets ux uy vx vy wx wy hd = (
  meets-left ux uy vx vy wx wy hd,
  λ h. crossing ux uy vx vy wx wy hd h.first_from h.first_to h.second_from h.second_to,
)

-- with the axes exchanged each cross product changes its sign
turned : (px py qx qy : ℤ) → cross_of py px qy qx ≡ pos 0 -ℤ cross_of px py qx qy
turned px py qx qy =
    let a = var px in let b = var py in let c = var qx in let d = var qy in
    by_parts (cross_expr b a d c) (num 0 ⊖ cross_expr a b c d) (omega arith)

pub right-meets : (ux uy vx vy wx wy : ℤ) → cross_of ux uy vx vy <ℤ pos 0
    → Meets ux uy vx vy wx wy ↔ CrossInside (pos 0 -ℤ cross_of ux uy vx vy) (pos 0 -ℤ cross_of wx wy vx vy) (pos 0 -ℤ cross_of wx wy ux uy)
right-meets ux uy vx vy wx wy hd =
    let hd' : pos 0 <ℤ cross_of uy ux vy vx = rw (turned ux uy vx vy) (omega (arith, ints)) in
    let both = left-meets uy ux vy vx wy wx hd' in (
      λ m. rw (turned ux uy vx vy, turned wx wy vx vy, turned wx wy ux uy) at both.0 (swap_meets uy ux vy vx wy wx m),
      λ h. swap_meets ux uy vx vy wx wy (both.1 (rw (turned ux uy vx vy, turned wx wy vx vy, turned wx wy ux uy) h)),
    )

-- ---- for points

abbrev AtPoints : Place → Place → Place → Place → Type 0
AtPoints a b c d = Meets (b.x -ℤ a.x) (b.y -ℤ a.y) (d.x -ℤ c.x) (d.y -ℤ c.y) (c.x -ℤ a.x) (c.y -ℤ a.y)

pub along_shift : (q s r : ℕ) (a b c d : ℤ) → along q s a b ≡ along q r c d → pos s *ℤ (b -ℤ a) ≡ pos q *ℤ (c -ℤ a) +ℤ pos r *ℤ (d -ℤ c)
along_shift q s r a b c d h =
    let a = var a in let b = var b in let c = var c in let d = var d in let q = num q in let s = num s in let r = num r in
    by_parts (s ⊗ (b ⊖ a)) (q ⊗ (c ⊖ a) ⊕ r ⊗ (d ⊖ c)) (omega (arith, parts_eq (q ⊗ a ⊕ s ⊗ (b ⊖ a)) (q ⊗ c ⊕ r ⊗ (d ⊖ c)) h))

pub along_back : (q s r : ℕ) (a b c d : ℤ) → pos s *ℤ (b -ℤ a) ≡ pos q *ℤ (c -ℤ a) +ℤ pos r *ℤ (d -ℤ c) → along q s a b ≡ along q r c d
along_back q s r a b c d h =
    let a = var a in let b = var b in let c = var c in let d = var d in let q = num q in let s = num s in let r = num r in
    by_parts (q ⊗ a ⊕ s ⊗ (b ⊖ a)) (q ⊗ c ⊕ r ⊗ (d ⊖ c)) (omega (arith, parts_eq (s ⊗ (b ⊖ a)) (q ⊗ (c ⊖ a) ⊕ r ⊗ (d ⊖ c)) h))

meets_of_common : (a b c d : Place) → HaveCommonPoint a b c d → AtPoints a b c d
meets_of_common a b c d h = let o = h.one in record {
  q = h.q;
  s = h.s;
  r = h.r;
  positive = o.positive;
  on_first = o.on_first;
  on_second = o.on_second;
  same_x = along_shift h.q h.s h.r a.x b.x c.x d.x o.same_x;
  same_y = along_shift h.q h.s h.r a.y b.y c.y d.y o.same_y;
}

common_of_meets : (a b c d : Place) → AtPoints a b c d → HaveCommonPoint a b c d
common_of_meets a b c d h = record {
  q = h.q;
  s = h.s;
  r = h.r;
  one = record {
    positive = h.positive;
    on_first = h.on_first;
    on_second = h.on_second;
    same_x = along_back h.q h.s h.r a.x b.x c.x d.x h.same_x;
    same_y = along_back h.q h.s h.r a.y b.y c.y d.y h.same_y;
  };
}

-- if the lines cross
pub left-common : (a b c d : Place) (whole first second : ℤ) → AreTurns a b c d whole first second → pos 0 <ℤ whole
    → HaveCommonPoint a b c d ↔ AreInside (pos 0) whole first second
left-common a b c d whole first second t left =
    let both = left-meets _ _ _ _ _ _ (rw t.whole_is at left) in (
      λ h. let i = both.0 (meets_of_common a b c d h) in
          rw (t.whole_is, t.first_is, t.second_is)
          (record { first_from = i.first_from; first_to = i.first_to; second_from = i.second_from; second_to = i.second_to }),
      λ h. let i = rw (t.whole_is, t.first_is, t.second_is) at h in
          common_of_meets a b c d (both.1 (record { first_from = i.first_from; first_to = i.first_to; second_from = i.second_from; second_to = i.second_to })),
    )

inside_turned : (low first second : ℤ) → CrossInside (pos 0 -ℤ low) (pos 0 -ℤ first) (pos 0 -ℤ second) ↔ AreInside low (pos 0) first second
inside_turned low first second = (
  λ h. record { first_from = omega (arith, ints, h.first_to); first_to = omega (arith, ints, h.first_from); second_from = omega (arith, ints, h.second_to); second_to = omega (arith, ints, h.second_from) },
  λ h. record { first_from = omega (arith, ints, h.first_to); first_to = omega (arith, ints, h.first_from); second_from = omega (arith, ints, h.second_to); second_to = omega (arith, ints, h.second_from) },
)

pub right-common : (a b c d : Place) (whole first second : ℤ) → AreTurns a b c d whole first second → whole <ℤ pos 0
    → HaveCommonPoint a b c d ↔ AreInside whole (pos 0) first second
right-common a b c d whole first second t right =
    let both = right-meets _ _ _ _ _ _ (rw t.whole_is at right) in (
      λ h. rw (t.whole_is, t.first_is, t.second_is) ((inside_turned _ _ _).0 (both.0 (meets_of_common a b c d h))),
      λ h. let i = rw (t.whole_is, t.first_is, t.second_is) at h in common_of_meets a b c d (both.1 ((inside_turned _ _ _).1 i)),
    )

overlap_back : (a b c d : ℤ) → ShiftedOverlap (b -ℤ a) (d -ℤ c) (c -ℤ a) → Overlap a b c d
overlap_back a b c d h = let l = h.low in let g = h.high in record { low = omega (arith, ints, clamps); high = omega (arith, ints, clamps) }

overlap_shift : (a b c d : ℤ) → Overlap a b c d → ShiftedOverlap (b -ℤ a) (d -ℤ c) (c -ℤ a)
overlap_shift a b c d h = let l = h.low in let g = h.high in record { low = omega (arith, ints, clamps); high = omega (arith, ints, clamps) }

-- segments with a common point have boxes that overlap
pub common-boxes : (a b c d : Place) → HaveCommonPoint a b c d → BoxesOverlap a b c d
common-boxes a b c d h =
    let m = meets_of_common a b c d h in
    (overlap_back a.x b.x c.x d.x (meets-overlap _ _ _ _ _ _ m), overlap_back a.y b.y c.y d.y (meets-overlap _ _ _ _ _ _ (swap_meets _ _ _ _ _ _ m)))

-- if the lines do not cross
pub line-common : (a b c d : Place) (whole first second : ℤ) → AreTurns a b c d whole first second → whole ≡ pos 0 → BoxesOverlap a b c d
    → HaveCommonPoint a b c d ↔ ((first ≡ pos 0) × (second ≡ pos 0))
line-common a b c d whole first second t flat boxes = (
  λ h. let m = meets_of_common a b c d h in
      let line = meets-line _ _ _ _ _ _ (sym t.whole_is ∙ flat) m in
      (t.first_is ∙ line.from_second, t.second_is ∙ line.from_first),
  λ h. common_of_meets a b c d (line-meets _ _ _ _ _ _
      (record { along_both = sym t.whole_is ∙ flat; from_first = sym t.second_is ∙ h.1; from_second = sym t.first_is ∙ h.0 })
      (overlap_shift a.x b.x c.x d.x boxes.0) (overlap_shift a.y b.y c.y d.y boxes.1)),
)
