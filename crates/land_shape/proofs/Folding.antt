-- Lemmas: edges a b and b c have only b in common, unless the second goes back along the first.
use Rattle.std.proofs.Common.{◌≡◌, ◌↔◌, ℕ, ◌+◌, ◌*◌, ◌-◌, ◌≤◌, ◌<◌, ◌⊎◌, inl, inr, arith, sym, ◌∙◌, ap}
use Rattle.std.proofs.lemmas.Int.{ints, by_lt_z}
use lib.IntN.{ℤ, pos, ◌+ℤ◌, ◌-ℤ◌, ◌*ℤ◌, nat_abs}
use lib.Signed.{◌≤ℤ◌, ◌<ℤ◌}
use borrow.Author.Differences.{up, down}
use Rattle.land_shape.specs.Coordinate.{cross_of, dot_of}
use Rattle.land_shape.specs.Place.{Place}
use Rattle.land_shape.specs.Segment.{AreOnePlace, MeetOnlyAt, along}
use Rattle.land_shape.proofs.Expressions.{var, num, ◌⊕◌, ◌⊖◌, ◌⊗◌, by_parts, by_parts_le, by_parts_lt, parts_eq, parts_le, parts_lt}
use Rattle.land_shape.proofs.Meeting.{cross_expr, nat_of, along_shift, along_back, times}

-- the way from the joint back along the first edge and forth along the second is nought
back : (q s r : ℕ) (u v : ℤ) → s ≤ q → pos s *ℤ u ≡ pos q *ℤ u +ℤ pos r *ℤ v → pos (q - s) *ℤ u +ℤ pos r *ℤ v ≡ pos 0
back q s r u v le e =
    let k : ℕ = q - s in
    let split : q ≡ s + k = omega arith in
    let e1 : q * up u ≡ (s + k) * up u = ap (λ (n : ℕ). n * up u) split in
    let e2 : q * down u ≡ (s + k) * down u = ap (λ (n : ℕ). n * down u) split in
    by_parts (num (q - s) ⊗ var u ⊕ num r ⊗ var v) (num 0)
    (omega (arith, parts_eq (num s ⊗ var u) (num q ⊗ var u ⊕ num r ⊗ var v) e))

-- no multiple of a positive number is nought or below but its 0-fold
no_multiple : (k : ℕ) (z : ℤ) → pos 0 <ℤ z → (pos k *ℤ z) ≤ℤ pos 0 → k ≡ 0
no_multiple k z h le =
    let g = parts_le (num k ⊗ var z) (num 0) le in
    omega (arith, times k (down z + 1) (up z) (omega (arith, ints)))

back_cross : (k r : ℕ) (ux uy vx vy : ℤ) → pos k *ℤ ux +ℤ pos r *ℤ vx ≡ pos 0 → pos k *ℤ uy +ℤ pos r *ℤ vy ≡ pos 0
    → pos k *ℤ cross_of ux uy vx vy ≡ pos 0
back_cross k r ux uy vx vy hx hy =
    let a = var ux in let b = var uy in let c = var vx in let d = var vy in
    let ex : (pos k *ℤ ux +ℤ pos r *ℤ vx) *ℤ vy ≡ pos 0 *ℤ vy = ap (λ (t : ℤ). t *ℤ vy) hx in
    let ey : (pos k *ℤ uy +ℤ pos r *ℤ vy) *ℤ vx ≡ pos 0 *ℤ vx = ap (λ (t : ℤ). t *ℤ vx) hy in
    by_parts (num k ⊗ cross_expr a b c d) (num 0)
    (omega (arith, parts_eq ((num k ⊗ a ⊕ num r ⊗ c) ⊗ d) (num 0 ⊗ d) ex, parts_eq ((num k ⊗ b ⊕ num r ⊗ d) ⊗ c) (num 0 ⊗ c) ey))

back_dot : (k r : ℕ) (ux uy vx vy : ℤ) → pos k *ℤ ux +ℤ pos r *ℤ vx ≡ pos 0 → pos k *ℤ uy +ℤ pos r *ℤ vy ≡ pos 0
    → pos k *ℤ dot_of ux uy ux uy +ℤ pos r *ℤ dot_of ux uy vx vy ≡ pos 0
back_dot k r ux uy vx vy hx hy =
    let a = var ux in let b = var uy in let c = var vx in let d = var vy in
    let ex : (pos k *ℤ ux +ℤ pos r *ℤ vx) *ℤ ux ≡ pos 0 *ℤ ux = ap (λ (t : ℤ). t *ℤ ux) hx in
    let ey : (pos k *ℤ uy +ℤ pos r *ℤ vy) *ℤ uy ≡ pos 0 *ℤ uy = ap (λ (t : ℤ). t *ℤ uy) hy in
    by_parts (num k ⊗ (a ⊗ a ⊕ b ⊗ b) ⊕ num r ⊗ (a ⊗ c ⊕ b ⊗ d)) (num 0)
    (omega (arith, parts_eq ((num k ⊗ a ⊕ num r ⊗ c) ⊗ a) (num 0 ⊗ a) ex, parts_eq ((num k ⊗ b ⊕ num r ⊗ d) ⊗ b) (num 0 ⊗ b) ey))

-- a multiple of the square and one of a dot that is not negative
no_square : (k r : ℕ) (square dot : ℤ) → pos 0 <ℤ square → pos 0 ≤ℤ dot → pos k *ℤ square +ℤ pos r *ℤ dot ≡ pos 0 → k ≡ 0
no_square k r square dot h le e =
    let g = parts_eq (num k ⊗ var square ⊕ num r ⊗ var dot) (num 0) e in
    omega (arith, times k (down square + 1) (up square) (omega (arith, ints)), times r (down dot) (up dot) (omega (arith, ints)))

-- if the second edge does not go straight back
stays : (q s r : ℕ) (ux uy vx vy : ℤ) → s ≤ q → pos s *ℤ ux ≡ pos q *ℤ ux +ℤ pos r *ℤ vx → pos s *ℤ uy ≡ pos q *ℤ uy +ℤ pos r *ℤ vy
    → pos 0 <ℤ dot_of ux uy ux uy → (cross_of ux uy vx vy ≡ pos 0 → pos 0 ≤ℤ dot_of ux uy vx vy) → s ≡ q
stays q s r ux uy vx vy le hx hy square ahead =
    let x = back q s r ux vx le hx in
    let y = back q s r uy vy le hy in
    let turn = cross_of ux uy vx vy in
    let e : pos (q - s) *ℤ turn ≡ pos 0 = back_cross (q - s) r ux uy vx vy x y in
    let g = parts_eq (num (q - s) ⊗ var turn) (num 0) e in
    by_lt_z (pos 0) turn
    (λ left. let z = no_multiple (q - s) turn left (omega (arith, ints)) in omega arith)
    (λ l. by_lt_z turn (pos 0)
    (λ right. let z = no_multiple (q - s) (pos 0 -ℤ turn) (omega (arith, ints)) (by_parts_le (num (q - s) ⊗ (num 0 ⊖ var turn)) (num 0) (omega arith)) in omega arith)
    (λ m. let flat : turn ≡ pos 0 = omega (arith, ints) in
    let z = no_square (q - s) r (dot_of ux uy ux uy) (dot_of ux uy vx vy) square (ahead flat) (back_dot (q - s) r ux uy vx vy x y) in omega arith))

at_end : (q s : ℕ) (a b : ℤ) → s ≡ q → along q s a b ≡ pos q *ℤ b
at_end q s a b e = rw e (by_parts (num q ⊗ var a ⊕ num q ⊗ (var b ⊖ var a)) (num q ⊗ var b) (omega arith))

-- The signs of two products determine whether the second edge goes forward or back along the first.
abbrev pub IsAhead : Place → Place → Place → Type 0
IsAhead a b c = cross_of (b.x -ℤ a.x) (b.y -ℤ a.y) (c.x -ℤ b.x) (c.y -ℤ b.y) ≡ pos 0
    → pos 0 ≤ℤ dot_of (b.x -ℤ a.x) (b.y -ℤ a.y) (c.x -ℤ b.x) (c.y -ℤ b.y)

abbrev pub HasManyWords : Place → Place → Type 0
HasManyWords a b = pos 0 <ℤ dot_of (b.x -ℤ a.x) (b.y -ℤ a.y) (b.x -ℤ a.x) (b.y -ℤ a.y)

pub ahead-meets : (a b c : Place) → HasManyWords a b → IsAhead a b c → MeetOnlyAt b a b b c
ahead-meets a b c long ahead =
    let end : (q s r : ℕ) → AreOnePlace q s r a b b c → s ≡ q
    = λ q s r o. stays q s r (b.x -ℤ a.x) (b.y -ℤ a.y) (c.x -ℤ b.x) (c.y -ℤ b.y) o.on_first
    (along_shift q s r a.x b.x b.x c.x o.same_x) (along_shift q s r a.y b.y b.y c.y o.same_y) long ahead in
    record { x_there = λ q s r o. at_end q s a.x b.x (end q s r o); y_there = λ q s r o. at_end q s a.y b.y (end q s r o) }

-- if it goes straight back, a place other than the joint is common
beyond : (ux uy vx vy : ℤ) (square m : ℕ) → pos square ≡ dot_of ux uy ux uy → pos m ≡ pos 0 -ℤ dot_of ux uy vx vy → cross_of ux uy vx vy ≡ pos 0
    → (pos square *ℤ ux ≡ pos (square + m) *ℤ ux +ℤ pos square *ℤ vx) × (pos square *ℤ uy ≡ pos (square + m) *ℤ uy +ℤ pos square *ℤ vy)
beyond ux uy vx vy square m es em flat =
    let a = var ux in let b = var uy in let c = var vx in let d = var vy in
    let long = a ⊗ a ⊕ b ⊗ b in let dot = a ⊗ c ⊕ b ⊗ d in
    let eq : pos (square + m) ≡ dot_of ux uy ux uy -ℤ dot_of ux uy vx vy = omega (arith, ints) in
    let fx : ux *ℤ cross_of ux uy vx vy ≡ ux *ℤ pos 0 = ap (λ (t : ℤ). ux *ℤ t) flat in
    let fy : uy *ℤ cross_of ux uy vx vy ≡ uy *ℤ pos 0 = ap (λ (t : ℤ). uy *ℤ t) flat in (
      rw (eq, es) (by_parts (long ⊗ a) ((long ⊖ dot) ⊗ a ⊕ long ⊗ c) (omega (arith, parts_eq (b ⊗ cross_expr a b c d) (b ⊗ num 0) fy))),
      rw (eq, es) (by_parts (long ⊗ b) ((long ⊖ dot) ⊗ b ⊕ long ⊗ d) (omega (arith, parts_eq (a ⊗ cross_expr a b c d) (a ⊗ num 0) fx))),
    )

-- a common place at the joint is the end of the first edge
only_end : (s m : ℕ) (a b : ℤ) → along (s + m) s a b ≡ pos (s + m) *ℤ b → pos m *ℤ (b -ℤ a) ≡ pos 0
only_end s m a b e =
    let p = var a in let q = var b in
    by_parts (num m ⊗ (q ⊖ p)) (num 0) (omega (arith, parts_eq (num (s + m) ⊗ p ⊕ num s ⊗ (q ⊖ p)) (num (s + m) ⊗ q) e))

no_length : (m : ℕ) (ux uy : ℤ) → pos m *ℤ ux ≡ pos 0 → pos m *ℤ uy ≡ pos 0 → (pos m *ℤ dot_of ux uy ux uy) ≤ℤ pos 0
no_length m ux uy hx hy =
    let a = var ux in let b = var uy in
    let ex : (pos m *ℤ ux) *ℤ ux ≡ pos 0 *ℤ ux = ap (λ (t : ℤ). t *ℤ ux) hx in
    let ey : (pos m *ℤ uy) *ℤ uy ≡ pos 0 *ℤ uy = ap (λ (t : ℤ). t *ℤ uy) hy in
    by_parts_le (num m ⊗ (a ⊗ a ⊕ b ⊗ b)) (num 0)
    (omega (arith, parts_eq (num m ⊗ a ⊗ a) (num 0 ⊗ a) ex, parts_eq (num m ⊗ b ⊗ b) (num 0 ⊗ b) ey))

pub meets-ahead : (a b c : Place) → HasManyWords a b → MeetOnlyAt b a b b c → IsAhead a b c
meets-ahead a b c long only flat =
    let ux = b.x -ℤ a.x in let uy = b.y -ℤ a.y in let vx = c.x -ℤ b.x in let vy = c.y -ℤ b.y in
    let square : ℕ = nat_abs (dot_of ux uy ux uy) in
    let m : ℕ = nat_abs (pos 0 -ℤ dot_of ux uy vx vy) in
    by_lt_z (dot_of ux uy vx vy) (pos 0)
    (λ behind.
    let es : pos square ≡ dot_of ux uy ux uy = nat_of (dot_of ux uy ux uy) (omega (arith, ints)) in
    let em : pos m ≡ pos 0 -ℤ dot_of ux uy vx vy = nat_of (pos 0 -ℤ dot_of ux uy vx vy) (omega (arith, ints)) in
    let e = beyond ux uy vx vy square m es em flat in
    let place : AreOnePlace (square + m) square square a b b c = record {
      positive = omega (arith, ints);
      on_first = omega arith;
      on_second = omega arith;
      same_x = along_back (square + m) square square a.x b.x b.x c.x e.0;
      same_y = along_back (square + m) square square a.y b.y b.y c.y e.1;
    } in
    let zx = only_end square m a.x b.x (only.x_there (square + m) square square place) in
    let zy = only_end square m a.y b.y (only.y_there (square + m) square square place) in
    let none = no_multiple m (dot_of ux uy ux uy) long (no_length m ux uy zx zy) in
    absurd (omega (arith, ints)))
    (λ h. h)

pub ahead : (a b c : Place) → HasManyWords a b → MeetOnlyAt b a b b c ↔ IsAhead a b c
ahead a b c long = (meets-ahead a b c long, ahead-meets a b c long)

swap_place : (q s r : ℕ) (a b c d : Place) → AreOnePlace q s r c d a b → AreOnePlace q r s a b c d
swap_place q s r a b c d o = record { positive = o.positive; on_first = o.on_second; on_second = o.on_first; same_x = sym o.same_x; same_y = sym o.same_y }

-- either edge may be named first
pub MeetOnlyAt-swap : (j a b c d : Place) → MeetOnlyAt j a b c d → MeetOnlyAt j c d a b
MeetOnlyAt-swap j a b c d h = record {
  x_there = λ q s r o. o.same_x ∙ h.x_there q r s (swap_place q s r a b c d o);
  y_there = λ q s r o. o.same_y ∙ h.y_there q r s (swap_place q s r a b c d o);
}

-- ---- edges with different ends

square_of : (z : ℤ) → (z ≡ pos 0) ⊎ (pos 0 <ℤ (z *ℤ z))
square_of z =
    by_lt_z (pos 0) z
    (λ h. inr (positive z h))
    (λ l. by_lt_z z (pos 0)
    (λ h. inr (let p = positive (pos 0 -ℤ z) (omega (arith, ints)) in by_parts_lt (num 0) (var z ⊗ var z)
    (omega (arith, parts_lt (num 0) ((num 0 ⊖ var z) ⊗ (num 0 ⊖ var z)) p))))
    (λ g. inl (omega (arith, ints))))
  where
    positive : (z : ℤ) → pos 0 <ℤ z → pos 0 <ℤ (z *ℤ z)
    positive z h =
        let k : down z + 1 ≤ up z = omega (arith, ints) in
        by_parts_lt (num 0) (var z ⊗ var z) (square_parts (up z) (down z) k)
      where
        square_parts : (u d : ℕ) → d + 1 ≤ u → 0 + (u * d + d * u) < (u * u + d * d) + 0
        square_parts u d h =
            let k : ℕ = u - d in
            let e : u ≡ d + k = omega arith in
            let e1 : u * u ≡ (d + k) * u = ap (λ (n : ℕ). n * u) e in
            let e2 : k * u ≡ k * (d + k) = ap (λ (n : ℕ). k * n) e in
            let e3 : k * d ≡ d * k = grind arith in
            let one : k * 1 ≤ k * k = times k 1 k (omega arith) in
            let e4 : d * u ≡ d * (d + k) = ap (λ (n : ℕ). d * n) e in
            omega arith

same_ends : (a b : Place) → (b.x -ℤ a.x) ≡ pos 0 → (b.y -ℤ a.y) ≡ pos 0 → a ≡ b
same_ends a b ex ey =
    let x : a.x ≡ b.x = omega (arith, ints) in
    let y : a.y ≡ b.y = omega (arith, ints) in
    made x y
  where
    made : {a b c d : ℤ} → a ≡ b → c ≡ d → (let p : Place = record { x = a; y = c } in p) ≡ (let q : Place = record { x = b; y = d } in q)
    made e f = cc

pub HasManyWords-ends : (a b : Place) → ¬ (a ≡ b) → HasManyWords a b
HasManyWords-ends a b apart =
    let ux = b.x -ℤ a.x in let uy = b.y -ℤ a.y in
    let up_x = square_not_below ux in let up_y = square_not_below uy in
    elim (square_of ux) [
      | inr h ↦ omega (arith, ints)
      | inl ex ↦ elim (square_of uy) [ inr h ↦ omega (arith, ints) | inl ey ↦ absurd (apart (same_ends a b ex ey)) ]
    ]
  where
    square_not_below : (z : ℤ) → pos 0 ≤ℤ (z *ℤ z)
    square_not_below z = elim (square_of z) [ inl e ↦ rw e (omega (arith, ints)) | inr h ↦ omega (arith, ints) ]
