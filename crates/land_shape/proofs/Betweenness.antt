-- Places on one line: which of them lie inside which edges
use Rattle.std.proofs.Common.{◌≡◌, ℕ, zero, suc, ◌*◌, true, false, ◌&&◌, not, ◌⊎◌, inl, inr, arith, refl, sym, ap, ◌∙◌, subst, int_le}
use Rattle.std.proofs.lemmas.Int.{ints, clamps, unsigned_abs-mul}
use Rattle.std.proofs.lemmas.Bool.Decides.{Decides-int_eq}
use Rattle.std.specs.Int.RustNames.{unsigned_abs}
use Rattle.std.specs.Int.{int_min, int_max}
use Rattle.std.specs.Cmp.{int_ranks}
use Rattle.std.specs.declared.cmp.Ordering.{Ordering}
use Rattle.std.specs.declared.cmp.Ordering.TheVariants.{Less, Equal, Greater}
use Rattle.std.specs.Ordering.{int_eq, int_cmp, MatchOrdering}
use Rattle.std.proofs.lemmas.Bool.{and_from}
use lib.IntN.{ℤ, pos, ◌-ℤ◌, ◌*ℤ◌, nat_abs}
use lib.Signed.{◌≤ℤ◌, ◌<ℤ◌}
use Rattle.land_shape.specs.Coordinate.{cross_of}
use Rattle.land_shape.specs.Place.{Place, Edge, is_same_place}
use Rattle.land_shape.specs.Segment.{HaveCommonPoint}
use Rattle.land_shape.specs.Matching.{is_between, is_on_line, is_in_box, lies_on, lies_inside}
use Rattle.land_shape.proofs.Expressions.{var, num, ◌⊕◌, ◌⊖◌, ◌⊗◌, by_parts, parts_eq}
use Rattle.land_shape.proofs.Meeting.{common-boxes, cross_expr, nat_of}
use Rattle.land_shape.proofs.MatchingLaw.{and_left, and_right, same_place_is, same_place_itself}
use Rattle.land_shape.proofs.LiesLaw.{in_box}
use Rattle.land_shape.proofs.Order.{Before, never_itself, place_is}

abbrev pub edge : Place → Place → Edge
edge a b = record { from = a; to = b }

-- the place lies on the line through a and b
abbrev pub On : Place → Place → Place → Type 0
On a b p = cross_of (b.x -ℤ a.x) (b.y -ℤ a.y) (p.x -ℤ a.x) (p.y -ℤ a.y) ≡ pos 0

product_none : (m n : ℕ) → m * n ≡ 0 → (m ≡ 0) ⊎ (n ≡ 0)
product_none zero n h = inl refl
product_none (suc m) n h = inr (omega arith)

product_zero : (z c : ℤ) → z *ℤ c ≡ pos 0 → ¬ (z ≡ pos 0) → c ≡ pos 0
product_zero z c h n =
    let e : unsigned_abs z * unsigned_abs c ≡ 0 = sym (unsigned_abs-mul z c) ∙ ap unsigned_abs h in
    elim (product_none (unsigned_abs z) (unsigned_abs c) e) [
      | inl a ↦ absurd (n (omega (arith, ints)))
      | inr b ↦ omega (arith, ints)
    ]

is_none : (z : ℤ) → (z ≡ pos 0) ⊎ (¬ (z ≡ pos 0))
is_none z = elim (int_eq z (pos 0)) as (λ b. int_eq z (pos 0) ≡ b → (z ≡ pos 0) ⊎ (¬ (z ≡ pos 0))) [
  | true ↦ λ h. inl ((Decides-int_eq z (pos 0)).0 h)
  | false ↦ λ h. inr (λ e. let t = (Decides-int_eq z (pos 0)).1 e in let f : true ≡ false = sym t ∙ h in cc f)
] refl

-- two ways along a third that has a length go along each other
both_along : (ux uy vx vy wx wy : ℤ) → ¬ ((ux ≡ pos 0) × (uy ≡ pos 0)) → cross_of ux uy vx vy ≡ pos 0 → cross_of ux uy wx wy ≡ pos 0 → cross_of vx vy wx wy ≡ pos 0
both_along ux uy vx vy wx wy long hv hw =
    let a = var ux in let b = var uy in let c = var vx in let d = var vy in let x = var wx in let y = var wy in
    let v0 : ux *ℤ cross_of vx vy wx wy ≡ pos 0
    = by_parts (a ⊗ (c ⊗ y ⊖ d ⊗ x)) (num 0) (omega (
      arith,
      parts_eq (c ⊗ (a ⊗ y ⊖ b ⊗ x)) (num 0) (ap (λ (t : ℤ). vx *ℤ t) hw ∙ zero_right vx),
      parts_eq (x ⊗ (a ⊗ d ⊖ b ⊗ c)) (num 0) (ap (λ (t : ℤ). wx *ℤ t) hv ∙ zero_right wx),
    )) in
    let v1 : uy *ℤ cross_of vx vy wx wy ≡ pos 0
    = by_parts (b ⊗ (c ⊗ y ⊖ d ⊗ x)) (num 0) (omega (
      arith,
      parts_eq (d ⊗ (a ⊗ y ⊖ b ⊗ x)) (num 0) (ap (λ (t : ℤ). vy *ℤ t) hw ∙ zero_right vy),
      parts_eq (y ⊗ (a ⊗ d ⊖ b ⊗ c)) (num 0) (ap (λ (t : ℤ). wy *ℤ t) hv ∙ zero_right wy),
    )) in
    elim (is_none ux) [
      | inl e ↦ (elim (is_none uy) [ inl f ↦ absurd (long (e, f)) | inr n ↦ product_zero uy (cross_of vx vy wx wy) v1 n ])
      | inr n ↦ product_zero ux (cross_of vx vy wx wy) v0 n
    ]
  where
    zero_right : (z : ℤ) → z *ℤ pos 0 ≡ pos 0
    zero_right z = by_parts (var z ⊗ num 0) (num 0) (omega arith)

-- the ways between places on a line go along it
between_on : (a b p q : Place) → On a b p → On a b q → cross_of (b.x -ℤ a.x) (b.y -ℤ a.y) (q.x -ℤ p.x) (q.y -ℤ p.y) ≡ pos 0
between_on a b p q hp hq =
    let ax = var a.x in let ay = var a.y in let bx = var b.x in let by = var b.y in
    let px = var p.x in let py = var p.y in let qx = var q.x in let qy = var q.y in
    by_parts (cross_expr (bx ⊖ ax) (by ⊖ ay) (qx ⊖ px) (qy ⊖ py)) (num 0)
    (omega (
      arith,
      parts_eq (cross_expr (bx ⊖ ax) (by ⊖ ay) (px ⊖ ax) (py ⊖ ay)) (num 0) hp,
      parts_eq (cross_expr (bx ⊖ ax) (by ⊖ ay) (qx ⊖ ax) (qy ⊖ ay)) (num 0) hq,
    ))

further_on : (a b p q : Place) → On a b p → cross_of (b.x -ℤ a.x) (b.y -ℤ a.y) (q.x -ℤ p.x) (q.y -ℤ p.y) ≡ pos 0 → On a b q
further_on a b p q hp h =
    let ax = var a.x in let ay = var a.y in let bx = var b.x in let by = var b.y in
    let px = var p.x in let py = var p.y in let qx = var q.x in let qy = var q.y in
    by_parts (cross_expr (bx ⊖ ax) (by ⊖ ay) (qx ⊖ ax) (qy ⊖ ay)) (num 0)
    (omega (
      arith,
      parts_eq (cross_expr (bx ⊖ ax) (by ⊖ ay) (px ⊖ ax) (py ⊖ ay)) (num 0) hp,
      parts_eq (cross_expr (bx ⊖ ax) (by ⊖ ay) (qx ⊖ px) (qy ⊖ py)) (num 0) h,
    ))

turn_round : (ux uy vx vy : ℤ) → cross_of ux uy vx vy ≡ pos 0 → cross_of vx vy ux uy ≡ pos 0
turn_round ux uy vx vy h =
    by_parts (cross_expr (var vx) (var vy) (var ux) (var uy)) (num 0) (omega (arith, parts_eq (cross_expr (var ux) (var uy) (var vx) (var vy)) (num 0) h))

long_way : (a b : Place) → Before a b → ¬ (((b.x -ℤ a.x) ≡ pos 0) × ((b.y -ℤ a.y) ≡ pos 0))
long_way a b (inl h) both = let e = both.0 in omega (arith, ints)
long_way a b (inr h) both = let e = both.1 in let l = h.1 in omega (arith, ints)

-- three places on a line: the third is on the line through the other two
pub on_part : (f t a b p : Place) → Before f t → On f t a → On f t b → On f t p → On a b p
on_part f t a b p up ha hb hp =
    both_along (t.x -ℤ f.x) (t.y -ℤ f.y) (b.x -ℤ a.x) (b.y -ℤ a.y) (p.x -ℤ a.x) (p.y -ℤ a.y) (long_way f t up) (between_on f t a b ha hb) (between_on f t a p ha hp)

pub on_whole : (f t a b p : Place) → Before a b → On f t a → On f t b → On a b p → On f t p
on_whole f t a b p up ha hb hp =
    further_on f t a p ha
    (both_along (b.x -ℤ a.x) (b.y -ℤ a.y) (t.x -ℤ f.x) (t.y -ℤ f.y) (p.x -ℤ a.x) (p.y -ℤ a.y) (long_way a b up)
    (turn_round (t.x -ℤ f.x) (t.y -ℤ f.y) (b.x -ℤ a.x) (b.y -ℤ a.y) (between_on f t a b ha hb)) hp)

pub on_start : (a b : Place) → On a b a
on_start a b = by_parts (cross_expr (var b.x ⊖ var a.x) (var b.y ⊖ var a.y) (var a.x ⊖ var a.x) (var a.y ⊖ var a.y)) (num 0) (omega arith)

pub on_end : (a b : Place) → On a b b
on_end a b = by_parts (cross_expr (var b.x ⊖ var a.x) (var b.y ⊖ var a.y) (var b.x ⊖ var a.x) (var b.y ⊖ var a.y)) (num 0) (omega arith)

-- ---- between the ends

overlap_of : (a b p : Place) → HaveCommonPoint a b p p → is_in_box p (edge a b) ≡ true
overlap_of a b p h =
    let boxes = common-boxes a b p p h in
    and_from (is_between a.x b.x p.x) (is_between a.y b.y p.y) ((in_box a.x b.x p.x).1 boxes.0) ((in_box a.y b.y p.y).1 boxes.1)

-- a place on the line whose x lies between those of the ends lies on the edge
common_at : (a b p : Place) → a.x <ℤ b.x → a.x ≤ℤ p.x → p.x ≤ℤ b.x → On a b p → HaveCommonPoint a b p p
common_at a b p wide low high on =
    let q = nat_abs (b.x -ℤ a.x) in let s = nat_abs (p.x -ℤ a.x) in
    let eq : pos q ≡ b.x -ℤ a.x = nat_of (b.x -ℤ a.x) (omega (arith, ints)) in
    let es : pos s ≡ p.x -ℤ a.x = nat_of (p.x -ℤ a.x) (omega (arith, ints)) in
    let ax = var a.x in let ay = var a.y in let bx = var b.x in let by = var b.y in let px = var p.x in let py = var p.y in
    record {
      q = q;
      s = s;
      r = 0;
      one = record {
        positive = omega (arith, ints, eq);
        on_first = omega (arith, ints, eq, es);
        on_second = omega arith;
        same_x = rw (eq, es) (by_parts ((bx ⊖ ax) ⊗ ax ⊕ (px ⊖ ax) ⊗ (bx ⊖ ax)) ((bx ⊖ ax) ⊗ px ⊕ num 0 ⊗ (px ⊖ px)) (omega arith));
        same_y = rw (eq, es) (by_parts ((bx ⊖ ax) ⊗ ay ⊕ (px ⊖ ax) ⊗ (by ⊖ ay)) ((bx ⊖ ax) ⊗ py ⊕ num 0 ⊗ (py ⊖ py))
            (omega (arith, parts_eq (cross_expr (bx ⊖ ax) (by ⊖ ay) (px ⊖ ax) (py ⊖ ay)) (num 0) on)));
      };
    }

between_up : (a b x : ℤ) → a ≤ℤ x → x ≤ℤ b → is_between a b x ≡ true
between_up a b x l h = and_from (int_le (int_min a b) x) (int_le x (int_max a b)) (sym (omega (arith, ints, clamps))) (sym (omega (arith, ints, clamps)))

between_low : (a b x : ℤ) → a ≤ℤ b → is_between a b x ≡ true → a ≤ℤ x
between_low a b x up h = let l = and_left (int_le (int_min a b) x) (int_le x (int_max a b)) h in omega (arith, ints, clamps)

between_high : (a b x : ℤ) → a ≤ℤ b → is_between a b x ≡ true → x ≤ℤ b
between_high a b x up h = let l = and_right (int_le (int_min a b) x) (int_le x (int_max a b)) h in omega (arith, ints, clamps)

box_between : (a b p : Place) → Before a b → Before a p → Before p b → On a b p → is_in_box p (edge a b) ≡ true
box_between a b p (inl wide) ap pb on =
    overlap_of a b p (common_at a b p wide (no_less a p ap) (no_less p b pb) on)
  where
    no_less : (c d : Place) → Before c d → c.x ≤ℤ d.x
    no_less c d (inl h) = omega (arith, ints)
    no_less c d (inr h) = let e = h.0 in omega (arith, ints)
box_between a b p (inr level) (inl ap) (inl pb) on = let e = level.0 in absurd (omega (arith, ints))
box_between a b p (inr level) (inl ap) (inr pb) on = let e = level.0 in let f = pb.0 in absurd (omega (arith, ints))
box_between a b p (inr level) (inr ap) (inl pb) on = let e = level.0 in let f = ap.0 in absurd (omega (arith, ints))
box_between a b p (inr level) (inr ap) (inr pb) on =
    let e = level.0 in let l = level.1 in let f = ap.0 in let m = ap.1 in let g = pb.0 in let n = pb.1 in
    and_from (is_between a.x b.x p.x) (is_between a.y b.y p.y) (between_up a.x b.x p.x (omega (arith, ints)) (omega (arith, ints))) (between_up a.y b.y p.y (omega (arith, ints)) (omega (arith, ints)))

not_same : (p q : Place) → ¬ (p ≡ q) → not (is_same_place p q) ≡ true
not_same p q n = elim (is_same_place p q) as (λ b. is_same_place p q ≡ b → not b ≡ true) [
  | true ↦ λ h. absurd (n (same_place_is p q h))
  | false ↦ λ h. refl
] refl

-- a place that lies on a line, strictly between two places of it, lies inside the edge between those
pub inside_of : (a b p : Place) → Before a b → On a b p → Before a p → Before p b → lies_inside p (edge a b) ≡ true
inside_of a b p up on ap pb =
    and_from (not (is_same_place p a) && not (is_same_place p b)) (lies_on p (edge a b))
    (and_from (not (is_same_place p a)) (not (is_same_place p b))
    (not_same p a (λ e. never_itself a (subst (λ (q : Place). Before a q) e ap)))
    (not_same p b (λ e. never_itself b (subst (λ (q : Place). Before q b) e pb))))
    (and_from (is_on_line p (edge a b)) (is_in_box p (edge a b)) ((Decides-int_eq _ _).1 on) (box_between a b p up ap pb on))

abbrev IsInside : Place → Place → Place → Type 0
IsInside a b p = On a b p × (¬ (p ≡ a)) × (¬ (p ≡ b)) × (is_between a.x b.x p.x ≡ true) × (is_between a.y b.y p.y ≡ true)

not_at : (p q : Place) → not (is_same_place p q) ≡ true → ¬ (p ≡ q)
not_at p q h e =
    let t : is_same_place p q ≡ true = subst (λ (r : Place). is_same_place p r ≡ true) e (same_place_itself p) in
    let f : not true ≡ true = rw t at h in
    cc f

opened : (a b p : Place) → lies_inside p (edge a b) ≡ true → IsInside a b p
opened a b p h =
    let ends = and_left (not (is_same_place p a) && not (is_same_place p b)) (lies_on p (edge a b)) h in
    let on = and_right (not (is_same_place p a) && not (is_same_place p b)) (lies_on p (edge a b)) h in
    let box = and_right (is_on_line p (edge a b)) (is_in_box p (edge a b)) on in (
      (Decides-int_eq _ _).0 (and_left (is_on_line p (edge a b)) (is_in_box p (edge a b)) on),
      not_at p a (and_left (not (is_same_place p a)) (not (is_same_place p b)) ends),
      not_at p b (and_right (not (is_same_place p a)) (not (is_same_place p b)) ends),
      and_left (is_between a.x b.x p.x) (is_between a.y b.y p.y) box,
      and_right (is_between a.x b.x p.x) (is_between a.y b.y p.y) box,
    )

pub inside_on : (a b p : Place) → lies_inside p (edge a b) ≡ true → On a b p
inside_on a b p h = (opened a b p h).0

-- on a line that is not upright, places that are as far right are one place
same_height : (a b p : Place) → a.x <ℤ b.x → (q : Place) → On a b p → On a b q → p.x ≡ q.x → p.y ≡ q.y
same_height a b p wide q hp hq e =
    let ax = var a.x in let ay = var a.y in let bx = var b.x in let by = var b.y in let px = var p.x in let py = var p.y in let qy = var q.y in
    let hq' : cross_of (b.x -ℤ a.x) (b.y -ℤ a.y) (p.x -ℤ a.x) (q.y -ℤ a.y) ≡ pos 0 = rw (sym e) at hq in
    let z : (b.x -ℤ a.x) *ℤ (p.y -ℤ q.y) ≡ pos 0
    = by_parts ((bx ⊖ ax) ⊗ (py ⊖ qy)) (num 0) (omega (
      arith,
      parts_eq (cross_expr (bx ⊖ ax) (by ⊖ ay) (px ⊖ ax) (py ⊖ ay)) (num 0) hp,
      parts_eq (cross_expr (bx ⊖ ax) (by ⊖ ay) (px ⊖ ax) (qy ⊖ ay)) (num 0) hq',
    )) in
    let d : p.y -ℤ q.y ≡ pos 0 = product_zero (b.x -ℤ a.x) (p.y -ℤ q.y) z (λ f. omega (arith, ints, f)) in
    omega (arith, ints, d)

lower_or_same : (m n : ℤ) → m ≤ℤ n → (m <ℤ n) ⊎ (m ≡ n)
lower_or_same m n h = decided (int_cmp m n) (int_ranks m n)
  where
    decided : (r : Ordering) → MatchOrdering r (m <ℤ n) (m ≡ n) (n <ℤ m) → (m <ℤ n) ⊎ (m ≡ n)
    decided Less k = inl k
    decided Equal k = inr k
    decided Greater k = absurd (omega (arith, ints))

pub inside_after : (a b p : Place) → Before a b → lies_inside p (edge a b) ≡ true → Before a p
inside_after a b p (inl wide) h =
    let o = opened a b p h in
    elim (lower_or_same a.x p.x (between_low a.x b.x p.x (omega (arith, ints)) o.3)) [
      | inl l ↦ inl l
      | inr e ↦ absurd (o.1 (place_is p a (sym e) (same_height a b p wide a o.0 (on_start a b) (sym e))))
    ]
inside_after a b p (inr level) h =
    let o = opened a b p h in let e = level.0 in let l = level.1 in
    let low = between_low a.x b.x p.x (omega (arith, ints)) o.3 in
    let high = between_high a.x b.x p.x (omega (arith, ints)) o.3 in
    let x : a.x ≡ p.x = omega (arith, ints) in
    elim (lower_or_same a.y p.y (between_low a.y b.y p.y (omega (arith, ints)) o.4)) [
      | inl m ↦ inr (x, m)
      | inr f ↦ absurd (o.1 (place_is p a (sym x) (sym f)))
    ]

pub inside_before : (a b p : Place) → Before a b → lies_inside p (edge a b) ≡ true → Before p b
inside_before a b p (inl wide) h =
    let o = opened a b p h in
    elim (lower_or_same p.x b.x (between_high a.x b.x p.x (omega (arith, ints)) o.3)) [
      | inl l ↦ inl l
      | inr e ↦ absurd (o.2 (place_is p b e (same_height a b p wide b o.0 (on_end a b) e)))
    ]
inside_before a b p (inr level) h =
    let o = opened a b p h in let e = level.0 in let l = level.1 in
    let low = between_low a.x b.x p.x (omega (arith, ints)) o.3 in
    let high = between_high a.x b.x p.x (omega (arith, ints)) o.3 in
    let x : p.x ≡ b.x = omega (arith, ints) in
    elim (lower_or_same p.y b.y (between_high a.y b.y p.y (omega (arith, ints)) o.4)) [
      | inl m ↦ inr (x, m)
      | inr f ↦ absurd (o.2 (place_is p b x f))
    ]
