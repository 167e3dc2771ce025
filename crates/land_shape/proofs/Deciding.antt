-- Each ring is simple or not
use Rattle.std.proofs.Common.{◌≡◌, ◌↔◌, ◌⊎◌, ◌<◌, ◌+◌, ◌==◌, true, false, ℕ, zero, suc, List, length, inl, inr, ℤ, pos, refl, sym, ap, subst, ◌∙◌, arith}
use Rattle.std.proofs.lemmas.Bool.{cases_order, cases_lt}
use Rattle.std.proofs.lemmas.Bool.Decides.{nat_tests}
use Rattle.std.proofs.lemmas.Int.{ints, by_lt_z}
use Rattle.std.specs.Int.{int_min, int_max}
use lib.IntN.{◌-ℤ◌}
use lib.Signed.{◌≤ℤ◌}
use Rattle.land_shape.specs.Coordinate.{cross_of, dot_of}
use Rattle.land_shape.specs.Place.{Place, area_of, ring_edges}
use Rattle.land_shape.specs.Segment.{HaveCommonPoint, MeetOnlyAt}
use Rattle.land_shape.specs.Simple.{place_at, next_place_at, HaveLength, AllMeetOnlyAtJoints, MeetOnlyAtJoint, IsSimple}
use Rattle.land_shape.specs.Turns.{Overlap, BoxesOverlap, AreInside, AreTurns}
use Rattle.land_shape.proofs.CornerLemmas.{meet-following, meet-around, meet-apart}
use Rattle.land_shape.proofs.Folding.{IsAhead, ahead, HasManyWords-ends}
use Rattle.land_shape.proofs.Meeting.{left-common, right-common, line-common, common-boxes}

-- it holds or it does not
abbrev pub Decided : Type 0 → Type 0
Decided P = P ⊎ (¬ P)

pub both : {P Q : Type 0} → Decided P → Decided Q → Decided (P × Q)
both (inl p) (inl q) = inl (p, q)
both (inl p) (inr n) = inr (λ h. n h.1)
both (inr n) d = inr (λ h. n h.0)

pub neither : {P : Type 0} → Decided P → Decided (¬ P)
neither (inl p) = inr (λ n. n p)
neither (inr n) = inl n

by : {P Q : Type 0} → P ↔ Q → Decided Q → Decided P
by e (inl q) = inl (e.1 q)
by e (inr n) = inr (λ p. n (e.0 p))

back : {P Q : Type 0} → P ↔ Q → Decided P → Decided Q
back e d = by (e.1, e.0) d

pub at_most : (a b : ℤ) → Decided (a ≤ℤ b)
at_most a b = by_lt_z b a (λ lt. inr (λ h. omega (arith, ints))) (λ le. inl le)

same : (a b : ℤ) → Decided (a ≡ b)
same a b =
    by_lt_z a b (λ lt. inr (λ e. omega (arith, ints)))
    (λ ge. by_lt_z b a (λ lt. inr (λ e. omega (arith, ints))) (λ le. inl (omega (arith, ints))))

same_place : (x y x₂ y₂ : ℤ) → x ≡ x₂ → y ≡ y₂ → (let p : Place = record { x = x; y = y } in let q : Place = record { x = x₂; y = y₂ } in p ≡ q)
same_place x y x₂ y₂ e f = cc

pub place : (p q : Place) → Decided (p ≡ q)
place p q = by (λ e. (ap (λ (r : Place). r.x) e, ap (λ (r : Place). r.y) e), λ h. same_place p.x p.y q.x q.y h.0 h.1) (both (same p.x q.x) (same p.y q.y))

overlap : (a b c d : ℤ) → Decided (Overlap a b c d)
overlap a b c d =
    by (λ o. (o.low, o.high), λ h. record { low = h.0; high = h.1 }) (both (at_most (int_min c d) (int_max a b)) (at_most (int_min a b) (int_max c d)))

inside : (low high f s : ℤ) → Decided (AreInside low high f s)
inside low high f s =
    by (λ i. ((i.first_from, i.first_to), (i.second_from, i.second_to)), λ h. record { first_from = h.0.0; first_to = h.0.1; second_from = h.1.0; second_to = h.1.1 })
    (both (both (at_most low f) (at_most f high)) (both (at_most low s) (at_most s high)))

common : (a b c d : Place) → Decided (HaveCommonPoint a b c d)
common a b c d =
    let w = cross_of (b.x -ℤ a.x) (b.y -ℤ a.y) (d.x -ℤ c.x) (d.y -ℤ c.y) in
    let f = cross_of (c.x -ℤ a.x) (c.y -ℤ a.y) (d.x -ℤ c.x) (d.y -ℤ c.y) in
    let s = cross_of (c.x -ℤ a.x) (c.y -ℤ a.y) (b.x -ℤ a.x) (b.y -ℤ a.y) in
    let t : AreTurns a b c d w f s = record { whole_is = refl; first_is = refl; second_is = refl } in
    go w f s t
  where
    on_line : (w f s : ℤ) → AreTurns a b c d w f s → w ≡ pos 0 → Decided (BoxesOverlap a b c d) → Decided (HaveCommonPoint a b c d)
    on_line w f s t flat (inl boxes) = by (line-common a b c d w f s t flat boxes) (both (same f (pos 0)) (same s (pos 0)))
    on_line w f s t flat (inr apart) = inr (λ h. apart (common-boxes a b c d h))

    go : (w f s : ℤ) → AreTurns a b c d w f s → Decided (HaveCommonPoint a b c d)
    go w f s t =
        by_lt_z (pos 0) w (λ left. by (left-common a b c d w f s t left) (inside (pos 0) w f s))
        (λ ge. by_lt_z w (pos 0) (λ right. by (right-common a b c d w f s t right) (inside w (pos 0) f s))
        (λ le. on_line w f s t (omega (arith, ints)) (both (overlap a.x b.x c.x d.x) (overlap a.y b.y c.y d.y))))

is_ahead : (a b c : Place) → Decided (IsAhead a b c)
is_ahead a b c = go (same (cross_of (b.x -ℤ a.x) (b.y -ℤ a.y) (c.x -ℤ b.x) (c.y -ℤ b.y)) (pos 0)) (at_most (pos 0) (dot_of (b.x -ℤ a.x) (b.y -ℤ a.y) (c.x -ℤ b.x) (c.y -ℤ b.y)))
  where
    go : {P Q : Type 0} → Decided P → Decided Q → Decided (P → Q)
    go (inr n) q = inl (λ p. absurd (n p))
    go (inl p) (inl q) = inl (λ p. q)
    go (inl p) (inr n) = inr (λ h. n (h p))

at_joint : (a b c : Place) → ¬ (a ≡ b) → Decided (MeetOnlyAt b a b b c)
at_joint a b c long = by (ahead a b c (HasManyWords-ends a b long)) (is_ahead a b c)

-- below a bound
all_below : (n : ℕ) (P : ℕ → Type 0) → ((i : ℕ) → i < n → Decided (P i)) → Decided ((i : ℕ) → i < n → P i)
all_below zero P d = inl (λ i h. absurd (omega arith))
all_below (suc n) P d = go (all_below n P (λ i h. d i (omega arith))) (d n (omega arith))
  where
    last : ((i : ℕ) → i < n → P i) → P n → (i : ℕ) → i < suc n → P i
    last f p i h = elim (cases_lt i n) [ inl lt ↦ f i lt | inr ge ↦ (let e : n ≡ i = omega arith in subst P e p) ]

    go : Decided ((i : ℕ) → i < n → P i) → Decided (P n) → Decided ((i : ℕ) → i < suc n → P i)
    go (inl f) (inl p) = inl (last f p)
    go (inl f) (inr m) = inr (λ h. m (h n (omega arith)))
    go (inr m) d = inr (λ h. m (λ i k. h i (omega arith)))

have_length : (ps : List Place) → Decided (HaveLength ps)
have_length ps = all_below (length ps) (λ i. ¬ (place_at ps i ≡ next_place_at ps i)) (λ i h. neither (place (place_at ps i) (next_place_at ps i)))

same_number : (i j : ℕ) → Decided (i ≡ j)
same_number i j = elim (cases_order i j) [ inl e ↦ inl e | inr r ↦ elim r [ inl lt ↦ inr (λ e. omega arith) | inr gt ↦ inr (λ e. omega arith) ] ]

next_is : (ps : List Place) (i : ℕ) → i + 1 < length ps → next_place_at ps i ≡ place_at ps (i + 1)
next_is ps i h = let e : (i + 1 == length ps) ≡ false = grind (arith, nat_tests) in rw e refl

next_of_last : (ps : List Place) (j : ℕ) → j + 1 ≡ length ps → next_place_at ps j ≡ place_at ps 0
next_of_last ps j h = let e : (j + 1 == length ps) ≡ true = grind (arith, nat_tests) in rw e refl

following : (ps : List Place) → HaveLength ps → (i j : ℕ) → j ≡ i + 1 → j < length ps → Decided (MeetOnlyAtJoint ps i j)
following ps long i j e within =
    let next : next_place_at ps i ≡ place_at ps j = next_is ps i (omega arith) ∙ ap (place_at ps) (sym e) in
    back (meet-following ps i j e within) (at_joint (place_at ps i) (place_at ps j) (next_place_at ps j) (λ h. long i (omega arith) (h ∙ sym next)))

around : (ps : List Place) → HaveLength ps → (i j : ℕ) → i ≡ 0 → 1 < j → j + 1 ≡ length ps → Decided (MeetOnlyAtJoint ps i j)
around ps long i j first above last =
    let P : ℕ → Type 0 = λ k. Decided (MeetOnlyAtJoint ps k j) in
    subst P (sym first)
    (back (meet-around ps j above last) (at_joint (place_at ps j) (place_at ps 0) (next_place_at ps 0) (λ h. long j (omega arith) (h ∙ sym (next_of_last ps j last)))))

pair : (ps : List Place) → HaveLength ps → (j : ℕ) → j < length ps → (i : ℕ) → i < j → Decided (MeetOnlyAtJoint ps i j)
pair ps long j within i order = go (same_number j (i + 1)) (both (same_number i 0) (same_number (j + 1) (length ps)))
  where
    go : Decided (j ≡ i + 1) → Decided ((i ≡ 0) × (j + 1 ≡ length ps)) → Decided (MeetOnlyAtJoint ps i j)
    go (inl e) d = following ps long i j e within
    go (inr n) (inl h) = around ps long i j h.0 (elim (cases_lt 1 j) [ inl lt ↦ lt | inr ge ↦ absurd (n (omega (arith, h.0))) ]) h.1
    go (inr n) (inr m) = back (meet-apart ps i j n m) (neither (common (place_at ps i) (next_place_at ps i) (place_at ps j) (next_place_at ps j)))

apart : (ps : List Place) → HaveLength ps → Decided (AllMeetOnlyAtJoints ps)
apart ps long =
    by (λ a j w i o. a i j o w, λ f i j o w. f j w i o)
    (all_below (length ps) (λ j. (i : ℕ) → i < j → MeetOnlyAtJoint ps i j) (λ j within. all_below j (λ i. MeetOnlyAtJoint ps i j) (pair ps long j within)))

pub simple : (ring : List Place) → Decided (IsSimple ring)
simple ring = go (have_length ring)
  where
    go : Decided (HaveLength ring) → Decided (IsSimple ring)
    go (inr n) = inr (λ s. n s.long)
    go (inl long) =
        by (λ s. (s.apart, s.wide), λ h. record { long = long; apart = h.0; wide = h.1 })
        (both (apart ring long) (neither (same (area_of (ring_edges ring)) (pos 0))))
