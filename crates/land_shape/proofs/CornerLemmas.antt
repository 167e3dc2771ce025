-- Pairs of edges, by whether they are neighbours
use Rattle.std.proofs.Common.{◌≡◌, ◌↔◌, ℕ, ◌+◌, ◌<◌, true, false, List, length, arith, refl, ◌==◌, ◌&&◌}
use Rattle.std.proofs.lemmas.Bool.Decides.{nat_tests}
use Rattle.land_shape.specs.Place.{Place}
use Rattle.land_shape.specs.Segment.{HaveCommonPoint, MeetOnlyAt}
use Rattle.land_shape.specs.Simple.{place_at, next_place_at, MeetOnlyAtJoint}
use Rattle.land_shape.proofs.Folding.{MeetOnlyAt-swap}

same_test : (a b : ℕ) → a ≡ b → (a == b) ≡ true
same_test a b h = grind (arith, nat_tests)

other_test : (a b : ℕ) → ¬ (a ≡ b) → (a == b) ≡ false
other_test a b h = grind (arith, nat_tests)

pub meet-next : (ps : List Place) (i : ℕ) → i + 1 < length ps
    → MeetOnlyAt (place_at ps (i + 1)) (place_at ps i) (place_at ps (i + 1)) (place_at ps (i + 1)) (next_place_at ps (i + 1)) ↔ MeetOnlyAtJoint ps i (i + 1)
unfolding MeetOnlyAtJoint
meet-next ps i h = rw (same_test (i + 1) (i + 1) refl, other_test (i + 1) (length ps) (λ e. omega arith)) (λ m. m, λ m. m)

pub meet-following : (ps : List Place) (i j : ℕ) → j ≡ i + 1 → j < length ps
    → MeetOnlyAt (place_at ps j) (place_at ps i) (place_at ps j) (place_at ps j) (next_place_at ps j) ↔ MeetOnlyAtJoint ps i j
meet-following ps i j e h = rw e (meet-next ps i (omega arith))

pub through : {A B C : Type 0} → A ↔ B → B ↔ C → A ↔ C
through f g = (λ a. g.0 (f.0 a), λ c. f.1 (g.1 c))

pub meet-around : (ps : List Place) (j : ℕ) → 1 < j → j + 1 ≡ length ps
    → MeetOnlyAt (place_at ps 0) (place_at ps j) (place_at ps 0) (place_at ps 0) (next_place_at ps 0) ↔ MeetOnlyAtJoint ps 0 j
unfolding MeetOnlyAtJoint
meet-around ps j h e =
    rw (other_test j (0 + 1) (λ k. omega arith), same_test (j + 1) (length ps) e)
    (λ m. MeetOnlyAt-swap _ _ _ _ _ m, λ m. MeetOnlyAt-swap _ _ _ _ _ m)

around_test : (n i j : ℕ) → ¬ ((i ≡ 0) × (j + 1 ≡ n)) → ((i == 0) && (j + 1 == n)) ≡ false
around_test n i j h = grind (arith, nat_tests)

pub meet-apart : (ps : List Place) (i j : ℕ) → ¬ (j ≡ i + 1) → ¬ ((i ≡ 0) × (j + 1 ≡ length ps))
    → (¬ HaveCommonPoint (place_at ps i) (next_place_at ps i) (place_at ps j) (next_place_at ps j)) ↔ MeetOnlyAtJoint ps i j
unfolding MeetOnlyAtJoint
meet-apart ps i j h k =
    rw (other_test j (i + 1) h, around_test (length ps) i j k) (λ m. m, λ m. m)
