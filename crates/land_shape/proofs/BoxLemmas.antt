-- Lemmas on edges outside a box
use Rattle.std.proofs.Common.{◌≡◌, ℕ, ◌+◌, ◌<◌, ◌≤◌, List, length, Option, Some, None, MatchOption, arith, inl, inr, subst, w64, to_z, of_z}
use Rattle.std.proofs.lemmas.Bool.{cases_lt}
use Rattle.std.proofs.lemmas.Int.{ints, clamps}
use Rattle.std.specs.Int.{int_min, int_max}
use lib.IntN.{ℤ}
use lib.Signed.{◌≤ℤ◌}
use mir.Val.{SFits}
use Rattle.land_shape.specs.Coordinate.{IsCoordinate}
use Rattle.land_shape.specs.Place.{Place}
use Rattle.land_shape.specs.Segment.{HaveCommonPoint, MeetOnlyAt}
use Rattle.land_shape.specs.Simple.{joint, place_at, next_place_at, MeetOnlyAtJoint}
use Rattle.land_shape.specs.Turns.{Overlap, BoxesOverlap, IsInBox, HoldsEdges}
use Rattle.land_shape.proofs.Meeting.{common-boxes}

-- an interval that overlaps a part of a span overlaps the span
wider : (low high a b c d : ℤ) → low ≤ℤ a → a ≤ℤ high → low ≤ℤ b → b ≤ℤ high → Overlap a b c d → Overlap low high c d
wider low high a b c d la ah lb bh o = let f = o.low in let g = o.high in record { low = omega (arith, ints, clamps); high = omega (arith, ints, clamps) }

-- an edge with a point in common with one inside a box reaches the box
pub common-reaches : (least greatest a b c d : Place) → IsInBox least greatest a → IsInBox least greatest b → HaveCommonPoint a b c d
    → BoxesOverlap least greatest c d
common-reaches least greatest a b c d first second common =
    let boxes = common-boxes a b c d common in
    (wider _ _ _ _ _ _ first.left first.right second.left second.right boxes.0, wider _ _ _ _ _ _ first.low first.high second.low second.high boxes.1)

-- edges with no point in common meet rightly, neighbours or not
pub apart-rightly : (ps : List Place) (i j : ℕ) → ¬ HaveCommonPoint (place_at ps i) (next_place_at ps i) (place_at ps j) (next_place_at ps j) → MeetOnlyAtJoint ps i j
unfolding MeetOnlyAtJoint
apart-rightly ps i j apart = go (joint (length ps) i j)
  where
    go : (o : Option ℕ) → MatchOption o
        (¬ HaveCommonPoint (place_at ps i) (next_place_at ps i) (place_at ps j) (next_place_at ps j))
        (λ k. MeetOnlyAt (place_at ps k) (place_at ps i) (next_place_at ps i) (place_at ps j) (next_place_at ps j))
    go None = apart
    go (Some k) = record {
      x_there = λ q s r one. absurd (apart (record { q = q; s = s; r = r; one = one }));
      y_there = λ q s r one. absurd (apart (record { q = q; s = s; r = r; one = one }));
    }

-- an edge inside a box and one that does not reach the box meet rightly
pub beside-rightly : (ps : List Place) (i j : ℕ) (least greatest c d : Place) → IsInBox least greatest (place_at ps i) × IsInBox least greatest (next_place_at ps i)
    → c ≡ place_at ps j → d ≡ next_place_at ps j → ¬ BoxesOverlap least greatest c d → MeetOnlyAtJoint ps i j
beside-rightly ps i j least greatest c d inside from to beside =
    apart-rightly ps i j
    (λ common. beside (rw (from, to) (common-reaches least greatest _ _ _ _ inside.0 inside.1 common)))

-- ---- boxes that grow

pub lesser-near : (a b m : ℤ) → SFits w64 a → SFits w64 b → SFits w64 m → IsCoordinate a → IsCoordinate b
    → m ≡ int_min (to_z w64 (of_z w64 a)) (to_z w64 (of_z w64 b)) → IsCoordinate (to_z w64 (of_z w64 m))
lesser-near a b m fa fb fm na nb is = let la = na.0 in let ha = na.1 in let lb = nb.0 in let hb = nb.1 in (omega (arith, ints, clamps), omega (arith, ints, clamps))

pub greater-near : (a b m : ℤ) → SFits w64 a → SFits w64 b → SFits w64 m → IsCoordinate a → IsCoordinate b
    → m ≡ int_max (to_z w64 (of_z w64 a)) (to_z w64 (of_z w64 b)) → IsCoordinate (to_z w64 (of_z w64 m))
greater-near a b m fa fb fm na nb is = let la = na.0 in let ha = na.1 in let lb = nb.0 in let hb = nb.1 in (omega (arith, ints, clamps), omega (arith, ints, clamps))

at_least : (a b m : ℤ) → m ≡ int_min a b → (m ≤ℤ a) × (m ≤ℤ b)
at_least a b m is = (omega (arith, ints, clamps), omega (arith, ints, clamps))

at_most : (a b m : ℤ) → m ≡ int_max a b → (a ≤ℤ m) × (b ≤ℤ m)
at_most a b m is = (omega (arith, ints, clamps), omega (arith, ints, clamps))

-- a box of the lesser and the greater coordinates of another box and of a point
pub record IsStretched (least greatest place low high : Place) : Type 0 where
  pub left : low.x ≡ int_min least.x place.x
  pub right : high.x ≡ int_max greatest.x place.x
  pub below : low.y ≡ int_min least.y place.y
  pub above : high.y ≡ int_max greatest.y place.y

pub stretched-holds : (least greatest place low high : Place) → IsStretched least greatest place low high → IsInBox low high place
stretched-holds least greatest place low high s = record {
  left = (at_least _ _ _ s.left).1;
  right = (at_most _ _ _ s.right).1;
  low = (at_least _ _ _ s.below).1;
  high = (at_most _ _ _ s.above).1;
}

through : (a b c : ℤ) → a ≤ℤ b → b ≤ℤ c → a ≤ℤ c
through a b c f g = omega (arith, ints)

pub stretched-still : (least greatest place low high : Place) → IsStretched least greatest place low high → (p : Place) → IsInBox least greatest p → IsInBox low high p
stretched-still least greatest place low high s p h = record {
  left = through _ _ _ (at_least _ _ _ s.left).0 h.left;
  right = through _ _ _ h.right (at_most _ _ _ s.right).0;
  low = through _ _ _ (at_least _ _ _ s.below).0 h.low;
  high = through _ _ _ h.high (at_most _ _ _ s.above).0;
}

pub holds_more : (ps : List Place) (start i : ℕ) (least greatest low high : Place) → HoldsEdges ps start i least greatest
    → ((p : Place) → IsInBox least greatest p → IsInBox low high p) → IsInBox low high (place_at ps i) → IsInBox low high (next_place_at ps i)
    → HoldsEdges ps start (i + 1) low high
holds_more ps start i least greatest low high holds still from to k above below =
    elim (cases_lt k i) [
      | inl lt ↦ (still _ (holds k above lt).0, still _ (holds k above lt).1)
      | inr ge ↦ (let e : i ≡ k = omega arith in subst (λ (n : ℕ). IsInBox low high (place_at ps n) × IsInBox low high (next_place_at ps n)) e (from, to))
    ]

-- ---- pairs of edges, by the later one

pub pairs_more : (ps : List Place) (start end j : ℕ) → ((i k : ℕ) → start ≤ i → i < end → i < k → k < j → MeetOnlyAtJoint ps i k)
    → ((i : ℕ) → start ≤ i → i < end → i < j → MeetOnlyAtJoint ps i j)
    → (i k : ℕ) → start ≤ i → i < end → i < k → k < j + 1 → MeetOnlyAtJoint ps i k
pairs_more ps start end j before here i k above below order within =
    elim (cases_lt k j) [
      | inl lt ↦ before i k above below order lt
      | inr ge ↦ (let e : j ≡ k = omega arith in subst (λ (n : ℕ). MeetOnlyAtJoint ps i n) e (here i above below (omega arith)))
    ]
