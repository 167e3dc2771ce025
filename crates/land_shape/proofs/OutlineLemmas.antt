-- Lemmas on rings that are made counterclockwise
use Rattle.std.proofs.Common.{◌≡◌, ℕ, ◌-◌, ◌<◌, ◌≤◌, true, List, [], ◌∷◌, ◌++◌, length, take, drop, map, reverse, refl, sym, ap, ◌∙◌, arith, suc}
use Rattle.std.proofs.lemmas.Int.{ints}
use Rattle.std.proofs.lemmas.List.{append-nil, drop_all, reverse-append, map-append, length-reverse, length-take-le, length-map}
use Rattle.std.specs.List.{take-map}
use Rattle.std.proofs.Math.Seq.{take-length}
use lib.IntN.{ℤ, pos, ◌-ℤ◌}
use lib.Signed.{◌<ℤ◌}
use Rattle.std.specs.Prelude.{int_lt}
use Rattle.land_shape.specs.declared.plane.Point.{Point}
use Rattle.std.proofs.lemmas.Int.{by_lt_z}
use lib.Signed.{◌≤ℤ◌}
use Rattle.land_shape.specs.Outline.{reversed_ring, counterclockwise_ring, ring_of, IsOutline}
use Rattle.land_shape.specs.Place.{Place, area_of, ring_edges}
use Rattle.land_shape.specs.Simple.{place_of, places, HaveLength, AllMeetOnlyAtJoints}
use Rattle.land_shape.proofs.GrammarLemmas.{either_way}
use Rattle.land_shape.proofs.ListingLemmas.{near_points}
use Rattle.land_shape.proofs.Turned.{ring-turned}

map-reverse : (ps : List Point) → map place_of (reverse ps) ≡ reverse (map place_of ps)
map-reverse [] = refl
map-reverse (p ∷ ps) =
    ap places (reverse-append (p ∷ []) ps) ∙ map-append place_of (reverse ps) (p ∷ [])
    ∙ ap (λ (s : List Place). s ++ place_of p ∷ []) (map-reverse ps) ∙ sym (reverse-append (place_of p ∷ []) (map place_of ps))

-- the result of a write to all points except the first
pub turned_part : (ps rest : List Point) (k : ℕ) → 0 < length ps → k ≡ length ps - 1 → rest ≡ reverse (take k (drop 1 ps))
    → places (take 1 ps ++ (rest ++ drop k (drop 1 ps))) ≡ reversed_ring (places ps)
turned_part [] rest k h e f = absurd (omega arith)
turned_part (p ∷ ps) rest k h e f =
    let all : k ≡ length ps = omega arith in
    let out : length ps ≤ k = omega arith in
    let whole : take k ps ≡ ps = rw all (take-length ps) in
    let none : drop k ps ≡ [] = drop_all k ps out in
    ap (λ (s : List Point). place_of p ∷ places (rest ++ s)) none
    ∙ ap (λ (s : List Point). place_of p ∷ places s) (append-nil rest ∙ f ∙ ap reverse whole)
    ∙ ap (λ (s : List Place). place_of p ∷ s) (map-reverse ps)

pub area-reversed_ring : (ring : List Place) → area_of (ring_edges (reversed_ring ring)) ≡ pos 0 -ℤ area_of (ring_edges ring)
area-reversed_ring [] = refl
area-reversed_ring (p ∷ ps) = ring-turned p ps

pub put_left : (ring : List Place) → area_of (ring_edges ring) <ℤ pos 0 → counterclockwise_ring ring ≡ reversed_ring ring
put_left ring h = let t : int_lt (area_of (ring_edges ring)) (pos 0) ≡ true = sym (omega (arith, ints)) in rw t refl

-- the elements of a `Vec` after a write to all of them
pub all_written : {X : Type 0} (new old : List X) (n : ℕ) → length new ≡ length old → n ≡ length old
    → take n (new ++ drop (length new) old) ≡ new
all_written {X} new old n e f =
    let none : drop (length new) old ≡ [] = drop_all (length new) old (omega arith) in
    let all : n ≡ length new = omega arith in
    ap (λ (s : List X). take n (new ++ s)) none ∙ ap (λ (s : List X). take n s) (append-nil new) ∙ rw all (take-length new)

length-reversed_ring : (ring : List Place) → length (reversed_ring ring) ≡ length ring
length-reversed_ring [] = refl
length-reversed_ring (p ∷ ps) = ap suc (length-reverse ps)

length_left : (ring : List Place) → length (counterclockwise_ring ring) ≡ length ring
length_left ring =
    either_way (int_lt (area_of (ring_edges ring)) (pos 0))
    (λ t. rw t (length-reversed_ring ring))
    (λ f. rw f refl)

pub length-ring_of : (listed : List Place) → length (ring_of listed) ≡ length listed - 1
length-ring_of listed =
    length_left (take (length listed - 1) listed) ∙ length-take-le (length listed - 1) listed (omega arith)

-- the results of the checks imply that the ring is an outline
pub outlined : (ps : List Point) (listed : List Place) (area : ℤ) → places ps ≡ ring_of listed → 4 ≤ length listed → length listed ≤ 201
    → area ≡ area_of (ring_edges (places ps)) → pos 0 ≤ℤ area → ¬ (area ≡ pos 0) → area ≤ℤ pos 1000000000000000000
    → HaveLength (places ps) × AllMeetOnlyAtJoints (places ps) → IsOutline (places ps)
outlined ps listed area is some few e left wide small apart =
    let n : length (places ps) ≡ length listed - 1 = ap length is ∙ length-ring_of listed in
    record {
      some = omega arith;
      few = omega arith;
      near = near_points ps;
      simple = record { long = apart.0; apart = apart.1; wide = λ z. wide (e ∙ z) };
      left = by_lt_z (pos 0) area (λ h. rw e at h) (λ h. absurd (wide (omega (arith, ints))));
      small = omega (arith, ints, e);
    }

pub ring_of-points : (ring kept listed : List Point) (n : ℕ) → places ring ≡ counterclockwise_ring (places kept) → kept ≡ take (n - 1) listed
    → n ≡ length listed → places ring ≡ ring_of (places listed)
ring_of-points ring kept listed n e k m =
    let l : n ≡ length (places listed) = m ∙ sym (length-map listed place_of) in
    e ∙ ap (λ (s : List Point). counterclockwise_ring (places s)) k ∙ ap counterclockwise_ring (sym (take-map place_of (n - 1) listed))
    ∙ ap (λ (j : ℕ). counterclockwise_ring (take (j - 1) (places listed))) l
