-- The laws
use Rattle.std.proofs.Common.{◌≡◌, ℕ, ◌-◌, ◌<◌, ◌^◌, false, List, [], ◌∷◌, ◌++◌, length, take, map, refl, sym, ap, ◌∙◌, arith, codes, get_or}
use Rattle.std.proofs.lemmas.Int.{ints}
use Rattle.std.proofs.lemmas.List.{length-append}
use Rattle.std.specs.List.{AllByRecursion}
use Rattle.std.specs.Prelude.{int_lt}
use lib.IntN.{ℤ, pos, negsuc}
use lib.Signed.{◌<ℤ◌, mag}
use Rattle.land_shape.specs.declared.faults.ShapeFault.{ShapeFault}
use Rattle.land_shape.specs.declared.tokens.Token.TheVariants.{Word}
use Rattle.land_shape.specs.Coordinate.{IsCoordinate}
use Rattle.land_shape.specs.FaultTexts.{shape_fault_number}
use Rattle.land_shape.specs.Faults.{IsFirstFault, Denotes, AreLocatedAt}
use Rattle.land_shape.specs.Grammar.{body, IsPoint, IsPolygon}
use Rattle.land_shape.specs.Laws.{PrintedLaw, OneAnswerLaw}
use Rattle.land_shape.specs.Outline.{IsNear, IsOutline, counterclockwise_ring, ring_of}
use Rattle.land_shape.specs.Place.{Place, area_of, ring_edges}
use Rattle.land_shape.specs.Printed.{polygon_text}
use Rattle.land_shape.specs.Steps.{HasTwoWords, IsClosed}
use Rattle.land_shape.proofs.JudgeLemmas.{IsClosedList, stands, listed_once, same_fault}
use Rattle.land_shape.proofs.PrintedNumbers.{coordinate_printed}
use Rattle.land_shape.proofs.PrintedTokens.{words_of, IsSmall, printed_tokens}

-- ---- a printed ring is a plain list

small : (z : ℤ) → IsCoordinate z → mag z < 2 ^ 63
small (pos n) h = let up = h.1 in omega (arith, ints)
small (negsuc n) h = let down = h.0 in omega (arith, ints)

all_small : (ps : List Place) → AllByRecursion IsNear ps → AllByRecursion IsSmall ps
all_small [] h = tt
all_small (p ∷ ps) h = ((small p.x h.0.0, small p.y h.0.1), all_small ps h.1)

near_closed : (ps : List Place) (p : Place) → AllByRecursion IsNear ps → IsNear p → AllByRecursion IsNear (ps ++ p ∷ [])
near_closed [] p all h = (h, tt)
near_closed (q ∷ ps) p all h = (all.0, near_closed ps p all.1 h)

two_words_each : (ps : List Place) → AllByRecursion HasTwoWords (map words_of ps)
two_words_each [] = tt
two_words_each (p ∷ ps) = (refl, two_words_each ps)

points_each : (ps : List Place) → AllByRecursion IsPoint (map words_of ps)
points_each [] = tt
points_each (p ∷ ps) = ((omega arith, omega arith), points_each ps)

lists_printed : (ps : List Place) → AllByRecursion IsSmall ps → AreLocatedAt (map words_of ps) ps
lists_printed [] h = tt
lists_printed (p ∷ ps) h = ((coordinate_printed p.x h.0.0, coordinate_printed p.y h.0.1), lists_printed ps h.1)

printed_polygon : (p : Place) (ps : List Place) → AllByRecursion IsSmall ((p ∷ ps) ++ p ∷ [])
    → IsPolygon (polygon_text (p ∷ ps)) (body false (map words_of ((p ∷ ps) ++ p ∷ []) ∷ []))
printed_polygon p ps h = record {
  head = Word (codes "POLYGON") ∷ [];
  is_head = refl;
  is_body = (omega arith, ((omega arith, points_each ((p ∷ ps) ++ p ∷ [])), tt));
  whole = printed_tokens p ps h;
}

last_of : (ps : List Place) (p d : Place) (n : ℕ) → n ≡ length ps → get_or (ps ++ p ∷ []) n d ≡ p
last_of [] p d n e = rw e refl
last_of (q ∷ ps) p d n e = rw e (last_of ps p d (length ps) refl)

closed : (p : Place) (ps : List Place) → IsClosed ((p ∷ ps) ++ p ∷ [])
closed p ps =
    let n : length ((p ∷ ps) ++ p ∷ []) - 1 ≡ length (p ∷ ps) = omega (arith, length-append (p ∷ ps) (p ∷ [])) in
    last_of (p ∷ ps) p _ _ n

printed_list : (p : Place) (ps : List Place) → IsOutline (p ∷ ps) → IsClosedList (polygon_text (p ∷ ps)) ((p ∷ ps) ++ p ∷ [])
printed_list p ps o =
    let near = near_closed (p ∷ ps) p o.near o.near.0 in
    let few = all_small ((p ∷ ps) ++ p ∷ []) near in
    let n = length-append (p ∷ ps) (p ∷ []) in
    let a = o.some in let b = o.few in
    record {
      list = record {
        points = map words_of ((p ∷ ps) ++ p ∷ []);
        is_polygon = printed_polygon p ps few;
        two_words = two_words_each ((p ∷ ps) ++ p ∷ []);
        lists = lists_printed ((p ∷ ps) ++ p ∷ []) few;
        near = near;
      };
      some = omega (arith, n);
      few = omega (arith, n);
      closed = closed p ps;
    }

-- ---- its ring is the ring itself

without_last : (ps : List Place) (p : Place) (n : ℕ) → n ≡ length ps → take n (ps ++ p ∷ []) ≡ ps
without_last [] p n e = rw e refl
without_last (q ∷ ps) p n e = rw e (ap (λ (s : List Place). q ∷ s) (without_last ps p (length ps) refl))

stays : (ring : List Place) → pos 0 <ℤ area_of (ring_edges ring) → counterclockwise_ring ring ≡ ring
stays ring h =
    let f : int_lt (area_of (ring_edges ring)) (pos 0) ≡ false = sym (omega (arith, ints)) in rw f refl

own_ring : (p : Place) (ps : List Place) → IsOutline (p ∷ ps) → p ∷ ps ≡ ring_of ((p ∷ ps) ++ p ∷ [])
own_ring p ps o =
    let n : length ((p ∷ ps) ++ p ∷ []) - 1 ≡ length (p ∷ ps) = omega (arith, length-append (p ∷ ps) (p ∷ [])) in
    sym (ap counterclockwise_ring (without_last (p ∷ ps) p _ n) ∙ stays (p ∷ ps) o.left)

printed_stands : (ring : List Place) → IsOutline ring → Denotes (polygon_text ring) ring
printed_stands [] o = let some = o.some in absurd (omega arith)
printed_stands (p ∷ ps) o = stands (polygon_text (p ∷ ps)) ((p ∷ ps) ++ p ∷ []) (p ∷ ps) (printed_list p ps o) (own_ring p ps o) o

-- ---- the result is unique

one_ring : (text : List ℕ) (ring other : List Place) → Denotes text ring → Denotes text other → ring ≡ other
one_ring text ring other s t =
    s.is_ring ∙ ap ring_of (listed_once text s.places t.places s.listed t.listed) ∙ sym t.is_ring

less_or_more : (m n : ℕ) → ¬ (m < n) → ¬ (n < m) → m ≡ n
less_or_more m n h k = omega arith

one_fault : (text : List ℕ) (fault other : ShapeFault) → IsFirstFault text fault → IsFirstFault text other → fault ≡ other
one_fault text fault other f g =
    same_fault fault other
    (less_or_more (shape_fault_number fault) (shape_fault_number other) (λ l. g.none_before fault l f.holds) (λ l. f.none_before other l g.holds))

pub printed_law : PrintedLaw
printed_law = record {
  stands = printed_stands;
  alone = λ ring other o s. one_ring (polygon_text ring) other ring s (printed_stands ring o);
}

pub one_answer_law : OneAnswerLaw
one_answer_law = record { one_ring = one_ring; one_fault = one_fault; not_both = λ text ring fault s f. s.no_fault fault f.holds }
