-- Rings whose cut edges agree have equal sums of areas
use Rattle.std.proofs.Common.{◌≡◌, ℕ, ◌+◌, Bool, true, false, cond, List, [], ◌∷◌, ◌++◌, ◌&&◌, not, map, refl, sym, ap, ◌∙◌, arith, sum_by}
use Rattle.std.proofs.lemmas.Int.{ints}
use Rattle.std.proofs.lemmas.List.Sums.{sum_by-cons}
use Rattle.std.proofs.lemmas.Bool.Decides.{Decides-int_eq}
use Rattle.std.specs.List.{AllByRecursion}
use Rattle.std.specs.Ordering.{int_eq}
use Rattle.std.proofs.lemmas.Bool.{and_from}
use lib.IntN.{ℤ, pos, ◌+ℤ◌, ◌-ℤ◌}
use Rattle.land_shape.specs.Coordinate.{cross_of}
use Rattle.land_shape.specs.Place.{Place, Edge, is_same_place, ring_edges, edge_area, area_of}
use Rattle.land_shape.specs.Matching.{lies_inside, lies_on, is_on_line, is_in_box, is_same_edge, reversed_edge, cut_at, pieces, edges_of, places_of, count_of, count_along, Match, MatchingLaw, IsCounterclockwise}
use Rattle.land_shape.specs.Outline.{doubled_area}
use Rattle.land_shape.proofs.Tallies.{total, tally, total-append, tally-append, total-same_tallies, either_way}
use Rattle.land_shape.proofs.Expressions.{var, num, ◌⊕◌, ◌⊖◌, ◌⊗◌, by_parts, parts_eq}

pub and_left : (a b : Bool) → (a && b) ≡ true → a ≡ true
and_left true b h = refl
and_left false b h = cc

pub and_right : (a b : Bool) → (a && b) ≡ true → b ≡ true
and_right true b h = h
and_right false b h = cc

and_comm : (a b : Bool) → (a && b) ≡ (b && a)
and_comm true true = refl
and_comm true false = refl
and_comm false true = refl
and_comm false false = refl

pub same_place_is : (p q : Place) → is_same_place p q ≡ true → p ≡ q
same_place_is p q h =
    let ex : p.x ≡ q.x = (Decides-int_eq p.x q.x).0 (and_left (int_eq p.x q.x) (int_eq p.y q.y) h) in
    let ey : p.y ≡ q.y = (Decides-int_eq p.y q.y).0 (and_right (int_eq p.x q.x) (int_eq p.y q.y) h) in
    place_of ex ey
  where
    place_of : {a b c d : ℤ} → a ≡ b → c ≡ d → (let p : Place = record { x = a; y = c } in p) ≡ (let q : Place = record { x = b; y = d } in q)
    place_of e f = cc

pub same_place_itself : (p : Place) → is_same_place p p ≡ true
same_place_itself p = and_from _ _ ((Decides-int_eq p.x p.x).1 refl) ((Decides-int_eq p.y p.y).1 refl)

pub same_edge_is : (e f : Edge) → is_same_edge e f ≡ true → e ≡ f
same_edge_is e f h =
    let from = same_place_is e.from f.from (and_left (is_same_place e.from f.from) (is_same_place e.to f.to) h) in
    let to = same_place_is e.to f.to (and_right (is_same_place e.from f.from) (is_same_place e.to f.to) h) in
    edge_of from to
  where
    edge_of : {a b c d : Place} → a ≡ b → c ≡ d → (let p : Edge = record { from = a; to = c } in p) ≡ (let q : Edge = record { from = b; to = d } in q)
    edge_of e f = cc

pub same_edge_itself : (e : Edge) → is_same_edge e e ≡ true
same_edge_itself e = and_from _ _ (same_place_itself e.from) (same_place_itself e.to)

-- ---- counts

pub tally-count : (e : Edge) (es : List Edge) → tally is_same_edge e es ≡ count_of e es
tally-count e [] = refl
tally-count e (f ∷ es) = ap (λ (n : ℕ). cond (is_same_edge f e) 1 0 + n) (tally-count e es) ∙ sym (sum_by-cons (λ g. cond (is_same_edge g e) 1 0) f es)

tally-reversed_edge : (e : Edge) (es : List Edge) → tally is_same_edge e (map reversed_edge es) ≡ tally is_same_edge (reversed_edge e) es
tally-reversed_edge e [] = refl
tally-reversed_edge e (f ∷ es) =
    rw (and_comm (is_same_place f.to e.from) (is_same_place f.from e.to), tally-reversed_edge e es) refl

turn_back : (e : Edge) → edge_area (reversed_edge e) ≡ pos 0 -ℤ edge_area e
turn_back e =
    let a = var e.from.x in let b = var e.from.y in let c = var e.to.x in let d = var e.to.y in
    by_parts (c ⊗ b ⊖ d ⊗ a) (num 0 ⊖ (a ⊗ d ⊖ b ⊗ c)) (omega arith)

total-reversed_edge : (es : List Edge) → total edge_area (map reversed_edge es) ≡ pos 0 -ℤ total edge_area es
total-reversed_edge [] = refl
total-reversed_edge (e ∷ es) = omega (arith, ints, total-reversed_edge es, turn_back e)

total-area : (es : List Edge) → total edge_area es ≡ area_of es
total-area [] = refl
total-area (e ∷ es) = ap (λ (z : ℤ). edge_area e +ℤ z) (total-area es)

-- an area is settled by how much more often each pair of places is led through forth than back
same_area : (ps qs : List Edge)
    → ((e : Edge) → count_of e ps + count_of (reversed_edge e) qs ≡ count_of e qs + count_of (reversed_edge e) ps) → area_of ps ≡ area_of qs
same_area ps qs h =
    let counts : (e : Edge) → tally is_same_edge e (ps ++ map reversed_edge qs) ≡ tally is_same_edge e (qs ++ map reversed_edge ps)
    = λ e. rw (
      tally-append is_same_edge e ps (map reversed_edge qs),
      tally-append is_same_edge e qs (map reversed_edge ps),
      tally-reversed_edge e qs,
      tally-reversed_edge e ps,
      tally-count e ps,
      tally-count e qs,
      tally-count (reversed_edge e) ps,
      tally-count (reversed_edge e) qs,
    ) (h e) in
    let both = total-same_tallies is_same_edge same_edge_is same_edge_itself edge_area (ps ++ map reversed_edge qs) (qs ++ map reversed_edge ps) counts in
    omega (
      arith,
      ints,
      both,
      total-append edge_area ps (map reversed_edge qs),
      total-append edge_area qs (map reversed_edge ps),
      total-reversed_edge ps,
      total-reversed_edge qs,
      total-area ps,
      total-area qs,
    )

-- ---- cuts

area-append : (es fs : List Edge) → area_of (es ++ fs) ≡ area_of es +ℤ area_of fs
area-append [] fs = omega (arith, ints)
area-append (e ∷ es) fs = omega (arith, ints, area-append es fs)

on_line : (p : Place) (e : Edge) → lies_inside p e ≡ true
    → cross_of (e.to.x -ℤ e.from.x) (e.to.y -ℤ e.from.y) (p.x -ℤ e.from.x) (p.y -ℤ e.from.y) ≡ pos 0
on_line p e h =
    let g = and_right (not (is_same_place p e.from) && not (is_same_place p e.to)) (lies_on p e) h in
    (Decides-int_eq _ _).0 (and_left (is_on_line p e) (is_in_box p e) g)

cut_area : (p : Place) (e : Edge) → lies_inside p e ≡ true
    → edge_area e ≡ edge_area (record { from = e.from; to = p }) +ℤ edge_area (record { from = p; to = e.to })
cut_area p e h =
    let a = var e.from.x in let b = var e.from.y in let c = var e.to.x in let d = var e.to.y in let x = var p.x in let y = var p.y in
    by_parts (a ⊗ d ⊖ b ⊗ c) ((a ⊗ y ⊖ b ⊗ x) ⊕ (x ⊗ d ⊖ y ⊗ c))
    (omega (arith, parts_eq ((c ⊖ a) ⊗ (y ⊖ b) ⊖ (d ⊖ b) ⊗ (x ⊖ a)) (num 0) (on_line p e h)))

area-cut_at : (p : Place) (es : List Edge) → area_of (cut_at p es) ≡ area_of es
area-cut_at p [] = refl
area-cut_at p (e ∷ es) =
    either_way (lies_inside p e)
    (λ t. rw t (omega (arith, ints, area-cut_at p es, cut_area p e t)))
    (λ f. rw f (omega (arith, ints, area-cut_at p es)))

area-pieces : (ps : List Place) (es : List Edge) → area_of (pieces ps es) ≡ area_of es
area-pieces [] es = refl
area-pieces (p ∷ ps) es = area-pieces ps (cut_at p es) ∙ area-cut_at p es

-- ---- rings

ring_areas : (rings : List (List Place)) → AllByRecursion IsCounterclockwise rings → pos (sum_by doubled_area rings) ≡ area_of (edges_of rings)
ring_areas [] h = refl
ring_areas (r ∷ rs) h =
    let ih = ring_areas rs h.1 in
    let first = h.0 in
    omega (arith, ints, ih, first, area-append (ring_edges r) (edges_of rs), sum_by-cons doubled_area r rs)

pub matching_law : MatchingLaw
unfolding Match
matching_law rings others ours theirs m =
    let places = places_of (rings ++ others) in
    let e : area_of (pieces places (edges_of rings)) ≡ area_of (pieces places (edges_of others)) = same_area (pieces places (edges_of rings)) (pieces places (edges_of others)) (λ e. by_counts e (pieces places (edges_of rings)) (pieces places (edges_of others)) (m e)) in
    omega (arith, ints, ring_areas rings ours, ring_areas others theirs, e, area-pieces places (edges_of rings), area-pieces places (edges_of others))
  where
    by_counts : (e : Edge) (es fs : List Edge) → count_along e es ≡ count_along e fs → count_of e es + count_of (reversed_edge e) fs ≡ count_of e fs + count_of (reversed_edge e) es
    by_counts e es fs h = omega (arith, ints, h)
