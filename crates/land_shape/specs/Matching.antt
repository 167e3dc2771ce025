-- Lists of rings that have the same ground, in terms of signed edges
use Rattle.std.specs.Prelude.{◌≡◌, ◌↔◌, ℕ, ℤ, Bool, List, [], ◌∷◌, ◌++◌, pos, ◌&&◌, not, if◌then◌else◌}
use Rattle.std.specs.Prelude.{count_by, int_le, int_lt, ◌-ℤ◌, ◌<ℤ◌, sum_by, IsTrue}
use Rattle.std.specs.List.{AllByRecursion, list_all}
use Rattle.std.specs.Ordering.{int_eq}
use Rattle.std.specs.Int.{int_min, int_max}
use Rattle.land_shape.specs.Coordinate.{cross_of}
use Rattle.land_shape.specs.Outline.{doubled_area}
use Rattle.land_shape.specs.Place.{Place, Edge, is_same_place, ring_edges, area_of}
use Rattle.land_shape.specs.Segment.{HaveCommonPoint}

-- whether x lies between two ends, inclusive
abbrev pub is_between : ℤ → ℤ → ℤ → Bool
is_between a b x = int_le (int_min a b) x && int_le x (int_max a b)

-- whether a place lies on the line through an edge
abbrev pub is_on_line : Place → Edge → Bool
is_on_line p e =
    int_eq
    (cross_of (e.to.x -ℤ e.from.x) (e.to.y -ℤ e.from.y) (p.x -ℤ e.from.x) (p.y -ℤ e.from.y))
    (pos 0)

-- whether a place lies in the box around an edge
abbrev pub is_in_box : Place → Edge → Bool
is_in_box p e = is_between e.from.x e.to.x p.x && is_between e.from.y e.to.y p.y

-- whether a place lies on an edge
abbrev pub lies_on : Place → Edge → Bool
lies_on p e = is_on_line p e && is_in_box p e

-- whether a place lies on an edge but not at its ends
abbrev pub lies_inside : Place → Edge → Bool
lies_inside p e = not (is_same_place p e.from) && not (is_same_place p e.to) && lies_on p e

-- an edge, in two pieces if the place lies inside it
abbrev pub cut_edge : Place → Edge → List Edge
cut_edge p e =
    if lies_inside p e then record { from = e.from; to = p } ∷ record { from = p; to = e.to } ∷ []
    else e ∷ []

-- each edge that goes through a place cut there
abbrev pub cut_at : Place → List Edge → List Edge
cut_at p [] = []
cut_at p (e ∷ es) = cut_edge p e ++ cut_at p es

-- edges cut at each of the places
abbrev pub pieces : List Place → List Edge → List Edge
pieces [] es = es
pieces (p ∷ ps) es = pieces ps (cut_at p es)

-- the edges of some rings
abbrev pub edges_of : List (List Place) → List Edge
edges_of [] = []
edges_of (ring ∷ rings) = ring_edges ring ++ edges_of rings

-- the corners of some rings
abbrev pub places_of : List (List Place) → List Place
places_of [] = []
places_of (ring ∷ rings) = ring ++ places_of rings

-- an edge the other way round
abbrev pub reversed_edge : Edge → Edge
reversed_edge e = record { from = e.to; to = e.from }

-- whether two edges have the same start and the same end
abbrev pub is_same_edge : Edge → Edge → Bool
is_same_edge e f = is_same_place e.from f.from && is_same_place e.to f.to

-- the number of occurrences of an edge in a list
abbrev pub count_of : Edge → List Edge → ℕ
count_of e es = count_by (λ f. is_same_edge f e) es

-- the balance of a list along an edge: the occurrences of the edge minus those of the reversed edge
abbrev pub count_along : Edge → List Edge → ℤ
count_along e es = pos (count_of e es) -ℤ pos (count_of (reversed_edge e) es)

-- two lists of edges have the same balance along every edge
abbrev pub HaveSameBalance : List Edge → List Edge → Type 0
HaveSameBalance ours theirs = (e : Edge) → count_along e ours ≡ count_along e theirs

-- two lists of rings have the same ground: their edges, each cut at every corner of any of the rings, have
-- the same balance
unfoldable pub Match : List (List Place) → List (List Place) → Type 0
Match rings others =
    let corners = places_of (rings ++ others) in
    HaveSameBalance (pieces corners (edges_of rings)) (pieces corners (edges_of others))

-- whether two lists of edges have the same balance along an edge
abbrev pub have_same_balance_along : List Edge → List Edge → Edge → Bool
have_same_balance_along ours theirs e = int_eq (count_along e ours) (count_along e theirs)

-- the test for the same ground: the pieces of both have the same balance along each piece that occurs
unfoldable pub passes_matching_test : List (List Place) → List (List Place) → Bool
passes_matching_test rings others =
    let corners = places_of (rings ++ others) in
    let ours = pieces corners (edges_of rings) in
    let theirs = pieces corners (edges_of others) in
    list_all (have_same_balance_along ours theirs) (ours ++ theirs)

-- the test decides whether lists of rings match
abbrev pub TestLaw : Type 0
TestLaw = (rings others : List (List Place)) → IsTrue (passes_matching_test rings others) ↔ Match rings others

-- whether a ring runs counterclockwise, as each outline does
abbrev pub runs_counterclockwise : List Place → Bool
runs_counterclockwise ring = int_lt (pos 0) (area_of (ring_edges ring))

-- the ring runs counterclockwise
abbrev pub IsCounterclockwise : List Place → Type 0
IsCounterclockwise ring = pos 0 <ℤ area_of (ring_edges ring)

-- rings that match have equal sums of doubled areas
abbrev pub MatchingLaw : Type 0
MatchingLaw = (rings others : List (List Place)) → AllByRecursion IsCounterclockwise rings
    → AllByRecursion IsCounterclockwise others
    → Match rings others → sum_by doubled_area rings ≡ sum_by doubled_area others

-- a place lies on an edge if and only if it is a point of the edge
abbrev pub LiesLaw : Type 0
LiesLaw = (p : Place) (e : Edge) → IsTrue (lies_on p e) ↔ HaveCommonPoint e.from e.to p p
