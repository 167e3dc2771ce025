-- Walks from left to right over all corners, which yield the pieces of edges
use Rattle.std.specs.Prelude.{◌≡◌, Bool, false, List, [], ◌∷◌, ◌++◌, if◌then◌else◌}
use Rattle.std.specs.declared.cmp.Ordering.{Ordering}
use Rattle.std.specs.List.{AllByRecursion}
use Rattle.std.specs.Ordering.{int_cmp, ordering_then, is_lt}
use Rattle.land_shape.specs.Faults.{SomeOf}
use Rattle.land_shape.specs.Matching.{lies_inside, count_of}
use Rattle.land_shape.specs.Place.{Place, Edge}

-- the order of places: from left to right, then from bottom to top
abbrev pub place_cmp : Place → Place → Ordering
place_cmp p q = ordering_then (int_cmp p.x q.x) (int_cmp p.y q.y)

-- the order of edges: by start and then by end
abbrev pub edge_cmp : Edge → Edge → Ordering
edge_cmp e f = ordering_then (place_cmp e.from f.from) (place_cmp e.to f.to)

-- whether a place comes before another
abbrev pub is_before : Place → Place → Bool
is_before p q = is_lt (place_cmp p q)

-- whether an edge comes before another
abbrev pub edge_before : Edge → Edge → Bool
edge_before e f = is_lt (edge_cmp e f)

-- the list is sorted: no element is before an earlier one
abbrev pub IsAscendingBy : {X : Type 0} → (X → X → Bool) → List X → Type 0
IsAscendingBy before [] = Unit {0}
IsAscendingBy before (x ∷ xs) = AllByRecursion (λ y. before y x ≡ false) xs × IsAscendingBy before xs

-- the place is one of the list
abbrev pub IsOneOf : Place → List Place → Type 0
IsOneOf p ps = SomeOf (λ q. p ≡ q) ps

-- two lists contain each edge equally often
abbrev pub HaveSameEdges : List Edge → List Edge → Type 0
HaveSameEdges es fs = (e : Edge) → count_of e es ≡ count_of e fs

-- the pieces of the edge from `last` to `end`: each ends at the next place that lies inside the remaining
-- edge
abbrev pub walk : Place → Place → List Place → List Edge
walk last end [] = record { from = last; to = end } ∷ []
walk last end (p ∷ ps) =
    if lies_inside p (record { from = last; to = end }) then record { from = last; to = p } ∷ walk p end ps
    else walk last end ps

-- the pieces of those edges that lead to a later place
abbrev pub walks : List Place → List Edge → List Edge
walks ps [] = []
walks ps (e ∷ es) = (if is_before e.from e.to then walk e.from e.to ps else []) ++ walks ps es
