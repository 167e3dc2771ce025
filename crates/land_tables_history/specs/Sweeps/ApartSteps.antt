-- Sorted spans: only neighbours of one key can overlap.
use Rattle.std.specs.Prelude.{Bool, true, false, not, ◌&&◌, List, [], ◌∷◌}
use Rattle.std.specs.Ordering.{int_cmp, ordering_then}
use Rattle.std.specs.declared.cmp.Ordering.{Ordering}
use Rattle.land_tables_history.specs.Sweeps.Apart.{overlap}
use Rattle.land_tables_history.specs.declared.sweeps.apart.Span.{Span}

-- by key, then by start and end
abbrev pub span_cmp : {K : Type 0} → (K → K → Ordering) → Span K → Span K → Ordering
span_cmp R a b =
    ordering_then (R a.key b.key) (ordering_then (int_cmp a.since b.since) (int_cmp a.until b.until))

-- a span overlaps the next one
abbrev pub overlaps_first : {K : Type 0} → (K → K → Ordering) → Span K → List (Span K) → Bool
overlaps_first R span [] = false
overlaps_first R span (next ∷ later) = overlap R span next

-- no span overlaps the next one
abbrev pub are_neighbours_apart : {K : Type 0} → (K → K → Ordering) → List (Span K) → Bool
are_neighbours_apart R [] = true
are_neighbours_apart R (span ∷ later) = not (overlaps_first R span later) && are_neighbours_apart R later
