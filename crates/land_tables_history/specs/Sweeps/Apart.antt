-- Disjoint spans of time per key.
use Rattle.std.specs.Prelude.{ℤ, ◌≤◌, Bool, true, not, ◌&&◌, int_le, int_lt, List, [], ◌∷◌, filter, length}
use Rattle.std.specs.List.{list_any}
use Rattle.std.specs.Ordering.{eq_by_cmp}
use Rattle.std.specs.declared.cmp.Ordering.{Ordering}
use Rattle.land_tables_history.specs.declared.sweeps.apart.Span.{Span}

-- a span of this key includes the moment; it includes its start, and not its end
abbrev pub is_at : {K : Type 0} → (K → K → Ordering) → (key : K) → (t : ℤ) → Span K → Bool
is_at R key t x = eq_by_cmp R x.key key && int_le x.since t && int_lt t x.until

-- at most one span of each key includes each moment
abbrev pub AreApart : {K : Type 0} → (K → K → Ordering) → List (Span K) → Type 0
AreApart {K} R spans = (key : K) (t : ℤ) → length (filter (is_at R key t) spans) ≤ 1

-- ---- the same for pairs

-- two spans of one key overlap: each starts before the other ends
abbrev pub overlap : {K : Type 0} → (K → K → Ordering) → Span K → Span K → Bool
overlap R a b = eq_by_cmp R a.key b.key && int_lt a.since b.until && int_lt b.since a.until

-- no span overlaps a later span of the list with its key
abbrev pub are_apart : {K : Type 0} → (K → K → Ordering) → List (Span K) → Bool
are_apart R [] = true
are_apart R (x ∷ xs) = not (list_any (overlap R x) xs) && are_apart R xs
