-- Starts and ends in order: the current values are checked at each of them.
use Rattle.std.specs.Prelude.{Bool, true, ◌&&◌, ◌||◌, ◌==◌, nat_lt, int_le, List, [], ◌∷◌, ◌++◌, filter}
use Rattle.std.specs.Prelude.{map as map_list, if◌then◌else◌}
use Rattle.std.specs.Ordering.{int_cmp, nat_cmp, ordering_then}
use Rattle.std.specs.declared.cmp.Ordering.{Ordering}
use Rattle.land_tables_history.specs.Sweeps.Sweep.{is_at}
use Rattle.land_tables_history.specs.declared.sweeps.sweep.LiveSpan.{LiveSpan}
use Rattle.land_tables_history.specs.declared.sweeps.sweep.Tick.{Tick}

-- by key, then by start and end
abbrev pub live_span_cmp : {T : Type 0} → (T → T → Ordering) → LiveSpan T → LiveSpan T → Ordering
live_span_cmp R a b =
    ordering_then (nat_cmp a.key b.key) (ordering_then (int_cmp a.since b.since)
    (ordering_then (int_cmp a.until b.until) (R a.what b.what)))

-- by key, then by moment
abbrev pub tick_cmp : Tick → Tick → Ordering
tick_cmp a b = ordering_then (nat_cmp a.key b.key) (int_cmp a.at b.at)

-- the start of a span
abbrev pub span_start : {T : Type 0} → LiveSpan T → Tick
span_start x = record { key = x.key; at = x.since }

-- its end
abbrev pub end : {T : Type 0} → LiveSpan T → Tick
end x = record { key = x.key; at = x.until }

-- all starts and ends
abbrev pub all_ticks : {T : Type 0} → List (LiveSpan T) → List Tick
all_ticks live_spans = map_list span_start live_spans ++ map_list end live_spans

-- a span has an earlier key, or has started
abbrev pub is_begun_by : {T : Type 0} → Tick → LiveSpan T → Bool
is_begun_by tick x = nat_lt x.key tick.key || (x.key == tick.key) && int_le x.since tick.at

-- the spans of a sorted list that start by a tick
abbrev pub begun_by : {T : Type 0} → Tick → List (LiveSpan T) → List (LiveSpan T)
begun_by tick [] = []
begun_by tick (x ∷ xs) = if is_begun_by tick x then x ∷ begun_by tick xs else []

-- the spans that start later
abbrev pub left_by : {T : Type 0} → Tick → List (LiveSpan T) → List (LiveSpan T)
left_by tick [] = []
left_by tick (x ∷ xs) = if is_begun_by tick x then left_by tick xs else x ∷ xs

-- the current values, and those that start later, are checked tick by tick
abbrev pub sound_from : {T : Type 0} → (List T → Bool) → (there later : List (LiveSpan T)) → List Tick → Bool
sound_from is_sound there later [] = true
sound_from is_sound there later (tick ∷ ticks) =
    is_sound (map_list (λ x. x.what) (filter (is_at tick.key tick.at) (there ++ begun_by tick later)))
    && sound_from is_sound (filter (is_at tick.key tick.at) (there ++ begun_by tick later))
    (left_by tick later) ticks
