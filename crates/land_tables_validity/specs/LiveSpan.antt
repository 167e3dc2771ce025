-- Values under a key, with the lifespans of versions.
use Rattle.std.specs.Prelude.{ℕ, ℤ, Bool, not, ◌||◌, List, map as map_list}
use Rattle.std.specs.List.{list_any}
use Rattle.land_tables_history.specs.declared.version.Version.{Version}
use Rattle.land_tables_history.specs.declared.sweeps.sweep.LiveSpan.{LiveSpan}

-- a value under a key, with a lifespan
abbrev pub live_span_at : {T : Type 0} → (key : ℕ) → (what : T) → (since until : ℤ) → LiveSpan T
live_span_at key what since until = record { key = key; since = since; until = until; what = what }

-- the value of a version under a key, with its lifespan
abbrev pub live_span : {X T : Type 0} → (key : X → ℕ) → (what : X → T) → Version X → LiveSpan T
live_span key what v = live_span_at (key v.what) (what v.what) v.since v.until

-- likewise for each version of a list
abbrev pub live_spans_of : {X T : Type 0} → (key : X → ℕ) → (what : X → T) → List (Version X)
    → List (LiveSpan T)
live_spans_of key what vs = map_list (live_span key what) vs

-- only the values
abbrev pub span_values : {T : Type 0} → List (LiveSpan T) → List T
span_values xs = map_list (λ x. x.what) xs

-- if one of the values is marked, all values together pass a test
abbrev pub if_any_marked : {T : Type 0} → (set_entries : T → Bool) → (List T → Bool) → List T → Bool
if_any_marked set_entries test xs = not (list_any set_entries xs) || test xs
