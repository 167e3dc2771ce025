-- Coverage spans with keys of two numbers.
use Rattle.std.specs.Prelude.{ℕ, ℤ, Bool, true, false, List, ◌++◌, flat_map, map as map_list}
use Rattle.land_tables_history.specs.declared.version.Version.{Version}
use Rattle.land_tables_history.specs.declared.sweeps.cover.CoverageSpan.{CoverageSpan}

-- a key of two numbers is required or provided
abbrev pub pair_at : (required : Bool) → (first second : ℕ) → (since until : ℤ) → CoverageSpan
pair_at required first second since until =
    record { first = first; second = second; since = since; required = required; until = until }

-- a version requires or provides its keys during its lifespan
abbrev pub key_spans : {X : Type 0} → (required : Bool) → (keys : X → List (ℕ × ℕ)) → Version X
    → List CoverageSpan
key_spans required keys v = map_list (λ k. pair_at required k.0 k.1 v.since v.until) (keys v.what)

-- some versions provide their keys, and others require theirs
abbrev pub key_pairs : {X Y : Type 0} → (provided : X → List (ℕ × ℕ)) → List (Version X)
    → (required : Y → List (ℕ × ℕ)) → List (Version Y) → List CoverageSpan
key_pairs provided xs required ys =
    flat_map (key_spans false provided) xs ++ flat_map (key_spans true required) ys
