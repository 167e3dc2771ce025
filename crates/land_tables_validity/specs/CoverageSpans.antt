-- Coverage spans of versions.
use Rattle.std.specs.Prelude.{◌≡◌, ℕ, ℤ, Bool, true, false, int_lt, List, ◌++◌, map as map_list}
use Rattle.std.specs.List.{list_all}
use Rattle.land_tables_history.specs.Open.{never}
use Rattle.land_tables_history.specs.declared.moment.Moment.{Moment}
use Rattle.land_tables_history.specs.declared.version.Version.{Version}
use Rattle.land_tables_history.specs.declared.sweeps.cover.CoverageSpan.{CoverageSpan}

abbrev pub provided_at : (key : ℕ) → (since until : ℤ) → CoverageSpan
provided_at key since until = record
    { first = key; second = 0; since = since; required = false; until = until }

abbrev pub required_at : (key : ℕ) → (since until : ℤ) → CoverageSpan
required_at key since until = record
    { first = key; second = 0; since = since; required = true; until = until }

-- a version provides its key during its lifespan
abbrev pub provided_span : {X : Type 0} → (key : X → ℕ) → Version X → CoverageSpan
provided_span key v = provided_at (key v.what) v.since v.until

-- a version requires the number that it refers to during its lifespan
abbrev pub required_span : {X : Type 0} → (key : X → ℕ) → Version X → CoverageSpan
required_span key v = required_at (key v.what) v.since v.until

abbrev pub coverage_spans : {X Y : Type 0} → (provided : X → ℕ) → List (Version X) → (required : Y → ℕ)
    → List (Version Y)
    → List CoverageSpan
coverage_spans provided xs required ys = map_list (provided_span provided) xs
    ++ map_list (required_span required) ys

-- each span starts before it ends
abbrev pub AreNonempty : List CoverageSpan → Type 0
AreNonempty spans = list_all (λ x. int_lt x.since x.until) spans ≡ true

-- all stamps are before `never`
abbrev pub are_in_range : List Moment → Bool
are_in_range moments = list_all (λ m. int_lt m.stamp never) moments
