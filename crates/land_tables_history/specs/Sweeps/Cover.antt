-- Required moments are provided, key by key.
use Rattle.std.specs.Prelude.{◌≡◌, ℕ, ℤ, Bool, true, not, ◌&&◌, ◌==◌, int_le, int_lt, List}
use Rattle.std.specs.List.{list_any}
use Rattle.land_tables_history.specs.declared.sweeps.cover.CoverageSpan.{CoverageSpan}

-- a span of this key includes the moment; it includes its start, and not its end
abbrev pub is_at : (first second : ℕ) → (t : ℤ) → CoverageSpan → Bool
is_at first second t x = (x.first == first) && (x.second == second) && int_le x.since t && int_lt t x.until

-- some span provides the key at a moment
abbrev pub is_provided : List CoverageSpan → (first second : ℕ) → (t : ℤ) → Bool
is_provided coverage_spans first second t = list_any (λ x. not x.required && is_at first second t x)
    coverage_spans

-- some span requires the key at a moment
abbrev pub is_required : List CoverageSpan → (first second : ℕ) → (t : ℤ) → Bool
is_required coverage_spans first second t = list_any (λ x. x.required && is_at first second t x)
    coverage_spans

-- each key is provided at each moment at which it is required
abbrev pub IsCovered : List CoverageSpan → Type 0
IsCovered coverage_spans =
    (first second : ℕ) (t : ℤ) → is_required coverage_spans first second t ≡ true
    → is_provided coverage_spans first second t ≡ true
