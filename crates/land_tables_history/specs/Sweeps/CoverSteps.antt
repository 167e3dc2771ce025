-- Spans in order: how far a key is provided without a gap, and how far it is required.
use Rattle.std.specs.Prelude.{ℤ, Bool, true, false, ◌&&◌, ◌==◌, int_le, int_lt, List, [], ◌∷◌, Option, Some}
use Rattle.std.specs.Prelude.{None, if◌then◌else◌}
use Rattle.std.specs.Option.{option_map_or}
use Rattle.std.specs.Ordering.{bool_cmp, int_cmp, nat_cmp, ordering_then}
use Rattle.std.specs.declared.cmp.Ordering.{Ordering}
use Rattle.land_tables_history.specs.declared.sweeps.cover.CoverageSpan.{CoverageSpan}
use Rattle.land_tables_history.specs.declared.sweeps.cover.Reach.{Reach}

-- by key, then by start; provided spans come before required ones
abbrev pub coverage_span_cmp : CoverageSpan → CoverageSpan → Ordering
coverage_span_cmp a b = ordering_then (nat_cmp a.first b.first) (ordering_then (nat_cmp a.second b.second)
    (ordering_then (int_cmp a.since b.since) (ordering_then (bool_cmp a.required b.required)
    (int_cmp a.until b.until))))

-- the later of two moments
abbrev pub later : ℤ → ℤ → ℤ
later a b = if int_lt a b then b else a

-- a span has the key of the reach
abbrev pub is_same_key : Reach → CoverageSpan → Bool
is_same_key s x = (s.first == x.first) && (s.second == x.second)

-- a provided span after a gap starts a new reach
abbrev pub first_reach : CoverageSpan → Reach
first_reach x =
    record { first = x.first; second = x.second; since = x.since; reach = x.until; need = x.since }

-- a required span must start within the reach
abbrev pub with_required : Reach → CoverageSpan → Option Reach
with_required s x =
    if is_same_key s x && int_lt x.since s.reach then
    Some (record s { need = later s.need x.until })
    else None

-- a provided span extends the reach, or starts a new one after a gap, if all required moments before the gap
-- are provided
abbrev pub with_provided : Reach → CoverageSpan → Option Reach
with_provided s x =
    if is_same_key s x && int_le x.since s.reach then Some (record s { reach = later s.reach x.until })
    else if int_le s.need s.reach then Some (first_reach x) else None

-- the reach after one more span, if all required moments can still be provided
abbrev pub cover_step : Option Reach → CoverageSpan → Option Reach
cover_step None x = if x.required then None else Some (first_reach x)
cover_step (Some s) x = if x.required then with_required s x else with_provided s x

-- all required moments are within the reach
abbrev pub ends_well : Option Reach → Bool
ends_well None = true
ends_well (Some s) = int_le s.need s.reach

-- all required moments of the remaining spans are provided, from this reach on
abbrev pub covered_from : Option Reach → List CoverageSpan → Bool
covered_from reached [] = ends_well reached
covered_from reached (x ∷ xs) = option_map_or (λ s. covered_from (Some s) xs) (cover_step reached x) false
