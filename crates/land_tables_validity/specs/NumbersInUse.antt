-- Numbers that are in range when their versions start.
use Rattle.std.specs.Prelude.{ℕ, ℤ, Bool, true, not, ◌&&◌, nat_lt, List, [], ◌∷◌, Option, Some, None}
use Rattle.std.specs.Prelude.{if◌then◌else◌}
use Rattle.std.specs.List.{list_all}
use Rattle.std.specs.Ordering.{int_eq}
use Rattle.land_core.specs.Numbers.{last_next}
use Rattle.land_core.specs.Units.{rank_of}
use Rattle.land_core.specs.declared.rrr.RrrRecord.{RrrRecord}
use Rattle.land_tables_history.specs.declared.history.History.{History}
use Rattle.land_tables_history.specs.declared.moment.Moment.{Moment}
use Rattle.land_tables_history.specs.declared.version.Version.{Version}

-- the next number at a stamp, or 0 if it is not the stamp of a commit
abbrev pub next_since : List Moment → ℤ → ℕ
next_since [] t = 0
next_since (m ∷ ms) t = if int_eq m.stamp t then m.next else next_since ms t

-- a number is at least 1, and below the next number
abbrev pub is_number_in_use : (number next : ℕ) → Bool
is_number_in_use number next = nat_lt 0 number && nat_lt number next

-- likewise for a rank, if there is one
abbrev pub is_rank_in_range : Option ℕ → (next : ℕ) → Bool
is_rank_in_range None next = true
is_rank_in_range (Some rank) next = is_number_in_use rank next

abbrev pub has_number_in_range : {V : Type 0} → ℕ × V → (next : ℕ) → Bool
has_number_in_range e next = is_number_in_use e.0 next

abbrev pub has_rank_in_range : ℕ × RrrRecord → (next : ℕ) → Bool
has_rank_in_range e next = is_rank_in_range (rank_of e.1.class) next

abbrev pub has_numbers_in_range : ℕ × RrrRecord → (next : ℕ) → Bool
has_numbers_in_range e next = is_number_in_use e.0 next && is_rank_in_range (rank_of e.1.class) next

-- a version passes a test, by the next number at its start
abbrev pub passes_since : {X : Type 0} → (X → ℕ → Bool) → List Moment → Version X → Bool
passes_since test moments v = test v.what (next_since moments v.since)

-- numbers are left at each commit
abbrev pub are_numbers_left : List Moment → Bool
are_numbers_left moments = list_all (λ m. not (nat_lt last_next m.next)) moments

-- numbers are left, and all numbers and ranks are in range when their versions start
abbrev pub are_all_in_range : List Moment → History → Bool
are_all_in_range ms h =
    are_numbers_left ms && list_all (passes_since has_number_in_range ms) h.parties
    && list_all (passes_since has_number_in_range ms) h.units
    && list_all (passes_since has_number_in_range ms) h.parcels
    && list_all (passes_since has_numbers_in_range ms) h.rrrs
    && list_all (passes_since has_number_in_range ms) h.sources
    && list_all (passes_since has_number_in_range ms) h.mutations
