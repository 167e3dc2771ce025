-- The latest of a history's commits, which may be in any order.
use Rattle.std.specs.Prelude.{ℕ, ℤ, Bool, true, ◌&&◌, int_le, List, fold, Option, Some, None, if◌then◌else◌}
use Rattle.std.specs.Option.{option_map_or}
use Rattle.land_tables_history.specs.declared.moment.Moment.{Moment}

-- a commit is not earlier than the one found until now, if any
abbrev pub follows : Option Moment → Moment → Bool
follows None m = true
follows (Some found) m = int_le found.stamp m.stamp

-- the latest of the commit found, if any, and those that pass a test; of several with one stamp the last in
-- the list
abbrev pub latest_from : (Moment → Bool) → Option Moment → List Moment → Option Moment
latest_from passes start moments =
    fold (λ found m. if passes m && follows found m then Some m else found) start moments

-- the latest commit that passes a test
abbrev pub latest : (Moment → Bool) → List Moment → Option Moment
latest passes moments = latest_from passes None moments

-- the latest commit
abbrev pub last : List Moment → Option Moment
last moments = latest (λ m. true) moments

-- the next number of the latest commit at or before `t`, or 2 without one
abbrev pub next_number_at : List Moment → ℤ → ℕ
next_number_at moments t = option_map_or (λ m. m.next) (latest (λ m. int_le m.stamp t) moments) 2
