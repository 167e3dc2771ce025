-- The stamp up to which a history counts.
use Rattle.std.specs.List.Sorted.{IsPermutation}
use Rattle.std.specs.Option.{option_map_or}
use Rattle.std.specs.Prelude.{◌≡◌, ℤ, pos, int_le, List}
use Rattle.land_tables_history.specs.Moments.{latest}
use Rattle.land_tables_history.specs.declared.moment.Moment.{Moment}

-- the last stamp at or before a time, or 0 if there is none
abbrev pub last_stamp_at : List Moment → (at : ℤ) → ℤ
last_stamp_at moments at = option_map_or (λ m. m.stamp) (latest (λ m. int_le m.stamp at) moments) (pos 0)

-- the last stamp at or before a time does not depend on the order of the moments
abbrev pub LastStampIgnoresOrder : Type 0
LastStampIgnoresOrder =
    (ones others : List Moment) (at : ℤ) → IsPermutation ones others
    → last_stamp_at ones at ≡ last_stamp_at others at
