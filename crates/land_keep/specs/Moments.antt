-- Moments, in Unix milliseconds: now from a reading of the clock, and the stamps of changes.
use Rattle.std.specs.Prelude.{◌||◌, Option, Some, None, ℤ, pos, ◌+ℤ◌, int_lt, if◌then◌else◌}
use Rattle.std.specs.Int.{int_min, int_max}
use Rattle.land_core.specs.Numbers.{last_moment}

-- a reading below 0 counts as 0
abbrev pub reading_of : ℤ → ℤ
reading_of clock = int_max clock (pos 0)

-- now, for a read: the clock, but at least the last stamp and at most the last moment
abbrev pub now_after : (clock last : ℤ) → ℤ
now_after clock last = int_max (int_min (reading_of clock) last_moment) last

-- the stamp of a change: the clock, but after the last stamp; none after the last moment
abbrev pub stamp_after : (clock last : ℤ) → Option ℤ
stamp_after clock last =
    if int_lt last_moment clock || int_lt last_moment (last +ℤ pos 1) then None
    else Some (int_max (reading_of clock) (last +ℤ pos 1))
