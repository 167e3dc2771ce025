-- Readings of the system clock.
use Rattle.std.specs.Prelude.{◌≡◌, ◌/◌, ◌^◌, ℕ, ℤ, pos, nat_lt, if◌then◌else◌, ◌≤ℤ◌}

-- Unix time in milliseconds of a time in nanoseconds, or 0 if it does not fit in 64 bits.
abbrev pub milliseconds : ℕ → ℤ
milliseconds nanoseconds =
    if nat_lt (nanoseconds / 1000000) (2 ^ 63) then pos (nanoseconds / 1000000) else pos 0

-- The system clock reads no moment before 1970, and reading it does not change it.
abbrev pub reads_time : {C : Type 0} → C → ℤ → C → Type 0
reads_time old reading new = (pos 0 ≤ℤ reading) × (new ≡ old)
