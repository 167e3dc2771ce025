-- The numbers of objects, and moments.
use Rattle.std.specs.Prelude.{◌≤ℤ◌, ℕ, ℤ, pos, Bool, ◌&&◌, nat_le}

-- the next number of a register whose numbers are all in use
abbrev pub last_next : ℕ
last_next = 1000000001

-- a number of an object is 1 to 1_000_000_000
abbrev pub is_number : ℕ → Bool
is_number n = nat_le 1 n && nat_le n 1000000000

-- the end of the year 2099 UTC, in Unix milliseconds, as a natural number
abbrev pub last_millisecond : ℕ
last_millisecond = 4102444799999

-- the last moment: the end of the year 2099 UTC, in Unix milliseconds
abbrev pub last_moment : ℤ
last_moment = pos last_millisecond

-- a moment: Unix time in milliseconds, from 1970 to the end of 2099 UTC
abbrev pub IsMoment : ℤ → Type 0
IsMoment t = (pos 0 ≤ℤ t) × (t ≤ℤ last_moment)
