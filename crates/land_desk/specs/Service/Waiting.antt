-- Timeouts of a connection, in nanoseconds.
use Rattle.std.specs.Prelude.{ℕ, ◌-◌, min}

-- The longest wait for the next bytes: 30 s.
abbrev pub idle_timeout : ℕ
idle_timeout = 30_000_000_000

-- The longest wait for the next bytes of a request that has taken this long: 30 s, and at most the rest of 60
-- s.
abbrev pub read_timeout_after : (taken : ℕ) → ℕ
read_timeout_after taken = min idle_timeout (60_000_000_000 - taken)

-- The longest time to read on after the last reply: 1 s.
abbrev pub linger : ℕ
linger = 1_000_000_000
