-- Lifespans with their keys.
use Rattle.std.specs.Prelude.{ℕ}
use Rattle.land_tables_history.specs.declared.sweeps.apart.Span.{Span}
use Rattle.land_tables_history.specs.declared.version.Version.{Version}

-- the lifespan of a version, with the key of its value
abbrev pub span_of : {X : Type 0} → (X → ℕ × ℕ) → Version X → Span (ℕ × ℕ)
span_of key_of v = record { key = key_of v.what; since = v.since; until = v.until }
