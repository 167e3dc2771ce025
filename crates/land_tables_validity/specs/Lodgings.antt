-- Mutations by lodger and reference.
use Rattle.std.specs.Prelude.{ℕ, List}
use Rattle.std.specs.Borrow.{Bor}
use Rattle.land_core.specs.declared.mutation.MutationRecord.{MutationRecord}
use Rattle.land_tables_history.specs.declared.version.Version.{Version}
use Rattle.land_tables_validity.specs.ApartSpans.{span_at}
use Rattle.land_tables_history.specs.declared.sweeps.apart.Span.{Span}

-- a mutation's lodger, and the reference that the lodger chose
abbrev pub lodging_key : MutationRecord → ℕ × List ℕ
lodging_key m = (m.lodger, m.reference)

-- the lifespan of a mutation, with its lodger and reference
abbrev pub lodging_span : Version (ℕ × MutationRecord) → Span (ℕ × List ℕ)
lodging_span v = span_at v (lodging_key v.what.1)

-- the same span, with the borrowed reference dereferenced
abbrev pub owned_span : Span (ℕ × Bor (List ℕ)) → Span (ℕ × List ℕ)
owned_span s = record { key = (s.key.0, s.key.1.now); since = s.since; until = s.until }
