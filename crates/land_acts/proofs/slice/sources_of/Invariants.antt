use Rattle.std.proofs.Common.{◌≡◌, nat_eq}
use Rattle.std.specs.Prelude.{◌&&◌, filter}
use Rattle.land_core.specs.Entries.{entries_where, some, with_entries}
use Rattle.land_acts.proofs.slice.sources_of.Given as goal

abbrev pub invariant-loop-number : goal.invariant-loop-number
invariant-loop-number l = with_entries l.kept (filter (λ e. l.is_included && some (λ k m. nat_eq m.source e.0) l.mutations) l.number-iterator) ≡ entries_where (λ n s. l.is_included && some (λ k m. nat_eq m.source n) l.mutations) l.register.sources
