use Rattle.std.proofs.Common.{◌≡◌}
use Rattle.std.specs.Prelude.{filter}
use Rattle.land_acts.specs.Slices.{includes_rrr}
use Rattle.land_core.specs.Entries.{with_entries, entries_where}
use Rattle.land_acts.proofs.slice.rrrs_in_slice.Given as goal

abbrev pub invariant-loop-number : goal.invariant-loop-number
invariant-loop-number l = with_entries l.kept (filter (λ e. includes_rrr l.parts l.register l.act e.0 e.1) l.number-iterator) ≡ entries_where (λ n e. includes_rrr l.parts l.register l.act n e) l.register.rrrs
