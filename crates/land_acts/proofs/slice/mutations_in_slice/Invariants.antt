use Rattle.std.proofs.Common.{◌≡◌}
use Rattle.std.specs.Prelude.{filter}
use Rattle.land_acts.specs.Slices.{reads_mutation, mutations_in_slice}
use Rattle.land_core.specs.Entries.{with_entries}
use Rattle.land_acts.proofs.slice.mutations_in_slice.Given as goal

abbrev pub invariant-loop-number : goal.invariant-loop-number
invariant-loop-number l = with_entries l.kept (filter (λ e. reads_mutation l.caller l.act e.0 e.1) l.number-iterator) ≡ mutations_in_slice l.register l.caller l.act
