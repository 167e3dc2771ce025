use Rattle.std.proofs.Common.{◌≡◌}
use Rattle.std.specs.Prelude.{filter}
use Rattle.land_acts.specs.Slices.{is_same_mandate}
use Rattle.land_core.specs.Entries.{with_entries, entries_where}
use Rattle.land_core.specs.Grants.{set_entries}
use Rattle.land_select.proofs.slices.pairs.only_mandate.Given as goal

abbrev pub invariant-loop-mandate : goal.invariant-loop-mandate
invariant-loop-mandate l = with_entries l.kept (filter (λ e. is_same_mandate l.it e.0) (set_entries l.mandate-iterator)) ≡ entries_where (λ m u. is_same_mandate l.it m) l.mandates
