use Rattle.std.proofs.Common.{◌≡◌}
use Rattle.std.specs.Prelude.{filter}
use Rattle.land_acts.specs.Slices.{names_mandate}
use Rattle.land_core.specs.Entries.{with_entries, entries_where}
use Rattle.land_core.specs.Grants.{set_entries}
use Rattle.land_acts.proofs.slice.mandates_in_slice.Given as goal

abbrev pub invariant-loop-mandate : goal.invariant-loop-mandate
invariant-loop-mandate l = with_entries l.kept (filter (λ e. names_mandate l.caller l.act e.0) (set_entries l.mandate-iterator)) ≡ entries_where (λ m u. names_mandate l.caller l.act m) l.register.mandates
