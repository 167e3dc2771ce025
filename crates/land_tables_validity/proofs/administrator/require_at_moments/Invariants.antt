use Rattle.std.proofs.Common.{◌≡◌, ◌++◌, take}
use Rattle.land_tables_validity.specs.Administrator.{required_instants}
use Rattle.land_tables_validity.proofs.administrator.require_at_moments.Given as goal

abbrev pub invariant-loop-moment : goal.invariant-loop-moment
invariant-loop-moment l = l.coverage_spans.items ≡ l.fn.coverage_spans.items ++ required_instants (take l.moment-index l.moments)
