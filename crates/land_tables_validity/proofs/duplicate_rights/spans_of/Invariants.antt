use Rattle.std.proofs.Common.{◌≡◌, ◌++◌, drop}
use Rattle.land_tables_validity.specs.ApartSpans.{spans_where}
use Rattle.land_tables_validity.specs.Places.{entry_place}
use Rattle.land_tables_validity.proofs.duplicate_rights.spans_of.Given as goal

-- the lifespans of the prefix, and the remaining ones
abbrev pub invariant-loop-entry : goal.invariant-loop-entry
invariant-loop-entry l =
    l.spans.items ++ spans_where (λ e. entry_place e.1) (drop l.entry-index l.entries) ≡ spans_where (λ e. entry_place e.1) l.entries
