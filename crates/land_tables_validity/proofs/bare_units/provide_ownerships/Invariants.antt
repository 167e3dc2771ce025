use Rattle.std.proofs.Common.{◌≡◌, ◌++◌, drop, map as map_list}
use Rattle.land_tables_validity.specs.BareUnits.{entry_unit, ownerships}
use Rattle.land_tables_validity.specs.CoverageSpans.{provided_span}
use Rattle.land_tables_validity.proofs.bare_units.provide_ownerships.Given as goal

-- the spans added, and then the remaining ones
abbrev pub invariant-loop-entry : goal.invariant-loop-entry
invariant-loop-entry l =
    l.coverage_spans.items ++ map_list (provided_span entry_unit) (ownerships (drop l.entry-index l.rrrs))
    ≡ l.fn.coverage_spans.items ++ map_list (provided_span entry_unit) (ownerships l.rrrs)
