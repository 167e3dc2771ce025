use Rattle.std.proofs.Common.{◌≡◌, ◌++◌, take, map as map_list}
use Rattle.land_tables_validity.specs.CoverageSpans.{provided_span}
use Rattle.land_tables_validity.proofs.references_exist.provide_numbers.Given as goal

abbrev pub invariant-loop-version : goal.invariant-loop-version
invariant-loop-version g l = l.coverage_spans.items ≡ l.fn.coverage_spans.items ++ map_list (provided_span (λ e. e.0)) (take l.version-index l.versions)
