use Rattle.std.proofs.Common.{◌≡◌, ◌++◌, take, map as map_list}
use Rattle.land_tables_validity.specs.CoverageSpans.{required_span}
use Rattle.land_tables_validity.proofs.references_exist.require_numbers.Given as goal

abbrev pub invariant-loop-version : goal.invariant-loop-version
invariant-loop-version g l =
    goal.F-IsAlwaysCallable g l.number
    × (l.coverage_spans.items ≡ l.fn.coverage_spans.items ++ map_list (required_span g.number_of) (take l.version-index l.versions))
