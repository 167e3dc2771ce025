use Rattle.std.proofs.Common.{◌≡◌, ◌++◌, take, map as map_list}
use Rattle.land_tables_validity.specs.CoverageSpans.{provided_span}
use Rattle.land_tables_validity.specs.Roles.{single_parties}
use Rattle.land_tables_validity.proofs.roles.provide_single_parties.Given as goal

abbrev pub invariant-loop-party : goal.invariant-loop-party
invariant-loop-party l =
    l.coverage_spans.items ≡ l.fn.coverage_spans.items ++ map_list (provided_span (λ e. e.0)) (single_parties (take l.party-index l.parties))
