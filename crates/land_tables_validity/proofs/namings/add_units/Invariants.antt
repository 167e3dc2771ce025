use Rattle.std.proofs.Common.{◌≡◌, ◌++◌, drop, map as map_list}
use Rattle.land_tables_validity.specs.KeyPairs.{pair_at}
use Rattle.land_tables_validity.specs.NamedUnits.{with_units}
use Rattle.land_tables_validity.proofs.namings.add_units.Given as goal

-- the spans added, and then the remaining ones
abbrev pub invariant-loop-unit : goal.invariant-loop-unit
invariant-loop-unit l =
    l.coverage_spans.items
    ++ map_list (λ k. pair_at l.required k.0 k.1 l.mutation.since l.mutation.until) (with_units l.mutation.what.0 (drop l.unit-index l.units))
    ≡ l.fn.coverage_spans.items ++ map_list (λ k. pair_at l.required k.0 k.1 l.mutation.since l.mutation.until) (with_units l.mutation.what.0 l.units)
