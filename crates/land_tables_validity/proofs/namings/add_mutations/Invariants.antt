use Rattle.std.proofs.Common.{◌≡◌, ◌++◌, drop, flat_map}
use Rattle.land_tables_validity.specs.KeyPairs.{key_spans}
use Rattle.land_tables_validity.specs.NamedUnits.{named_pairs}
use Rattle.land_tables_validity.proofs.namings.add_mutations.Given as goal

-- the spans added, and then the remaining ones
abbrev pub invariant-loop-mutation : goal.invariant-loop-mutation
invariant-loop-mutation l =
    l.coverage_spans.items ++ flat_map (key_spans l.required named_pairs) (drop l.mutation-index l.mutations)
    ≡ l.fn.coverage_spans.items ++ flat_map (key_spans l.required named_pairs) l.mutations
