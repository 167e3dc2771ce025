use Rattle.std.proofs.Common.{◌≡◌, take, map as map_list}
use Rattle.land_tables_validity.specs.Lodgings.{lodging_span, owned_span}
use Rattle.land_tables_validity.proofs.unique_references.spans_of.Given as goal

-- each mutation of the prefix has its lifespan
abbrev pub invariant-loop-mutation : goal.invariant-loop-mutation
invariant-loop-mutation l = map_list owned_span l.spans.items ≡ map_list lodging_span (take l.mutation-index l.mutations)
