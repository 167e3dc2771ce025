use Rattle.std.proofs.Common.{◌≡◌, ◌++◌, drop, flat_map}
use Rattle.land_tables_validity.specs.KeyPairs.{key_spans}
use Rattle.land_tables_validity.specs.NamedUnits.{naming_pair}
use Rattle.land_tables_validity.proofs.namings.add_namings.Given as goal

-- the spans added, and then the remaining ones
abbrev pub invariant-loop-naming : goal.invariant-loop-naming
invariant-loop-naming l =
    l.coverage_spans.items ++ flat_map (key_spans l.required naming_pair) (drop l.naming-index l.namings)
    ≡ l.fn.coverage_spans.items ++ flat_map (key_spans l.required naming_pair) l.namings
