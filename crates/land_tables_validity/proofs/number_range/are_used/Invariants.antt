use Rattle.std.proofs.Common.{◌≡◌, drop}
use Rattle.std.specs.List.{list_all}
use Rattle.land_tables_validity.specs.NumbersInUse.{has_number_in_range, passes_since}
use Rattle.land_tables_validity.proofs.number_range.are_used.Given as goal

-- the remaining entries yield the same result
abbrev pub invariant-loop-version : goal.invariant-loop-version
invariant-loop-version g l =
    list_all (passes_since has_number_in_range l.fn.moments) (drop l.version-index l.versions)
    ≡ list_all (passes_since has_number_in_range l.fn.moments) l.versions
