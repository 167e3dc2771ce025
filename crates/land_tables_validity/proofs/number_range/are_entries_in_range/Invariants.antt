use Rattle.std.proofs.Common.{◌≡◌, drop}
use Rattle.std.specs.List.{list_all}
use Rattle.land_tables_validity.specs.NumbersInUse.{has_numbers_in_range, passes_since}
use Rattle.land_tables_validity.proofs.number_range.are_entries_in_range.Given as goal

-- the remaining entries yield the same result
abbrev pub invariant-loop-entry : goal.invariant-loop-entry
invariant-loop-entry l =
    list_all (passes_since has_numbers_in_range l.fn.moments) (drop l.entry-index l.entries)
    ≡ list_all (passes_since has_numbers_in_range l.fn.moments) l.entries
