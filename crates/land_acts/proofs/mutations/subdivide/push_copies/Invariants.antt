use Rattle.std.proofs.Common.{◌≡◌, ◌≤◌, ◌+◌, ◌++◌, length}
use Rattle.std.specs.Prelude.{filter, map as map_list, nat_eq}
use Rattle.land_acts.specs.Mutations.Numbering.{with_numbers_from}
use Rattle.land_acts.specs.Mutations.Subdividing.{list_entries_of, in_unit}
use Rattle.land_acts.proofs.mutations.subdivide.push_copies.Given as goal
use Rattle.land_core.specs.Numbers.{last_next}

-- the copies so far, followed by the remaining ones under the next numbers
abbrev pub invariant-loop-entry : goal.invariant-loop-entry
invariant-loop-entry l =
    (l.rrrs ++ with_numbers_from l.number (map_list (in_unit l.new_unit) (map_list (λ e. e.1) (filter (λ e. nat_eq e.1.unit l.unit) l.entry-iterator))) ≡ l.fn.rrrs ++ with_numbers_from (l.new_unit + 2) (map_list (in_unit l.new_unit) (list_entries_of l.slice l.unit)))
    × (l.number + length (filter (λ e. nat_eq e.1.unit l.unit) l.entry-iterator) ≤ last_next)
