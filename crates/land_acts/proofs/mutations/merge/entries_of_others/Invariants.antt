use Rattle.std.proofs.Common.{◌≡◌, ◌++◌}
use Rattle.std.specs.Prelude.{filter, map as map_list}
use Rattle.land_acts.specs.Mutations.Merging.{entries_of_others}
use Rattle.land_core.specs.Mergers.{lists_number}
use Rattle.land_acts.proofs.mutations.merge.entries_of_others.Given as goal

-- the numbers so far, followed by those of the remaining entries
abbrev pub invariant-loop-number : goal.invariant-loop-number
invariant-loop-number l = l.ended ++ map_list (λ e. e.0) (filter (λ e. lists_number l.it.others e.1.unit) l.number-iterator) ≡ entries_of_others l.slice l.it
