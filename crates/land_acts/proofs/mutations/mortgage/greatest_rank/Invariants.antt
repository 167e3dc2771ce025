use Rattle.std.proofs.Common.{◌≡◌, ◌∷◌}
use Rattle.std.specs.List.{filter_map}
use Rattle.land_acts.specs.Mutations.Mortgaging.{greatest, rank_in, ranks_in}
use Rattle.land_acts.proofs.mutations.mortgage.greatest_rank.Given as goal

-- the greatest rank so far, and the ranks of the remaining entries
abbrev pub invariant-loop-entry : goal.invariant-loop-entry
invariant-loop-entry l = greatest (l.greatest ∷ filter_map (λ e. rank_in l.unit e.1) l.entry-iterator) ≡ greatest (ranks_in l.slice l.unit)
