use Rattle.std.proofs.Common.{◌≡◌, ℕ, ◌||◌}
use Rattle.std.specs.List.{list_any}
use Rattle.land_rules.specs.Holdings.{has_number}
use Rattle.land_rules.specs.Relations.{has_pending_mutation_on, is_pending_on}
use Rattle.land_rules.proofs.rules.holdings.lodged_units.Given as goal

-- a unit to which an undecided mutation of the party refers is in the set, or the mutation has not been read
-- yet
abbrev pub invariant-loop-mutation : goal.invariant-loop-mutation
invariant-loop-mutation l = (unit : ℕ) → (has_number l.units unit || list_any (λ e. is_pending_on l.party unit e.1) l.mutation-iterator) ≡ has_pending_mutation_on l.at l.party unit
