use Rattle.std.proofs.Common.{◌≡◌, ℕ, ◌||◌}
use Rattle.std.specs.List.{list_any}
use Rattle.land_core.specs.Entries.{some}
use Rattle.land_rules.specs.Holdings.{has_number, has_interest_by}
use Rattle.land_rules.proofs.rules.holdings.units_of_interest.Given as goal

-- a unit in which an entry under one of the names gives the interest is in the set, or the entry has not been
-- read yet
abbrev pub invariant-loop-entry : goal.invariant-loop-entry
invariant-loop-entry l = (unit : ℕ) → (has_number l.units unit || list_any (λ e. has_interest_by l.interest l.at (has_number l.names) unit e.1) l.entry-iterator) ≡ some (λ n e. has_interest_by l.interest l.at (has_number l.names) unit e) l.at.rrrs
