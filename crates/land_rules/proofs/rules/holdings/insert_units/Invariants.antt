use Rattle.std.proofs.Common.{◌≡◌, ℕ, ◌||◌, drop}
use Rattle.land_core.specs.Mergers.{lists_number}
use Rattle.land_rules.specs.Holdings.{has_number}
use Rattle.land_rules.proofs.rules.holdings.insert_units.Given as goal

-- each of the numbers is in the set, or has not been read yet
abbrev pub invariant-loop-unit : goal.invariant-loop-unit
invariant-loop-unit l = (unit : ℕ) → (has_number l.units unit || lists_number (drop l.unit-index l.more) unit) ≡ (has_number l.fn.units unit || lists_number l.more unit)
