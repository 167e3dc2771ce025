use Rattle.std.proofs.Common.{◌≡◌, ℕ, ◌||◌, ◌&&◌, nat_eq}
use Rattle.std.specs.List.{list_any}
use Rattle.land_core.specs.Mandates.{mandates_in}
use Rattle.land_rules.specs.Holdings.{has_number}
use Rattle.land_rules.proofs.circles.circle_of.Given as goal

-- a principal of the party is in the circle, or its mandate has not been read yet
abbrev pub invariant-loop-mandate : goal.invariant-loop-mandate
invariant-loop-mandate l = (number : ℕ) → (has_number l.circle number || list_any (λ m. nat_eq m.agent l.party && nat_eq m.principal number) l.mandate-iterator)
    ≡ (nat_eq l.party number || list_any (λ m. nat_eq m.agent l.party && nat_eq m.principal number) (mandates_in l.at.mandates))
