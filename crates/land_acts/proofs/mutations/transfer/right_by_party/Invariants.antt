use Rattle.std.proofs.Common.{◌≡◌}
use Rattle.std.specs.List.{find, filter_map}
use Rattle.land_acts.specs.Mutations.Transferring.{right_by_party, right_in_unit, is_right_held_by}
use Rattle.land_acts.proofs.mutations.transfer.right_by_party.Given as goal

-- the first right of the party among the remaining entries is the first of all
abbrev pub invariant-loop-number : goal.invariant-loop-number
invariant-loop-number l = find (is_right_held_by l.party l.right_type) (filter_map (λ e. right_in_unit l.unit e.0 e.1) l.number-iterator) ≡ right_by_party l.slice l.unit l.party l.right_type
