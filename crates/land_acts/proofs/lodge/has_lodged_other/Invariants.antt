use Rattle.std.proofs.Common.{◌≡◌, false, not}
use Rattle.std.specs.List.{find}
use Rattle.std.specs.Option.{option_map_or}
use Rattle.land_acts.specs.Lodging.{has_lodged_other, is_same_lodging}
use Rattle.land_core.specs.Mutations.{is_lodged_as}
use Rattle.land_acts.proofs.lodge.has_lodged_other.Given as goal

-- a mutation of the caller under the reference is among the remaining ones
abbrev pub invariant-loop-mutation : goal.invariant-loop-mutation
invariant-loop-mutation l =
    option_map_or (λ e. not (is_same_lodging l.slice l.it e.1)) (find (λ e. is_lodged_as l.caller.party l.it.reference e.1) l.mutation-iterator) false ≡ has_lodged_other l.slice l.caller l.it
