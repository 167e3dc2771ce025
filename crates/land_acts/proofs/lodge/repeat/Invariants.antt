use Rattle.std.proofs.Common.{◌≡◌}
use Rattle.std.specs.List.{find}
use Rattle.land_acts.specs.Lodging.{lodge_repeat, repeat_of}
use Rattle.land_core.specs.Mutations.{is_lodged_as}
use Rattle.land_acts.proofs.lodge.repeat.Given as goal

-- the mutation that the lodging repeats is among the remaining ones
abbrev pub invariant-loop-number : goal.invariant-loop-number
invariant-loop-number l = repeat_of l.slice l.it (find (λ e. is_lodged_as l.caller.party l.it.reference e.1) l.number-iterator) ≡ lodge_repeat l.slice l.caller l.it
