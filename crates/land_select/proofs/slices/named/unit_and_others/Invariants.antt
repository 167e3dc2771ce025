use Rattle.std.proofs.Common.{◌≡◌, ◌∷◌}
use Rattle.std.specs.Prelude.{take}
use Rattle.land_select.proofs.slices.named.unit_and_others.Given as goal

-- the list at this point
abbrev pub invariant-loop-other : goal.invariant-loop-other
invariant-loop-other l = l.units ≡ l.unit ∷ take l.other-index l.others
