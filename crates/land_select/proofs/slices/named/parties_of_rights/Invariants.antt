use Rattle.std.proofs.Common.{◌≡◌}
use Rattle.std.specs.Prelude.{map as map_list, take}
use Rattle.land_select.proofs.slices.named.parties_of_rights.Given as goal

-- the list at this point
abbrev pub invariant-loop-right : goal.invariant-loop-right
invariant-loop-right l = l.parties ≡ map_list (λ right. right.party) (take l.right-index l.rights)
