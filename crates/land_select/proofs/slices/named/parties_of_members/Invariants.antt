use Rattle.std.proofs.Common.{◌≡◌}
use Rattle.std.specs.Prelude.{map as map_list, take}
use Rattle.land_select.proofs.slices.named.parties_of_members.Given as goal

-- the list at this point
abbrev pub invariant-loop-member : goal.invariant-loop-member
invariant-loop-member l = l.parties ≡ map_list (λ member. member.party) (take l.member-index l.members)
