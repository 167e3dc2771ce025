use Rattle.std.proofs.Common.{◌≡◌, ◌++◌}
use Rattle.std.specs.Prelude.{map as map_list}
use Rattle.land_core.specs.Members.{member_with_share, members_in}
use Rattle.land_core.proofs.member.members_in.Given as goal

-- the items collected, followed by the remaining ones, are the result
abbrev pub invariant-loop-party : goal.invariant-loop-party
invariant-loop-party l = l.listed ++ map_list (λ e. member_with_share e.0 e.1) l.party-iterator ≡ members_in l.members
