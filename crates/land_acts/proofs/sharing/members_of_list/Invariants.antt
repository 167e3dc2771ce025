use Rattle.std.proofs.Common.{◌≡◌, drop}
use Rattle.std.specs.Prelude.{map as map_list}
use Rattle.land_acts.specs.Sharing.{members_of_list}
use Rattle.land_core.specs.Entries.{with_entries}
use Rattle.land_acts.proofs.sharing.members_of_list.Given as goal

abbrev pub invariant-loop-member : goal.invariant-loop-member
invariant-loop-member l = with_entries l.members (map_list (λ member. (member.party, member.share)) (drop l.member-index l.listed)) ≡ members_of_list l.listed
