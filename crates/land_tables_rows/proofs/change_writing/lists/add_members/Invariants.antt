use Rattle.std.proofs.Common.{◌≡◌, ◌++◌, map}
use Rattle.land_core.specs.Members.{member_with_share}
use Rattle.land_tables_history.specs.declared.group_member.GroupMember.{GroupMember}
use Rattle.land_tables_rows.specs.Recording.Whole.{memberships_of_group}
use Rattle.land_tables_rows.proofs.change_writing.lists.add_members.Given as goal

-- the list, followed by the remaining members
abbrev pub invariant-loop-party : goal.invariant-loop-party
invariant-loop-party l = l.listed ++ map {B = GroupMember} (λ m. record { group = l.group; member = m }) (map (λ e. member_with_share e.0 e.1) l.party-iterator) ≡ l.fn.listed ++ memberships_of_group l.group l.members
