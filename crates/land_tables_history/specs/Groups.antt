-- The members of groups at a moment.
use Rattle.std.specs.Prelude.{◌≢◌, ℕ, ℤ, List, [], ◌∷◌, Some, flat_map, map as map_list}
use Rattle.std.specs.FinMap as map
use Rattle.std.specs.FinMap.{FinMap}
use Rattle.std.specs.List.Sorted.{IsPermutation}
use Rattle.std.specs.Option.{option_map_or}
use Rattle.std.specs.Ordering.{nat_cmp}
use Rattle.land_core.specs.Members.{Members, members_in}
use Rattle.land_tables_history.specs.Standing.{current_values}
use Rattle.land_tables_history.specs.declared.group_member.GroupMember.{GroupMember}
use Rattle.land_tables_history.specs.declared.version.Version.{Version}

-- the members of all groups, each with the number of its group
abbrev pub group_members : FinMap nat_cmp Members → List GroupMember
group_members groups =
    flat_map (λ g. map_list (λ m. record { group = g.0; member = m }) (members_in g.1)) (map.entries groups)

-- each group has a member
abbrev pub HaveMembers : FinMap nat_cmp Members → Type 0
HaveMembers groups = (group : ℕ) → map.get groups group ≢ Some map.empty

-- the current versions are exactly the members of these groups
abbrev pub AreGroupsAt : ℤ → List (Version GroupMember) → FinMap nat_cmp Members → Type 0
AreGroupsAt t versions groups = IsPermutation (current_values t versions) (group_members groups)

-- the members of a group, empty if the group does not exist
abbrev pub members_of_group : FinMap nat_cmp Members → ℕ → Members
members_of_group groups group = option_map_or (λ members. members) (map.get groups group) map.empty

-- the members of a group after another one has joined
abbrev pub joined_members : FinMap nat_cmp Members → GroupMember → Members
joined_members groups e = map.insert (members_of_group groups e.group) e.member.party e.member.share

-- adds a member to its group, which is created with its first member
abbrev pub with_member : FinMap nat_cmp Members → GroupMember → FinMap nat_cmp Members
with_member groups e = map.insert groups e.group (joined_members groups e)

-- adds these members, in order
abbrev pub with_members : FinMap nat_cmp Members → List GroupMember → FinMap nat_cmp Members
with_members groups [] = groups
with_members groups (e ∷ es) = with_members (with_member groups e) es

-- the groups whose members are current
abbrev pub groups_at : ℤ → List (Version GroupMember) → FinMap nat_cmp Members
groups_at t versions = with_members map.empty (current_values t versions)
