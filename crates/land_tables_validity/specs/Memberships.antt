-- The values that are current together in a group: the group itself and its members.
use Rattle.std.specs.Prelude.{ℕ, Bool, true, false, not, List, ◌++◌, filter, Option, Some, None}
use Rattle.std.specs.List.{filter_map}
use Rattle.land_core.specs.Members.{are_group_shares}
use Rattle.land_core.specs.Register.{is_single}
use Rattle.land_core.specs.declared.party.PartyRecord.{PartyRecord}
use Rattle.land_fraction.specs.Ratio.{Ratio}
use Rattle.land_tables_history.specs.declared.group_member.GroupMember.{GroupMember}
use Rattle.land_tables_history.specs.declared.history.History.{History}
use Rattle.land_tables_history.specs.declared.version.Version.{Version}
use Rattle.land_tables_validity.specs.LiveSpan.{live_spans_of, if_any_marked}
use Rattle.land_tables_validity.specs.declared.groups.Membership.{Membership}
use Rattle.land_tables_validity.specs.declared.groups.Membership.TheVariants as membership
use Rattle.land_tables_history.specs.declared.sweeps.sweep.LiveSpan.{LiveSpan}

-- a party that is a group
abbrev pub group_joined : ℕ × PartyRecord → Membership
group_joined e = membership.Group

-- a member, with its share
abbrev pub member_joined : GroupMember → Membership
member_joined m = membership.Member m.member.share

-- the versions of parties that are groups
abbrev pub groups_among : List (Version (ℕ × PartyRecord)) → List (Version (ℕ × PartyRecord))
groups_among parties = filter (λ v. not (is_single v.what.1.kind)) parties

-- groups and members, each under its group during its lifespan
abbrev pub group_live_spans : List (Version (ℕ × PartyRecord)) → List (LiveSpan Membership)
group_live_spans parties = live_spans_of (λ e. e.0) group_joined (groups_among parties)

abbrev pub member_live_spans : List (Version GroupMember) → List (LiveSpan Membership)
member_live_spans vs = live_spans_of (λ m. m.group) member_joined vs

-- all values of groups, over time
abbrev pub memberships_in : History → List (LiveSpan Membership)
memberships_in h = group_live_spans h.parties ++ member_live_spans h.members

-- the group itself
abbrev pub is_group : Membership → Bool
is_group membership.Group = true
is_group (membership.Member share) = false

-- the share of a member
abbrev pub member_share : Membership → Option Ratio
member_share membership.Group = None
member_share (membership.Member share) = Some share

-- the shares of all members
abbrev pub member_shares : List Membership → List Ratio
member_shares xs = filter_map member_share xs

-- 2 to 64 members whose shares sum to one
abbrev pub are_members_whole : List Membership → Bool
are_members_whole xs = are_group_shares (member_shares xs)

-- if there is a group, the shares of its members sum to one
abbrev pub are_members_sound : List Membership → Bool
are_members_sound xs = if_any_marked is_group are_members_whole xs
