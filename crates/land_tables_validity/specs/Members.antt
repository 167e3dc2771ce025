-- Members of groups, over time.
use Rattle.std.specs.Prelude.{ℕ, Bool, not, List, filter}
use Rattle.land_core.specs.Register.{is_single}
use Rattle.land_core.specs.declared.party.PartyRecord.{PartyRecord}
use Rattle.land_tables_history.specs.declared.group_member.GroupMember.{GroupMember}
use Rattle.land_tables_history.specs.declared.version.Version.{Version}
use Rattle.land_tables_validity.specs.CoverageSpans.{coverage_spans}
use Rattle.land_tables_validity.specs.Roles.{single_parties}
use Rattle.land_tables_history.specs.declared.sweeps.cover.CoverageSpan.{CoverageSpan}

-- a party is a group in each version of that kind
abbrev pub is_of_group : Version (ℕ × PartyRecord) → Bool
is_of_group v = not (is_single v.what.1.kind)

abbrev pub group_parties : List (Version (ℕ × PartyRecord)) → List (Version (ℕ × PartyRecord))
group_parties parties = filter is_of_group parties

-- the group of a member, and the party that is the member
abbrev pub member_group : GroupMember → ℕ
member_group member = member.group

abbrev pub party_of : GroupMember → ℕ
party_of member = member.member.party

-- groups are provided, and required by their members
abbrev pub group_spans : List (Version (ℕ × PartyRecord)) → List (Version GroupMember) → List CoverageSpan
group_spans parties members = coverage_spans (λ p. p.0) (group_parties parties) member_group members

-- single parties are provided, and required if they are members
abbrev pub member_spans : List (Version (ℕ × PartyRecord)) → List (Version GroupMember) → List CoverageSpan
member_spans parties members = coverage_spans (λ p. p.0) (single_parties parties) party_of members
