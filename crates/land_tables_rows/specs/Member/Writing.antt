-- Rows of the table `member`.
use Rattle.std.specs.Prelude.{Bool, ◌&&◌}
use Rattle.land_core.specs.Numbers.{is_number}
use Rattle.land_tables_history.specs.declared.group_member.GroupMember.{GroupMember}
use Rattle.land_tables_rows.specs.Member.Reading.{member_in}
use Rattle.land_tables_rows.specs.Writing.Holding.{Reading}
use Rattle.land_tables_schema.specs.Tables as table

-- members of groups
abbrev pub member_reading : Reading GroupMember
member_reading = record { table = table.member; width = 6; said = member_in }

-- a member can be written if the numbers of the group and of the party are within their limits
abbrev pub fits_member : GroupMember → Bool
fits_member e = is_number e.group && is_number e.member.party
