-- Decodes a row of `member` (LA_PartyMember): the group, the party, its share in two columns, since, until.
use Rattle.std.specs.Prelude.{Result, Ok}
use Rattle.land_tables_history.specs.declared.group_member.GroupMember.{GroupMember}
use Rattle.land_tables_history.specs.declared.version.Version.{Version}
use Rattle.land_tables_rows.specs.Reading.Cells.{end_in, moment_in, number_in, share_in}
use Rattle.land_wire_json.specs.Bodies.WireFaults.{◌>>=◌}
use Rattle.land_wire_json.specs.declared.bodies.wire_fault.WireFault.{WireFault}
use Rattle.sqlite_value.specs.Order.{Row, column}

unfoldable pub member_in : Row → Result (Version GroupMember) WireFault
member_in row = do
  group ← number_in (column row 0)
  party ← number_in (column row 1)
  share ← share_in (column row 2) (column row 3)
  since ← moment_in (column row 4)
  until ← end_in (column row 5)
  Ok (record {
    what = record { group = group; member = record { party = party; share = share } };
    since = since;
    until = until;
  })
