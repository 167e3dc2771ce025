-- The bodies of acts on parties. Fields are read in the order given.
use Rattle.std.specs.Prelude.{List, [], ◌∷◌, codes, Result, Ok}
use Rattle.land_core.specs.Texts.{is_name}
use Rattle.land_core.specs.declared.act.Enrol.{Enrol}
use Rattle.land_core.specs.declared.act.NewGroup.{NewGroup}
use Rattle.land_core.specs.declared.act.NewMandate.{NewMandate}
use Rattle.land_core.specs.declared.act.Regroup.{Regroup}
use Rattle.land_core.specs.declared.mandates.Mandate.{Mandate}
use Rattle.land_core.specs.declared.member.Member.{Member}
use Rattle.land_core.specs.declared.roles.Grant.{Grant}
use Rattle.land_wire_json.specs.Bodies.Fields.{object_with, require_text_at, number_at, items_at, each_item}
use Rattle.land_wire_json.specs.Bodies.Shares.{share_at}
use Rattle.land_wire_json.specs.Bodies.WireFaults.{◌>>=◌}
use Rattle.land_wire_json.specs.Bodies.Words.{kind_in, role_in}
use Rattle.land_wire_json.specs.declared.bodies.wire_fault.WireFault.{WireFault}
use Rattle.serde_json.specs.Data.{Data}

-- an enrolment: `kind`, `name`
unfoldable pub enrol_of : Data → Result Enrol WireFault
enrol_of value = do
  whole ← object_with (codes "kind" ∷ codes "name" ∷ []) value
  kind ← kind_in value
  name ← require_text_at is_name (codes "name") value
  Ok (record { kind = kind; name = name })

-- a member: `party`, `share`
unfoldable pub member_of : Data → Result Member WireFault
member_of value = do
  whole ← object_with (codes "party" ∷ codes "share" ∷ []) value
  party ← number_at (codes "party") value
  share ← share_at (codes "share") value
  Ok (record { party = party; share = share })

-- `members`: 2 to 64 members
unfoldable pub member_list_of : Data → Result (List Member) WireFault
member_list_of value = items_at 2 64 (codes "members") value >>= each_item member_of

-- a group: `name`, `members`
unfoldable pub group_of : Data → Result NewGroup WireFault
group_of value = do
  whole ← object_with (codes "name" ∷ codes "members" ∷ []) value
  name ← require_text_at is_name (codes "name") value
  members ← member_list_of value
  Ok (record { name = name; members = members })

-- new members of a group: `group`, `members`
unfoldable pub regroup_of : Data → Result Regroup WireFault
regroup_of value = do
  whole ← object_with (codes "group" ∷ codes "members" ∷ []) value
  group ← number_at (codes "group") value
  members ← member_list_of value
  Ok (record { group = group; members = members })

-- a role to grant or to revoke: `party`, `role`
unfoldable pub grant_of : Data → Result Grant WireFault
grant_of value = do
  whole ← object_with (codes "party" ∷ codes "role" ∷ []) value
  party ← number_at (codes "party") value
  role ← role_in value
  Ok (record { party = party; role = role })

-- a mandate of the caller: `agent`
unfoldable pub mandate_of : Data → Result NewMandate WireFault
mandate_of value = do
  whole ← object_with (codes "agent" ∷ []) value
  agent ← number_at (codes "agent") value
  Ok (record { agent = agent })

-- a mandate to withdraw: `principal`, `agent`
unfoldable pub withdrawal_of : Data → Result Mandate WireFault
withdrawal_of value = do
  whole ← object_with (codes "principal" ∷ codes "agent" ∷ []) value
  principal ← number_at (codes "principal") value
  agent ← number_at (codes "agent") value
  Ok (record { principal = principal; agent = agent })
