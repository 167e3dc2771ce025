use Rattle.std.proofs.Common.{◌≡◌, ◌++◌, drop}
use Rattle.land_tables_history.specs.Changed.{listed_members}
use Rattle.land_tables_rows.proofs.change_writing.lists.list_members.Given as goal

-- the list, followed by the members of the remaining groups
abbrev pub invariant-loop-group : goal.invariant-loop-group
invariant-loop-group l = l.listed ++ listed_members (drop l.group-index l.groups) ≡ listed_members l.groups
