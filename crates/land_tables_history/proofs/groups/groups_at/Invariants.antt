use Rattle.std.proofs.Common.{◌≡◌, drop}
use Rattle.std.specs.FinMap as map
use Rattle.land_tables_history.specs.Groups.{with_members}
use Rattle.land_tables_history.specs.Standing.{current_values}
use Rattle.land_tables_history.proofs.groups.groups_at.Given as goal

-- the remaining members build the same result
abbrev pub invariant-loop-version : goal.invariant-loop-version
invariant-loop-version l = with_members l.groups (current_values l.fn.at (drop l.version-index l.versions)) ≡ with_members map.empty (current_values l.fn.at l.versions)
