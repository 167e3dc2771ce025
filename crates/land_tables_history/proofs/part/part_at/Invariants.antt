use Rattle.std.proofs.Common.{◌≡◌, drop}
use Rattle.std.specs.FinMap as map
use Rattle.land_core.specs.Entries.{with_entries}
use Rattle.land_tables_history.specs.Standing.{current_values}
use Rattle.land_tables_history.proofs.part.part_at.Given as goal

-- the remaining records build the same result
abbrev pub invariant-loop-version : goal.invariant-loop-version
invariant-loop-version g l = with_entries l.part (current_values l.fn.at (drop l.version-index l.versions)) ≡ with_entries map.empty (current_values l.fn.at l.versions)
