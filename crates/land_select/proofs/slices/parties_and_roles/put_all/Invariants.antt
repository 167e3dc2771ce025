use Rattle.std.proofs.Common.{◌≡◌}
use Rattle.land_core.specs.Entries.{with_entries}
use Rattle.land_select.specs.Slices.Gathered.{put_all}
use Rattle.land_select.proofs.slices.parties_and_roles.put_all.Given as goal

-- the records at this point, with the remaining ones inserted
abbrev pub invariant-loop-number : goal.invariant-loop-number
invariant-loop-number g l = with_entries l.records l.number-iterator ≡ put_all l.fn.records l.more
