use Rattle.std.proofs.Common.{◌≡◌, drop}
use Rattle.std.specs.List.{list_all}
use Rattle.land_tables_history.specs.Intervals.{is_interval_of}
use Rattle.land_tables_history.proofs.intervals.all_intervals_of.Given as goal

-- the remaining versions yield the same result
abbrev pub invariant-loop-version : goal.invariant-loop-version
invariant-loop-version g l = list_all (is_interval_of l.fn.stamps) (drop l.version-index l.versions) ≡ list_all (is_interval_of l.fn.stamps) l.versions
