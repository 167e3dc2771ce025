use Rattle.std.proofs.Common.{◌≡◌, take}
use Rattle.land_tables_validity.proofs.moments.copy_moments.Given as goal

-- the commits of the prefix are copied
abbrev pub invariant-loop-moment : goal.invariant-loop-moment
invariant-loop-moment l = l.list.items ≡ take l.moment-index l.moments
