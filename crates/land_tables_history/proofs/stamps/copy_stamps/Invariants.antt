use Rattle.std.proofs.Common.{◌≡◌, take, map as map_list}
use Rattle.land_tables_history.proofs.stamps.copy_stamps.Given as goal

-- each commit of the prefix has its stamp
abbrev pub invariant-loop-moment : goal.invariant-loop-moment
invariant-loop-moment l = l.stamps.items ≡ map_list (λ m. m.stamp) (take l.moment-index l.moments)
