use Rattle.std.proofs.Common.{◌≡◌, drop}
use Rattle.std.specs.Prelude.{int_le}
use Rattle.land_tables_history.specs.Moments.{latest, latest_from}
use Rattle.land_tables_history.proofs.moments.latest_at.Given as goal

-- the remaining versions yield the same result
abbrev pub invariant-loop-moment : goal.invariant-loop-moment
invariant-loop-moment l = latest_from (λ m. int_le m.stamp l.fn.at) l.found (drop l.moment-index l.moments) ≡ latest (λ m. int_le m.stamp l.fn.at) l.moments
