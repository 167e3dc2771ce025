use Rattle.std.proofs.Common.{◌≡◌, true, drop}
use Rattle.land_tables_history.specs.Moments.{last, latest_from}
use Rattle.land_tables_history.proofs.moments.last.Given as goal

-- the remaining versions yield the same result
abbrev pub invariant-loop-moment : goal.invariant-loop-moment
invariant-loop-moment l = latest_from (λ m. true) l.found (drop l.moment-index l.moments) ≡ last l.moments
