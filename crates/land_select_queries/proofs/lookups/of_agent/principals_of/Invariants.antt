use Rattle.std.proofs.Common.{◌≡◌, take, map as map_list}
use Rattle.land_select_queries.proofs.lookups.of_agent.principals_of.Given as goal

-- the principals of the mandates before the current one are in the list
abbrev pub invariant-loop-version : goal.invariant-loop-version
invariant-loop-version l = l.numbers ≡ map_list (λ v. v.what.principal) (take l.version-index l.mandates)
