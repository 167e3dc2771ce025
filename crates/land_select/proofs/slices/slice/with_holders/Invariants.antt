use Rattle.std.proofs.Common.{◌≡◌, ◌++◌}
use Rattle.std.specs.Prelude.{map as map_list}
use Rattle.land_core.specs.Grants.{grants_in}
use Rattle.land_select.proofs.slices.slice.with_holders.Given as goal

-- the list at this point, followed by the remaining holders
abbrev pub invariant-loop-grant : goal.invariant-loop-grant
invariant-loop-grant l = l.parties ++ map_list (λ grant. grant.party) l.grant-iterator ≡ l.fn.parties ++ map_list (λ grant. grant.party) (grants_in l.roles)
