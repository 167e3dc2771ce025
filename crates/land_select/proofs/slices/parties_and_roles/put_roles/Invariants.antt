use Rattle.std.proofs.Common.{◌≡◌}
use Rattle.std.specs.Prelude.{map as map_list}
use Rattle.land_core.specs.Entries.{with_entries}
use Rattle.land_select.specs.Slices.Gathered.{put_all}
use Rattle.land_select.proofs.slices.parties_and_roles.put_roles.Given as goal

-- the roles at this point, with the remaining ones inserted
abbrev pub invariant-loop-grant : goal.invariant-loop-grant
invariant-loop-grant l = with_entries l.roles (map_list (λ grant. (grant, tt)) l.grant-iterator) ≡ put_all l.fn.roles l.more
