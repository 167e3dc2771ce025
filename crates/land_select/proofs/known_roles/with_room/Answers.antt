use Rattle.std.proofs.Common.{true, ◌≡◌}
use Rattle.land_core.specs.Register.{holds}
use Rattle.land_select.proofs.KnownRoles.{none_held}
use Rattle.land_select_queries.specs.Joins.Sight.{HoldsNoMandate}
use Rattle.land_select.proofs.known_roles.with_room.Goals as goal

pub returns-in_default : goal.returns-in_default
returns-in_default c r known = record {
  roles = none_held (λ grant. holds r grant.party grant.role ≡ true) c.new.result c.new.ensures;
  mandates = none_held (λ grant. HoldsNoMandate r grant.party) c.new-in_default.result c.new-in_default.ensures;
}
