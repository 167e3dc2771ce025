use Rattle.land_core.specs.Register.{holds}
use Rattle.std.proofs.Common.{true, ◌≡◌}
use Rattle.land_select.proofs.KnownRoles.{one_more_held}
use Rattle.land_select.proofs.known_roles.insert_role.Goals as goal

pub returns-in-Ok : goal.returns-in-Ok
returns-in-Ok c r held is = record {
  roles = one_more_held (λ grant. holds r grant.party grant.role ≡ true) c.args.known.roles c.insert.new.self c.args.grant (rw c.in-Ok.is at c.insert.ensures.ok) held.roles is;
  mandates = held.mandates;
}
