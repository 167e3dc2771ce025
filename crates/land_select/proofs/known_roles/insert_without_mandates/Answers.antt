use Rattle.land_select.proofs.KnownRoles.{one_more_held}
use Rattle.land_select_queries.specs.Joins.Sight.{HoldsNoMandate}
use Rattle.land_select.proofs.known_roles.insert_without_mandates.Goals as goal

pub returns-in-Ok : goal.returns-in-Ok
returns-in-Ok c r held is = record {
  roles = held.roles;
  mandates = one_more_held (λ grant. HoldsNoMandate r grant.party) c.args.known.without_mandates c.insert.new.self c.args.grant (rw c.in-Ok.is at c.insert.ensures.ok) held.mandates is;
}
