use Rattle.std.proofs.Common.{subst, sym}
use Rattle.land_core.specs.declared.roles.Grant.{Grant}
use Rattle.land_select.specs.KnownRoles.{AreKnownIn}
use Rattle.land_select_queries.specs.Joins.Sight.{HoldsNoMandate}
use Rattle.land_select.proofs.known_roles.remember_no_mandate.Goals as goal

pub returns : goal.returns
returns c r known none =
    c.insert_without_mandates.ensures r (c.with_room-roomy.ensures r (subst (AreKnownIn r) (sym c.take.ensures.value) known))
    (subst (λ (grant : Grant). HoldsNoMandate r grant.party) (sym c.claimed_role.ensures) (none c.if-not-is_latest.false c.if-not-holds_none.false))
