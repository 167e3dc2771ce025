use Rattle.std.proofs.Common.{true, ◌≡◌, ◌∙◌, subst, sym}
use Rattle.land_core.specs.Register.{holds}
use Rattle.land_core.specs.declared.roles.Grant.{Grant}
use Rattle.land_select.specs.KnownRoles.{AreKnownIn}
use Rattle.land_select.proofs.known_roles.remember.Goals as goal

pub returns : goal.returns
returns c r known held =
    c.insert_role.ensures r (c.with_room-roomy.ensures r (subst (AreKnownIn r) (sym c.take.ensures.value) known))
    (subst (λ (grant : Grant). holds r grant.party grant.role ≡ true) (sym c.claimed_role.ensures) (held (sym c.shows_role.ensures ∙ c.if-not-shows_role.false)))
