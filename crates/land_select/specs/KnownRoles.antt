-- The facts on callers that a keeper remembers.
use Rattle.std.specs.Prelude.{◌≡◌, Bool, true, nat_lt, Option, None, Some}
use Rattle.land_core.specs.Grants.{Grants, has_grant}
use Rattle.land_core.specs.Register.{holds}
use Rattle.land_core.specs.declared.caller.Caller.{Caller}
use Rattle.land_core.specs.declared.register.Register.{Register}
use Rattle.land_core.specs.declared.roles.Grant.{Grant}
use Rattle.land_rules.specs.declared.verdict.Verdict.{Verdict}
use Rattle.land_rules.specs.declared.verdict.Verdict.TheVariants.{Allowed, Denied}
use Rattle.land_select_queries.specs.Joins.Sight.{HoldsNoMandate}
use Rattle.land_select.specs.declared.known_roles.KnownRoles.{KnownRoles}

-- each of these roles is held in the register
abbrev pub AreHeldIn : Register → Grants → Type 0
AreHeldIn r roles = (grant : Grant) → has_grant roles grant ≡ true → holds r grant.party grant.role ≡ true

-- the parties of these roles hold no mandate in the register
abbrev pub HoldNoMandateIn : Register → Grants → Type 0
HoldNoMandateIn r roles = (grant : Grant) → has_grant roles grant ≡ true → HoldsNoMandate r grant.party

-- all remembered facts hold in the register
pub record IsKnownIn (r : Register) (known : KnownRoles) : Type 0 where
  pub roles : AreHeldIn r known.roles
  pub mandates : HoldNoMandateIn r known.without_mandates

-- the remembered facts, if there are any, hold in the register
abbrev pub AreKnownIn : Register → Option KnownRoles → Type 0
AreKnownIn r None = Unit {0}
AreKnownIn r (Some known) = IsKnownIn r known

-- if this is true, the caller holds the role that it claims in the register
abbrev pub HoldsRoleIf : Bool → Register → Caller → Type 0
HoldsRoleIf is_held r caller = is_held ≡ true → holds r caller.party caller.role ≡ true

-- whether only a caller that holds the role that it claims gets this verdict: rules 1 and 2 deny all others
abbrev pub shows_role : Verdict → Bool
shows_role Allowed = true
shows_role (Denied rule) = nat_lt 2 rule
