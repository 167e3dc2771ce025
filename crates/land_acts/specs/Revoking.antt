-- The act `revoke`: a role of a single party ends. The last state administrator keeps its role.
use Rattle.std.specs.Prelude.{ℕ, ℤ, Bool, not, ◌&&◌, nat_eq, List, [], ◌∷◌, Option, is_none}
use Rattle.std.specs.List.{list_any}
use Rattle.land_acts.specs.Mutations.Planning.{done_on}
use Rattle.land_acts.specs.declared.mutations.refusal.Refusal.{Refusal}
use Rattle.land_acts.specs.declared.mutations.refusal.Refusal.TheVariants.{NoSuchParty, RoleNotHeld, ClockOut}
use Rattle.land_acts.specs.declared.mutations.refusal.Refusal.TheVariants.{LastAdministrator}
use Rattle.land_core.specs.Changes.{no_put, no_ended}
use Rattle.land_core.specs.Grants.{grants_in}
use Rattle.land_core.specs.Register.{has_single_party, holds}
use Rattle.land_core.specs.Role.{is_role}
use Rattle.land_core.specs.declared.change.Change.{Change}
use Rattle.land_core.specs.declared.change.Done.{Done}
use Rattle.land_core.specs.declared.register.Register.{Register}
use Rattle.land_core.specs.declared.role.Role.TheVariants.{StateAdministrator}
use Rattle.land_core.specs.declared.roles.Grant.{Grant}

-- whether another party is state administrator
abbrev pub has_other_administrator : Register → ℕ → Bool
has_other_administrator r n =
    list_any (λ grant. is_role grant.role StateAdministrator && not (nat_eq grant.party n))
    (grants_in r.roles)

-- the refusals with their conditions, in ascending order
abbrev pub revoke_refusals : Register → Grant → Option ℤ → List (Refusal × Bool)
revoke_refusals r it stamp =
    (NoSuchParty, not (has_single_party r it.party))
    ∷ (RoleNotHeld, not (holds r it.party it.role))
    ∷ (ClockOut, is_none stamp)
    ∷ (LastAdministrator, is_role it.role StateAdministrator && not (has_other_administrator r it.party))
    ∷ []

-- the role ends
abbrev pub revoke_change : Register → Grant → Change
revoke_change r it = record {
  put = no_put;
  ended = record no_ended { roles = it ∷ [] };
  next = r.next;
}

-- the receipt is about the party
abbrev pub revoke_done : Grant → ℤ → Done
revoke_done it stamp = done_on it.party stamp
