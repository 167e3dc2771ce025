-- The act `grant`: a single party gets a role that it does not hold.
use Rattle.std.specs.Prelude.{ℤ, Bool, not, List, [], ◌∷◌, Option, is_none}
use Rattle.land_acts.specs.Mutations.Planning.{done_on}
use Rattle.land_acts.specs.declared.mutations.refusal.Refusal.{Refusal}
use Rattle.land_acts.specs.declared.mutations.refusal.Refusal.TheVariants.{NoSuchParty, RoleHeld, ClockOut}
use Rattle.land_core.specs.Changes.{no_put, no_ended}
use Rattle.land_core.specs.Register.{has_single_party, holds}
use Rattle.land_core.specs.declared.change.Change.{Change}
use Rattle.land_core.specs.declared.change.Done.{Done}
use Rattle.land_core.specs.declared.register.Register.{Register}
use Rattle.land_core.specs.declared.roles.Grant.{Grant}

-- the refusals with their conditions, in ascending order
abbrev pub grant_refusals : Register → Grant → Option ℤ → List (Refusal × Bool)
grant_refusals r it stamp =
    (NoSuchParty, not (has_single_party r it.party)) ∷ (RoleHeld, holds r it.party it.role)
    ∷ (ClockOut, is_none stamp) ∷ []

-- the role starts
abbrev pub grant_change : Register → Grant → Change
grant_change r it = record {
  put = record no_put { roles = it ∷ [] };
  ended = no_ended;
  next = r.next;
}

-- the receipt is about the party
abbrev pub grant_done : Grant → ℤ → Done
grant_done it stamp = done_on it.party stamp
