-- The act `enrol`: a natural or non-natural person gets the next number and becomes a citizen.
use Rattle.std.specs.Prelude.{◌+◌, Bool, List, [], ◌∷◌, Option, is_none, ℤ}
use Rattle.land_acts.specs.Mutations.Planning.{runs_out_of_numbers}
use Rattle.land_acts.specs.declared.mutations.refusal.Refusal.{Refusal}
use Rattle.land_acts.specs.declared.mutations.refusal.Refusal.TheVariants.{TooMany, ClockOut}
use Rattle.land_core.specs.Changes.{no_put, no_ended}
use Rattle.land_core.specs.Grants.{grant_to}
use Rattle.land_core.specs.declared.act.Enrol.{Enrol}
use Rattle.land_core.specs.declared.change.Change.{Change}
use Rattle.land_core.specs.declared.change.Done.{Done}
use Rattle.land_core.specs.declared.register.Register.{Register}
use Rattle.land_core.specs.declared.role.Role.TheVariants.{Citizen}

-- the refusals with their conditions, in ascending order
abbrev pub enrol_refusals : Register → Option ℤ → List (Refusal × Bool)
enrol_refusals r stamp = (TooMany, runs_out_of_numbers r 1) ∷ (ClockOut, is_none stamp) ∷ []

-- the party gets the next number and the role citizen
abbrev pub enrol_change : Register → Enrol → Change
enrol_change r it = record {
  put = record no_put {
    parties = (r.next, record { kind = it.kind; name = it.name }) ∷ [];
    roles = grant_to r.next Citizen ∷ [];
  };
  ended = no_ended;
  next = r.next + 1;
}

-- the receipt is about the party, which the act created
abbrev pub enrol_done : Register → Enrol → ℤ → Done
enrol_done r it stamp = record { number = r.next; made = r.next ∷ []; stamp = stamp }
