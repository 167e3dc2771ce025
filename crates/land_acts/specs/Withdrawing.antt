-- The act `withdraw`: a mandate ends. The policy decides which parties may withdraw it: its principal and its
-- agent.
use Rattle.std.specs.Prelude.{ℤ, Bool, not, List, [], ◌∷◌, Option, is_none}
use Rattle.land_acts.specs.Mutations.Planning.{done_on}
use Rattle.land_acts.specs.declared.mutations.refusal.Refusal.{Refusal}
use Rattle.land_acts.specs.declared.mutations.refusal.Refusal.TheVariants.{ClockOut, NoMandate}
use Rattle.land_core.specs.Changes.{no_put, no_ended}
use Rattle.land_core.specs.Mandates.{has_mandate}
use Rattle.land_core.specs.declared.change.Change.{Change}
use Rattle.land_core.specs.declared.change.Done.{Done}
use Rattle.land_core.specs.declared.mandates.Mandate.{Mandate}
use Rattle.land_core.specs.declared.register.Register.{Register}

-- the refusals with their conditions, in ascending order
abbrev pub withdraw_refusals : Register → Mandate → Option ℤ → List (Refusal × Bool)
withdraw_refusals r it stamp = (ClockOut, is_none stamp) ∷ (NoMandate, not (has_mandate r.mandates it)) ∷ []

-- the mandate ends
abbrev pub withdraw_change : Register → Mandate → Change
withdraw_change r it = record {
  put = no_put;
  ended = record no_ended { mandates = it ∷ [] };
  next = r.next;
}

-- the receipt is about the agent
abbrev pub withdraw_done : Mandate → ℤ → Done
withdraw_done it stamp = done_on it.agent stamp
