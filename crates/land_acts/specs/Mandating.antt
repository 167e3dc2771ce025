-- The act `mandate`: the caller, as principal, lets another single party, the agent, see what it sees.
use Rattle.std.specs.Prelude.{ℤ, Bool, not, nat_eq, List, [], ◌∷◌, Option, is_none}
use Rattle.land_acts.specs.Mutations.Planning.{done_on}
use Rattle.land_acts.specs.declared.mutations.refusal.Refusal.{Refusal}
use Rattle.land_acts.specs.declared.mutations.refusal.Refusal.TheVariants.{NoSuchParty, ClockOut, SameParty}
use Rattle.land_acts.specs.declared.mutations.refusal.Refusal.TheVariants.{MandateHeld}
use Rattle.land_core.specs.Changes.{no_put, no_ended}
use Rattle.land_core.specs.Mandates.{has_mandate, mandate_between}
use Rattle.land_core.specs.Register.{has_single_party}
use Rattle.land_core.specs.declared.act.NewMandate.{NewMandate}
use Rattle.land_core.specs.declared.caller.Caller.{Caller}
use Rattle.land_core.specs.declared.change.Change.{Change}
use Rattle.land_core.specs.declared.change.Done.{Done}
use Rattle.land_core.specs.declared.mandates.Mandate.{Mandate}
use Rattle.land_core.specs.declared.register.Register.{Register}

-- the mandate from the caller to the agent
abbrev pub mandate_of_caller : Caller → NewMandate → Mandate
mandate_of_caller caller it = mandate_between caller.party it.agent

-- the refusals with their conditions, in ascending order
abbrev pub mandate_refusals : Register → Caller → NewMandate → Option ℤ → List (Refusal × Bool)
mandate_refusals r caller it stamp =
    (NoSuchParty, not (has_single_party r it.agent))
    ∷ (ClockOut, is_none stamp)
    ∷ (SameParty, nat_eq it.agent caller.party)
    ∷ (MandateHeld, has_mandate r.mandates (mandate_of_caller caller it))
    ∷ []

-- the mandate starts
abbrev pub mandate_change : Register → Caller → NewMandate → Change
mandate_change r caller it = record {
  put = record no_put { mandates = mandate_of_caller caller it ∷ [] };
  ended = no_ended;
  next = r.next;
}

-- the receipt is about the agent
abbrev pub mandate_done : NewMandate → ℤ → Done
mandate_done it stamp = done_on it.agent stamp
