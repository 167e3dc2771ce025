-- The act `group`: single parties, each with its share, become the members of a new group, which has no
-- roles.
use Rattle.std.specs.Prelude.{◌+◌, ℤ, Bool, not, List, [], ◌∷◌, Option, is_none}
use Rattle.land_acts.specs.Mutations.Planning.{runs_out_of_numbers}
use Rattle.land_acts.specs.Sharing.{lists_no_single_party, are_too_fine, are_whole, lists_twice}
use Rattle.land_acts.specs.Sharing.{members_of_list}
use Rattle.land_acts.specs.declared.mutations.refusal.Refusal.{Refusal}
use Rattle.land_acts.specs.declared.mutations.refusal.Refusal.TheVariants.{NoSuchParty, SharesTooFine}
use Rattle.land_acts.specs.declared.mutations.refusal.Refusal.TheVariants.{TooMany, SharesNotWhole, ClockOut}
use Rattle.land_acts.specs.declared.mutations.refusal.Refusal.TheVariants.{SameParty}
use Rattle.land_core.specs.Changes.{no_put, no_ended}
use Rattle.land_core.specs.declared.act.NewGroup.{NewGroup}
use Rattle.land_core.specs.declared.change.Change.{Change}
use Rattle.land_core.specs.declared.change.Done.{Done}
use Rattle.land_core.specs.declared.kind.PartyKind.TheVariants.{Group}
use Rattle.land_core.specs.declared.register.Register.{Register}

-- the refusals with their conditions, in ascending order
abbrev pub group_refusals : Register → NewGroup → Option ℤ → List (Refusal × Bool)
group_refusals r it stamp =
    (NoSuchParty, lists_no_single_party r it.members)
    ∷ (SharesTooFine, are_too_fine it.members)
    ∷ (TooMany, runs_out_of_numbers r 1)
    ∷ (SharesNotWhole, not (are_whole it.members))
    ∷ (ClockOut, is_none stamp)
    ∷ (SameParty, lists_twice it.members)
    ∷ []

-- the group gets the next number, and so do its members
abbrev pub group_change : Register → NewGroup → Change
group_change r it = record {
  put = record no_put {
    parties = (r.next, record { kind = Group; name = it.name }) ∷ [];
    members = (r.next, members_of_list it.members) ∷ [];
  };
  ended = no_ended;
  next = r.next + 1;
}

-- the receipt is about the group, which the act created
abbrev pub group_done : Register → ℤ → Done
group_done r stamp = record { number = r.next; made = r.next ∷ []; stamp = stamp }
