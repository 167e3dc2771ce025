-- The act `regroup`: the listed members replace those of a group.
use Rattle.std.specs.Prelude.{ℤ, Bool, not, ◌||◌, List, [], ◌∷◌, Option, is_none}
use Rattle.land_acts.specs.Mutations.Planning.{done_on}
use Rattle.land_acts.specs.Sharing.{lists_no_single_party, are_too_fine, are_whole, lists_twice}
use Rattle.land_acts.specs.Sharing.{members_of_list}
use Rattle.land_acts.specs.declared.mutations.refusal.Refusal.{Refusal}
use Rattle.land_acts.specs.declared.mutations.refusal.Refusal.TheVariants.{NoSuchParty, SharesTooFine}
use Rattle.land_acts.specs.declared.mutations.refusal.Refusal.TheVariants.{SharesNotWhole, ClockOut}
use Rattle.land_acts.specs.declared.mutations.refusal.Refusal.TheVariants.{SameParty}
use Rattle.land_core.specs.Changes.{no_put, no_ended}
use Rattle.land_core.specs.Register.{has_group}
use Rattle.land_core.specs.declared.act.Regroup.{Regroup}
use Rattle.land_core.specs.declared.change.Change.{Change}
use Rattle.land_core.specs.declared.change.Done.{Done}
use Rattle.land_core.specs.declared.register.Register.{Register}

-- the refusals with their conditions, in ascending order
abbrev pub regroup_refusals : Register → Regroup → Option ℤ → List (Refusal × Bool)
regroup_refusals r it stamp =
    (NoSuchParty, not (has_group r it.group) || lists_no_single_party r it.members)
    ∷ (SharesTooFine, are_too_fine it.members)
    ∷ (SharesNotWhole, not (are_whole it.members))
    ∷ (ClockOut, is_none stamp)
    ∷ (SameParty, lists_twice it.members)
    ∷ []

-- the group has exactly the listed members
abbrev pub regroup_change : Register → Regroup → Change
regroup_change r it = record {
  put = record no_put { members = (it.group, members_of_list it.members) ∷ [] };
  ended = no_ended;
  next = r.next;
}

-- the receipt is about the group
abbrev pub regroup_done : Regroup → ℤ → Done
regroup_done it stamp = done_on it.group stamp
