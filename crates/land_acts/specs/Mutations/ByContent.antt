-- The contents of mutations: for each, its refusals, its change, and the numbers that it creates.
use Rattle.std.specs.Prelude.{ℕ, ◌+◌, ◌≡◌, ◌≤◌, ℤ, Bool, ◌&&◌, List, [], ◌∷◌, Option, Some, None, nat_lt}
use Rattle.land_acts.specs.Mutations.Discharging.{discharge_refusals, discharge_change}
use Rattle.land_acts.specs.Mutations.Merging.{merger_refusals, merger_change}
use Rattle.land_acts.specs.Mutations.Mortgaging.{greatest, mortgage_refusals, mortgage_change, next_rank}
use Rattle.land_acts.specs.Mutations.Mortgaging.{ranks_in}
use Rattle.land_acts.specs.Mutations.Subdividing.{subdivision_refusals, subdivision_change, subdivision_count}
use Rattle.land_acts.specs.Mutations.Subdividing.{subdivision_made}
use Rattle.land_acts.specs.Mutations.Transferring.{transfer_refusals, move_change, right_of_receiver}
use Rattle.land_acts.specs.Mutations.Transferring.{right_at}
use Rattle.land_acts.specs.Mutations.Transferring.{new_rights, number_after}
use Rattle.land_acts.specs.declared.mutations.refusal.Refusal.{Refusal}
use Rattle.land_acts.specs.declared.mutations.transfer.HeldRight.{HeldRight}
use Rattle.land_core.specs.Changes.{no_change}
use Rattle.land_core.specs.Numbers.{last_next}
use Rattle.land_core.specs.declared.change.Change.{Change}
use Rattle.land_core.specs.declared.content.Content.{Content}
use Rattle.land_core.specs.declared.content.Content.TheVariants as content
use Rattle.land_core.specs.declared.content.Transfer.{Transfer}
use Rattle.land_core.specs.declared.register.Register.{Register}

-- the refusals of a content with their conditions, in ascending order
abbrev pub content_refusals : Register → Content → Option ℤ → List (Refusal × Bool)
content_refusals r (content.Transfer it) stamp = transfer_refusals r it stamp
content_refusals r (content.Subdivision it) stamp = subdivision_refusals r it stamp
content_refusals r (content.Merger it) stamp = merger_refusals r it stamp
content_refusals r (content.Mortgage it) stamp = mortgage_refusals r it stamp
content_refusals r (content.Discharge it) stamp = discharge_refusals r it stamp

-- the change of a transfer from a right, if the right exists
abbrev pub transfer_change : Register → (source : ℕ) → Transfer → Option HeldRight → Change
transfer_change r source it None = no_change r.next
transfer_change r source it (Some from) = move_change r source it from

-- the change of a content to which no refusal applies
abbrev pub content_change : Register → (source : ℕ) → Content → Change
content_change r source (content.Transfer it) = transfer_change r source it (right_at r it.unit it.right)
content_change r source (content.Subdivision it) = subdivision_change r source it
content_change r source (content.Merger it) = merger_change r source it
content_change r source (content.Mortgage it) = mortgage_change r source it
content_change r source (content.Discharge it) = discharge_change r it

-- the numbers of the objects that a transfer creates, if its right exists
abbrev pub transfer_made : Register → Transfer → Option HeldRight → List ℕ
transfer_made r it None = []
transfer_made r it (Some from) = new_rights r (right_of_receiver r it from)

-- the numbers of the objects that a content creates
abbrev pub content_made : Register → Content → List ℕ
content_made r (content.Transfer it) = transfer_made r it (right_at r it.unit it.right)
content_made r (content.Subdivision it) = subdivision_made r it
content_made r (content.Merger it) = r.next ∷ []
content_made r (content.Mortgage it) = r.next ∷ []
content_made r (content.Discharge it) = []

-- the numbers and the rank that a content creates are in range
abbrev pub StaysInRange : Register → Content → Type 0
StaysInRange r (content.Transfer it) =
    (from : HeldRight) → right_at r it.unit it.right ≡ Some from
    → number_after r (right_of_receiver r it from) ≤ last_next
StaysInRange r (content.Subdivision it) = r.next + subdivision_count r it ≤ last_next
StaysInRange r (content.Merger it) = r.next ≤ 1000000000
StaysInRange r (content.Mortgage it) = (r.next ≤ 1000000000) × (next_rank r it.unit ≤ 1000000000)
StaysInRange r (content.Discharge it) = Unit

-- whether the next number is one of an object, or the first one after them
abbrev pub is_next_in_range : Register → Bool
is_next_in_range r = nat_lt r.next 1000000002

-- whether they are, decided from the numbers of the register; a sound register always satisfies it
abbrev pub has_room : Register → Content → Bool
has_room r (content.Transfer it) = is_next_in_range r
has_room r (content.Subdivision it) = is_next_in_range r
has_room r (content.Merger it) = is_next_in_range r
has_room r (content.Mortgage it) = is_next_in_range r && nat_lt (greatest (ranks_in r it.unit)) 1000000000
has_room r (content.Discharge it) = is_next_in_range r
