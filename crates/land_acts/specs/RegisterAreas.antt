-- The total area of a register: approvals preserve it, and of all acts only registrations add to it.
use Rattle.std.specs.Prelude.{◌≡◌, ℕ, ◌+◌, ◌≤◌, ℤ, true, false, List, [], ◌∷◌, map as map_list, Some, None}
use Rattle.std.specs.Prelude.{Ok}
use Rattle.std.specs.List.{AllByRecursion}
use Rattle.std.specs.FinMap as map
use Rattle.land_acts.specs.AreaLaws.{new_outlines}
use Rattle.land_acts.specs.Laws.{IsAccepted}
use Rattle.land_acts.specs.Mutations.Areas.{doubled_areas, outlines_at}
use Rattle.land_acts.specs.Mutations.Subdividing.{all_parts, outlines_of}
use Rattle.land_acts.specs.Outcome.{outcome_of}
use Rattle.land_acts.specs.declared.mutations.refusal.Planned.TheVariants.{New}
use Rattle.land_core.specs.Changes.{after}
use Rattle.land_core.specs.Entries.{has}
use Rattle.land_core.specs.Mergers.{lists_number}
use Rattle.land_core.specs.Soundness.{IsSound}
use Rattle.land_core.specs.declared.act.Act.{Act}
use Rattle.land_core.specs.declared.act.Act.TheVariants as act
use Rattle.land_core.specs.declared.act.Decision.{Decision}
use Rattle.land_core.specs.declared.caller.Caller.{Caller}
use Rattle.land_core.specs.declared.change.Change.{Change}
use Rattle.land_core.specs.declared.change.Done.{Done}
use Rattle.land_core.specs.declared.content.Content.{Content}
use Rattle.land_core.specs.declared.content.Content.TheVariants as content
use Rattle.land_core.specs.declared.mutation.MutationRecord.{MutationRecord}
use Rattle.land_core.specs.declared.register.Register.{Register}
use Rattle.land_shape.specs.Matching.{Match}
use Rattle.land_shape.specs.Place.{Place}

-- twice the total area of all parcels of a register, in square millimetres
abbrev pub total_doubled_area : Register → ℕ
total_doubled_area r = doubled_areas (map_list (λ e. e.1.outline) (map.entries r.parcels))

-- ---- approvals

-- the numbers of the parcels that a mutation cuts or merges
abbrev pub parcels_replaced : Content → List ℕ
parcels_replaced (content.Transfer it) = []
parcels_replaced (content.Subdivision it) = it.parcel ∷ []
parcels_replaced (content.Merger it) = it.parcels
parcels_replaced (content.Mortgage it) = []
parcels_replaced (content.Discharge it) = []

-- the outlines of the parcels that replace them
abbrev pub requested_outlines : Content → List (List Place)
requested_outlines (content.Transfer it) = []
requested_outlines (content.Subdivision it) = outlines_of (all_parts it)
requested_outlines (content.Merger it) = it.outline ∷ []
requested_outlines (content.Mortgage it) = []
requested_outlines (content.Discharge it) = []

-- the effect of a change that replaces the parcels at these numbers by new ones
pub record HaveReplaced (r : Register) (replaced : List ℕ) (outlines : List (List Place)) (change : Change)
    : Type 0 where
  -- the total area is unchanged
  pub area : total_doubled_area (after change r) ≡ total_doubled_area r
  -- a parcel existed at each of the numbers, and does not exist any more
  pub gone : (n : ℕ) → lists_number replaced n ≡ true
      → (has r.parcels n ≡ true) × (map.get (after change r).parcels n ≡ None)
  -- the new parcels have these outlines
  pub outlined : new_outlines change ≡ outlines
  -- they cover exactly the ground of the replaced parcels
  pub ground : Match (outlines_at r replaced) outlines
  -- each new parcel exists, under a new number
  pub stand : AllByRecursion
      (λ e. (r.next ≤ e.0) × (map.get (after change r).parcels e.0 ≡ Some e.1)) change.put.parcels
  -- every other number is unchanged
  pub others : (n : ℕ) → lists_number replaced n ≡ false
      → lists_number (map_list (λ e. e.0) change.put.parcels) n ≡ false
      → map.get (after change r).parcels n ≡ map.get r.parcels n

-- an approval replaces the parcels that the mutation cuts or merges by those that it requests, and preserves
-- the total area
abbrev pub ApprovedRegistersKeepTheirArea : Type 0
ApprovedRegistersKeepTheirArea =
    (r : Register) (caller : Caller) (decision : Decision) (m : MutationRecord) (stamp : ℤ) (change : Change)
    (done : Done)
    → IsSound r → map.get r.mutations decision.mutation ≡ Some m
    → outcome_of r caller (act.Approve decision) (Some stamp) ≡ Ok (New change done)
    → HaveReplaced r (parcels_replaced m.content) (requested_outlines m.content) change

-- ---- all acts

-- twice the total area of the parcels that an act registers
abbrev pub area_registered : Act → ℕ
area_registered (act.Enrol it) = 0
area_registered (act.Group it) = 0
area_registered (act.Regroup it) = 0
area_registered (act.Grant it) = 0
area_registered (act.Revoke it) = 0
area_registered (act.Mandate it) = 0
area_registered (act.Withdraw it) = 0
area_registered (act.Register it) = doubled_areas (map_list (λ parcel. parcel.outline) it.parcels)
area_registered (act.Burden it) = 0
area_registered (act.Lift it) = 0
area_registered (act.Lodge it) = 0
area_registered (act.Approve it) = 0
area_registered (act.Refuse it) = 0

-- an accepted act adds to the total area exactly the area that it registers
abbrev pub OnlyRegistrationsAddArea : Type 0
OnlyRegistrationsAddArea =
    (r : Register) (change : Change) (stamp : ℤ) → IsSound r → (h : IsAccepted r change stamp)
    → total_doubled_area (after change r) ≡ total_doubled_area r + area_registered h.act
