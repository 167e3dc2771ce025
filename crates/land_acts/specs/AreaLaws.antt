-- Laws on areas, stated only over the definitions: an approval preserves the total area of the parcels that
-- it replaces.
use Rattle.std.specs.Prelude.{◌≡◌, ℤ, List, map as map_list, Some, Ok}
use Rattle.std.specs.FinMap as map
use Rattle.land_acts.specs.Mutations.Areas.{doubled_areas, outlines_at}
use Rattle.land_acts.specs.Outcome.{outcome_of}
use Rattle.land_acts.specs.declared.mutations.refusal.Planned.TheVariants.{New}
use Rattle.land_core.specs.declared.act.Act.TheVariants.{Approve}
use Rattle.land_core.specs.declared.act.Decision.{Decision}
use Rattle.land_core.specs.declared.caller.Caller.{Caller}
use Rattle.land_core.specs.declared.change.Change.{Change}
use Rattle.land_core.specs.declared.change.Done.{Done}
use Rattle.land_core.specs.declared.content.Content.TheVariants as content
use Rattle.land_core.specs.declared.merger.Merger.{Merger}
use Rattle.land_core.specs.declared.mutation.MutationRecord.{MutationRecord}
use Rattle.land_core.specs.declared.parcel.ParcelRecord.{ParcelRecord}
use Rattle.land_core.specs.declared.register.Register.{Register}
use Rattle.land_core.specs.declared.subdivision.Subdivision.{Subdivision}
use Rattle.land_shape.specs.Outline.{doubled_area}
use Rattle.land_shape.specs.Place.{Place}

-- the outlines of the parcels that a change writes
abbrev pub new_outlines : Change → List (List Place)
new_outlines change = map_list (λ e. e.1.outline) change.put.parcels

-- the new parcels of an approved subdivision have in total the area of the old parcel
abbrev pub SubdivisionsKeepAreas : Type 0
SubdivisionsKeepAreas =
    (r : Register) (caller : Caller) (decision : Decision) (m : MutationRecord) (it : Subdivision)
    (old : ParcelRecord) (stamp : ℤ) (change : Change) (done : Done)
    → map.get r.mutations decision.mutation ≡ Some m → m.content ≡ content.Subdivision it
    → map.get r.parcels it.parcel ≡ Some old
    → outcome_of r caller (Approve decision) (Some stamp) ≡ Ok (New change done)
    → doubled_areas (new_outlines change) ≡ doubled_area old.outline

-- the new parcel of an approved merger has the total area of the listed parcels
abbrev pub MergersKeepAreas : Type 0
MergersKeepAreas =
    (r : Register) (caller : Caller) (decision : Decision) (m : MutationRecord) (it : Merger) (stamp : ℤ)
    (change : Change) (done : Done)
    → map.get r.mutations decision.mutation ≡ Some m → m.content ≡ content.Merger it
    → outcome_of r caller (Approve decision) (Some stamp) ≡ Ok (New change done)
    → doubled_areas (new_outlines change) ≡ doubled_areas (outlines_at r it.parcels)
