-- Laws on ground, stated only over the definitions: an approval writes parcels that cover exactly the ground
-- of those that they replace.
use Rattle.std.specs.Prelude.{◌≡◌, ℤ, [], ◌∷◌, Some, Ok}
use Rattle.std.specs.FinMap as map
use Rattle.land_acts.specs.AreaLaws.{new_outlines}
use Rattle.land_acts.specs.Mutations.Areas.{outlines_at}
use Rattle.land_acts.specs.Outcome.{outcome_of}
use Rattle.land_acts.specs.declared.mutations.refusal.Planned.TheVariants.{New}
use Rattle.land_core.specs.declared.act.Act.TheVariants.{Approve}
use Rattle.land_core.specs.declared.act.Decision.{Decision}
use Rattle.land_core.specs.declared.caller.Caller.{Caller}
use Rattle.land_core.specs.declared.change.Change.{Change}
use Rattle.land_core.specs.declared.change.Done.{Done}
use Rattle.land_core.specs.declared.content.Content.TheVariants as content
use Rattle.land_core.specs.declared.merger.Merger.{Merger}
use Rattle.land_core.specs.declared.mutation.MutationRecord.{MutationRecord}
use Rattle.land_core.specs.declared.parcel.ParcelRecord.{ParcelRecord}
use Rattle.land_core.specs.declared.register.Register.{Register}
use Rattle.land_core.specs.declared.subdivision.Subdivision.{Subdivision}
use Rattle.land_shape.specs.Matching.{Match}

-- the new parcels of an approved subdivision cover exactly the ground of the old parcel
abbrev pub SubdivisionsKeepGround : Type 0
SubdivisionsKeepGround =
    (r : Register) (caller : Caller) (decision : Decision) (m : MutationRecord) (it : Subdivision)
    (old : ParcelRecord) (stamp : ℤ) (change : Change) (done : Done)
    → map.get r.mutations decision.mutation ≡ Some m → m.content ≡ content.Subdivision it
    → map.get r.parcels it.parcel ≡ Some old
    → outcome_of r caller (Approve decision) (Some stamp) ≡ Ok (New change done)
    → Match (old.outline ∷ []) (new_outlines change)

-- the new parcel of an approved merger covers exactly the ground of the listed parcels
abbrev pub MergersKeepGround : Type 0
MergersKeepGround =
    (r : Register) (caller : Caller) (decision : Decision) (m : MutationRecord) (it : Merger) (stamp : ℤ)
    (change : Change) (done : Done)
    → map.get r.mutations decision.mutation ≡ Some m → m.content ≡ content.Merger it
    → outcome_of r caller (Approve decision) (Some stamp) ≡ Ok (New change done)
    → Match (outlines_at r it.parcels) (new_outlines change)
