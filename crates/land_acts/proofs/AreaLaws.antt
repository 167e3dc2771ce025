-- The parcels that an approval writes cover the ground of those that end, and so have their area.
use Rattle.std.proofs.Common.{◌≡◌, not, Some, None, List, [], ◌∷◌, sym, ap, ◌∙◌, arith, subst}
use Rattle.std.specs.Prelude.{ℤ, Ok}
use Rattle.std.specs.Option.{option_map_or}
use Rattle.std.specs.FinMap as map
use Rattle.land_acts.proofs.Accepted.{plan_of}
use Rattle.land_acts.proofs.MergedKeys.{merged_area, merged_ground}
use Rattle.land_acts.proofs.Refusals.{first_none}
use Rattle.land_acts.proofs.SubdividedGrounds.{subdivision_keeps_area, subdivision_keeps_ground}
use Rattle.land_acts.specs.AreaLaws.{MergersKeepAreas, SubdivisionsKeepAreas, new_outlines}
use Rattle.land_acts.specs.Deciding.{is_lodged, with_state}
use Rattle.land_acts.specs.GroundLaws.{MergersKeepGround, SubdivisionsKeepGround}
use Rattle.land_acts.specs.Mutations.Areas.{doubled_areas, outlines_at}
use Rattle.land_acts.specs.Mutations.ByContent.{content_change, content_refusals}
use Rattle.land_acts.specs.Mutations.Planning.{first_refusal_of}
use Rattle.land_acts.specs.Outcome.{outcome_of}
use Rattle.land_acts.specs.declared.mutations.refusal.Planned.TheVariants.{New}
use Rattle.land_acts.specs.declared.mutations.refusal.Refusal.TheVariants.{NotLodged}
use Rattle.land_core.specs.Changes.{no_change}
use Rattle.land_core.specs.declared.act.Act.TheVariants.{Approve}
use Rattle.land_core.specs.declared.act.Decision.{Decision}
use Rattle.land_core.specs.declared.caller.Caller.{Caller}
use Rattle.land_core.specs.declared.change.Change.{Change}
use Rattle.land_core.specs.declared.change.Done.{Done}
use Rattle.land_core.specs.declared.content.Content.{Content}
use Rattle.land_core.specs.declared.content.Content.TheVariants as content
use Rattle.land_core.specs.declared.mutation.MutationRecord.{MutationRecord}
use Rattle.land_core.specs.declared.mutation.MutationState.TheVariants.{Approved}
use Rattle.land_core.specs.declared.register.Register.{Register}
use Rattle.land_shape.specs.Matching.{Match}
use Rattle.land_shape.specs.Place.{Place}

-- an approval has the change of its content, to which no refusal applies, and so writes its parcels
pub record IsApproved (r : Register) (decision : Decision) (m : MutationRecord) (c : Content) (stamp : ℤ) (change : Change) : Type 0 where
  pub unrefused : first_refusal_of (content_refusals r c (Some stamp)) ≡ None
  pub same : with_state Approved decision.mutation m (content_change r m.source c) ≡ change
  pub puts : new_outlines change ≡ new_outlines (content_change r m.source c)

pub approval_plan : (r : Register) (caller : Caller) (decision : Decision) (m : MutationRecord) (c : Content) (stamp : ℤ) (change : Change) (done : Done)
    → map.get r.mutations decision.mutation ≡ Some m → m.content ≡ c → outcome_of r caller (Approve decision) (Some stamp) ≡ Ok (New change done)
    → IsApproved r decision m c stamp change
approval_plan r caller decision m c stamp change done there is outcome =
    let plan = plan_of r caller (Approve decision) stamp change done outcome in
    let lines = (first_none NotLodged (not (is_lodged r decision.mutation)) (option_map_or (λ m. content_refusals r m.content (Some stamp)) (map.get r.mutations decision.mutation) []) plan.none_holds).rest in
    let made : with_state Approved decision.mutation m (content_change r m.source c) ≡ change =
    ap (λ c. with_state Approved decision.mutation m (content_change r m.source c)) (sym is)
    ∙ ap (λ o. option_map_or (λ m. with_state Approved decision.mutation m (content_change r m.source m.content)) o (no_change r.next)) (sym there)
    ∙ plan.same in
    record {
      unrefused = sym (ap (λ o. first_refusal_of (option_map_or (λ m. content_refusals r m.content (Some stamp)) o [])) there ∙ ap (λ c. first_refusal_of (content_refusals r c (Some stamp))) is) ∙ lines;
      same = made;
      puts = sym (ap new_outlines made);
    }

pub subdivisions_keep_areas : SubdivisionsKeepAreas
subdivisions_keep_areas r caller decision m it old stamp change done there is stands outcome =
    let approval = approval_plan r caller decision m (content.Subdivision it) stamp change done there is outcome in
    ap doubled_areas approval.puts ∙ subdivision_keeps_area r m.source it (Some stamp) approval.unrefused old stands

pub subdivisions_keep_ground : SubdivisionsKeepGround
subdivisions_keep_ground r caller decision m it old stamp change done there is stands outcome =
    let approval = approval_plan r caller decision m (content.Subdivision it) stamp change done there is outcome in
    subst (λ (new : List (List Place)). Match (old.outline ∷ []) new) (sym approval.puts) (subdivision_keeps_ground r m.source it (Some stamp) approval.unrefused old stands)

pub mergers_keep_ground : MergersKeepGround
mergers_keep_ground r caller decision m it stamp change done there is outcome =
    let approval = approval_plan r caller decision m (content.Merger it) stamp change done there is outcome in
    subst (λ (new : List (List Place)). Match (outlines_at r it.parcels) new) (sym approval.puts) (merged_ground r it (Some stamp) approval.unrefused)

pub mergers_keep_areas : MergersKeepAreas
mergers_keep_areas r caller decision m it stamp change done there is outcome =
    let approval = approval_plan r caller decision m (content.Merger it) stamp change done there is outcome in
    let same = merged_area r it (Some stamp) approval.unrefused in
    ap doubled_areas approval.puts ∙ omega (arith, same)
