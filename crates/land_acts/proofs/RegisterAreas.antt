-- Approvals preserve the total area of a register, and of all acts only registrations add to it.
use Rattle.std.proofs.Common.{◌≡◌, ℕ, ◌+◌, ◌<◌, ◌≤◌, Bool, true, false, ◌||◌, not, Option, Some, None, List, [], ◌∷◌, refl, sym, ap, ◌∙◌, subst, arith}
use Rattle.std.specs.Prelude.{ℤ, is_some, nat_eq, map as map_list}
use Rattle.std.specs.List.{AllByRecursion}
use Rattle.std.specs.Option.{option_map_or}
use Rattle.std.specs.FinMap as map
use Rattle.std.proofs.lemmas.Bool.{false≢true, eqb-true, not-false}
use Rattle.land_acts.proofs.Accepted.{plan_of}
use Rattle.land_acts.proofs.AreaLaws.{approval_plan}
use Rattle.land_acts.proofs.MergedApprovals.{tight_mutation}
use Rattle.land_acts.proofs.MergedKeys.{merger_names_once, unrefused_merger}
use Rattle.land_acts.proofs.MergedParcels.{listed_fails}
use Rattle.land_acts.proofs.NewObjects.{numbered_once}
use Rattle.land_acts.proofs.Refusals.{first_none}
use Rattle.land_acts.proofs.ReplacedParcels.{IsReplacement, area_changes, area_in, ended_gone, new_stand, others_stay}
use Rattle.land_acts.proofs.SameGround.{same_area, same_match}
use Rattle.land_acts.proofs.SubdividedGrounds.{outlines_made, unrefused_subdivision}
use Rattle.land_acts.proofs.SubdividedKeys.{parcels_above, subdivision_names_once}
use Rattle.land_acts.specs.AreaLaws.{new_outlines}
use Rattle.land_acts.specs.Deciding.{is_lodged, with_state}
use Rattle.land_acts.specs.Mutations.Areas.{doubled_areas, outlines_at}
use Rattle.land_acts.specs.Mutations.ByContent.{content_change, content_refusals, transfer_change}
use Rattle.land_acts.specs.Mutations.Discharging.{discharge_change}
use Rattle.land_acts.specs.Mutations.Merging.{is_unit_of_merger, is_parcel_named, merger_change}
use Rattle.land_acts.specs.Mutations.Mortgaging.{mortgage_change}
use Rattle.land_acts.specs.Mutations.Numbering.{with_numbers_from}
use Rattle.land_acts.specs.Mutations.Planning.{first_refusal_of}
use Rattle.land_acts.specs.Mutations.Subdividing.{all_parts, has_parcel_in, origin_of, outlines_of, subdivision_change}
use Rattle.land_acts.specs.Mutations.Transferring.{right_at}
use Rattle.land_acts.specs.Outcome.{change_of, refusals_of}
use Rattle.land_acts.specs.RegisterAreas.{ApprovedRegistersKeepTheirArea, HaveReplaced, OnlyRegistrationsAddArea, total_doubled_area, area_registered, requested_outlines, parcels_replaced}
use Rattle.land_acts.specs.Registering.{new_parcel_record}
use Rattle.land_acts.specs.declared.mutations.refusal.Refusal.TheVariants.{NotLodged}
use Rattle.land_acts.specs.declared.mutations.transfer.HeldRight.{HeldRight}
use Rattle.land_core.proofs.SoundRegisters.{are_used, refers, used_bounds, used_from}
use Rattle.land_core.specs.Changes.{after, no_change}
use Rattle.land_core.specs.Contents.{is_well_formed_content}
use Rattle.land_core.specs.Entries.{has}
use Rattle.land_core.specs.Soundness.{IsSound}
use Rattle.land_core.specs.declared.act.Act.{Act}
use Rattle.land_core.specs.declared.act.Act.TheVariants as act
use Rattle.land_core.specs.declared.act.NewParcel.{NewParcel}
use Rattle.land_core.specs.declared.act.NewUnit.{NewUnit}
use Rattle.land_core.specs.declared.caller.Caller.{Caller}
use Rattle.land_core.specs.declared.change.Change.{Change}
use Rattle.land_core.specs.declared.change.Ended.{Ended}
use Rattle.land_core.specs.declared.change.Put.{Put}
use Rattle.land_core.specs.declared.content.Content.{Content}
use Rattle.land_core.specs.declared.content.Content.TheVariants as content
use Rattle.land_core.specs.declared.merger.Merger.{Merger}
use Rattle.land_core.specs.declared.mutation.MutationRecord.{MutationRecord}
use Rattle.land_core.specs.declared.mutation.MutationState.TheVariants.{Approved, Refused}
use Rattle.land_core.specs.declared.parcel.ParcelRecord.{ParcelRecord}
use Rattle.land_core.specs.declared.register.Register.{Register}
use Rattle.land_core.specs.declared.soundness.Unsound.TheVariants.{Reference}
use Rattle.land_core.specs.declared.subdivision.Subdivision.{Subdivision}
use Rattle.land_shape.specs.Matching.{Match}
use Rattle.land_shape.specs.Outline.{doubled_area}
use Rattle.land_shape.specs.Place.{Place}

nothing_more : (n : ℕ) → n ≡ n + 0
nothing_more n = omega arith

-- an empty list of outlines has the ground of an empty list
none_match : Match [] []
unfolding Match
none_match e = refl

-- a key with a condition on its value exists
stands_where : (test : ParcelRecord → Bool) (o : Option ParcelRecord) → option_map_or test o false ≡ true → is_some o ≡ true
stands_where test None passes = absurd (false≢true passes)
stands_where test (Some p) passes = refl

-- ---- consecutively numbered parcels

numbers_above : (next first : ℕ) → next ≤ first → (ps : List ParcelRecord) → AllByRecursion (λ e. next ≤ e.0) (with_numbers_from first ps)
numbers_above next first le [] = tt
numbers_above next first le (p ∷ ps) = (le, numbers_above next (first + 1) (omega (arith, le)) ps)

-- registered parcels have the area of their outlines
area_numbered : (unit source first : ℕ) (ps : List NewParcel) → area_in (with_numbers_from first (map_list (new_parcel_record unit source) ps)) ≡ doubled_areas (map_list (λ p. p.outline) ps)
area_numbered unit source first [] = refl
area_numbered unit source first (p ∷ ps) = ap (λ n. doubled_area p.outline + n) (area_numbered unit source (first + 1) ps)

module _ (r : Register) (sound : IsSound r) where
  below : (n : ℕ) (p : ParcelRecord) → map.get r.parcels n ≡ Some p → n < r.next
  below n p is = (used_bounds r n (used_from r r.parcels (are_used r (refers r (sound Reference)).numbers).parcels n p is)).1

  -- ---- the effect of an approval

  -- new parcels with the area of those that end have replaced them
  taken_place : (change : Change) (outlines : List (List Place)) → IsReplacement r.parcels r.next change.put.parcels change.ended.parcels → new_outlines change ≡ outlines
      → doubled_areas (outlines_at r change.ended.parcels) ≡ doubled_areas outlines → Match (outlines_at r change.ended.parcels) outlines
      → HaveReplaced r change.ended.parcels outlines change
  taken_place change outlines replacement outlined same ground =
      record {
        area = cancel (total_doubled_area (after change r)) (total_doubled_area r) (doubled_areas (outlines_at r change.ended.parcels)) (area_in change.put.parcels) (same ∙ sym (ap doubled_areas outlined))
            (area_changes r.parcels r.next change.put.parcels change.ended.parcels replacement);
        gone = λ n listed. (replacement.stood n listed, ended_gone r.parcels r.next change.put.parcels change.ended.parcels replacement n listed);
        outlined = outlined;
        ground = ground;
        stand = new_stand r.parcels r.next change.put.parcels change.ended.parcels replacement;
        others = others_stay r.parcels r.next change.put.parcels change.ended.parcels replacement;
      }
    where
      cancel : (then before old new : ℕ) → old ≡ new → then + old ≡ before + new → then ≡ before
      cancel then before old new same is = omega (arith, same, is)

  -- no parcel is written, and none ends
  none_replaced : IsReplacement r.parcels r.next [] []
  none_replaced = record { once = refl; above = tt; below = below; stood = λ n listed. absurd (false≢true listed) }

  -- so a change of other objects leaves the parcels unchanged
  none_taken : (put : Put) (ended : Ended) (next : ℕ) → HaveReplaced r [] [] (record { put = record put { parcels = [] }; ended = record ended { parcels = [] }; next = next })
  none_taken put ended next = taken_place (record { put = record put { parcels = [] }; ended = record ended { parcels = [] }; next = next }) [] none_replaced refl refl none_match

  -- the parts of a subdivision, and the parcel that ends
  cut : (source : ℕ) (it : Subdivision) → has_parcel_in r it.unit it.parcel ≡ true → IsReplacement r.parcels r.next (subdivision_change r source it).put.parcels (it.parcel ∷ [])
  cut source it here = record {
    once = (subdivision_names_once r source it sound here).parcels;
    above = parcels_above r source it;
    below = below;
    stood = λ n listed. stood n (nat_eq it.parcel n) refl listed;
  }
    where
      stood : (n : ℕ) (b : Bool) → nat_eq it.parcel n ≡ b → (b || false) ≡ true → has r.parcels n ≡ true
      stood n true same listed =
          subst (λ (k : ℕ). has r.parcels k ≡ true) (eqb-true it.parcel n same) (stands_where (λ p. nat_eq p.unit it.unit) (map.get r.parcels it.parcel) here)
      stood n false other listed = absurd (false≢true listed)

  -- the parcel of a merger, and those that end
  joined : (source : ℕ) (it : Merger) (stamp : Option ℤ) → is_well_formed_content (content.Merger it) ≡ true → first_refusal_of (content_refusals r (content.Merger it) stamp) ≡ None
      → IsReplacement r.parcels r.next (merger_change r source it).put.parcels it.parcels
  joined source it stamp formed none =
      let free = unrefused_merger r it stamp none in
      record {
        once = (merger_names_once r source it sound formed free.parcels).parcels;
        above = (omega arith, tt);
        below = below;
        stood = λ n listed. stands_where (λ p. is_unit_of_merger it p.unit) (map.get r.parcels n) (not-false _ (listed_fails (λ n. not (is_parcel_named r it n)) it.parcels n free.parcels listed));
      }

  -- approvals, by their content
  content_taken : (number : ℕ) (m : MutationRecord) (c : Content) (stamp : ℤ) → is_well_formed_content c ≡ true → first_refusal_of (content_refusals r c (Some stamp)) ≡ None
      → HaveReplaced r (parcels_replaced c) (requested_outlines c) (with_state Approved number m (content_change r m.source c))
  content_taken number m (content.Transfer it) stamp formed none = by_right (right_at r it.unit it.right)
    where
      by_right : (o : Option HeldRight) → HaveReplaced r [] [] (with_state Approved number m (transfer_change r m.source it o))
      by_right None =
          let change = with_state Approved number m (transfer_change r m.source it None) in
          none_taken change.put change.ended change.next
      by_right (Some from) =
          let change = with_state Approved number m (transfer_change r m.source it (Some from)) in
          none_taken change.put change.ended change.next
  content_taken number m (content.Subdivision it) stamp formed none =
      let free = unrefused_subdivision r it (Some stamp) none in
      let old = outlines_at r (it.parcel ∷ []) in
      let new = outlines_of (all_parts it) in
      taken_place (with_state Approved number m (subdivision_change r m.source it)) new (cut m.source it free.parcel)
      (outlines_made (origin_of r m.source it) r.next (all_parts it)) (same_area old new free.ground) (same_match old new free.ground)
  content_taken number m (content.Merger it) stamp formed none =
      let same = (unrefused_merger r it (Some stamp) none).ground in
      let old = outlines_at r it.parcels in
      let new = it.outline ∷ [] in
      taken_place (with_state Approved number m (merger_change r m.source it)) new (joined m.source it (Some stamp) formed none) refl (same_area old new same) (same_match old new same)
  content_taken number m (content.Mortgage it) stamp formed none =
      let change = with_state Approved number m (mortgage_change r m.source it) in
      none_taken change.put change.ended change.next
  content_taken number m (content.Discharge it) stamp formed none =
      let change = with_state Approved number m (discharge_change r it) in
      none_taken change.put change.ended change.next

  -- ---- the effect of any act

  -- a registration adds the areas of its parcels, and ends none
  registered : (it : NewUnit) (caller : Caller) (stamp : ℤ) → total_doubled_area (after (change_of r caller (act.Register it) stamp) r) ≡ total_doubled_area r + area_registered (act.Register it)
  registered it caller stamp =
      let new = with_numbers_from (r.next + 2) (map_list (new_parcel_record (r.next + 1) r.next) it.parcels) in
      nothing_more (total_doubled_area (after (change_of r caller (act.Register it) stamp) r))
      ∙ area_changes r.parcels r.next new [] (record {
        once = numbered_once (r.next + 2) (map_list (new_parcel_record (r.next + 1) r.next) it.parcels);
        above = numbers_above r.next (r.next + 2) (omega arith) (map_list (new_parcel_record (r.next + 1) r.next) it.parcels);
        below = below;
        stood = λ n listed. absurd (false≢true listed);
      })
      ∙ ap (λ n. total_doubled_area r + n) (area_numbered (r.next + 1) r.next (r.next + 2) it.parcels)

  adds : (caller : Caller) (a : Act) (stamp : ℤ) → first_refusal_of (refusals_of r caller a (Some stamp)) ≡ None → total_doubled_area (after (change_of r caller a stamp) r) ≡ total_doubled_area r + area_registered a
  adds caller (act.Enrol it) stamp none = nothing_more (total_doubled_area r)
  adds caller (act.Group it) stamp none = nothing_more (total_doubled_area r)
  adds caller (act.Regroup it) stamp none = nothing_more (total_doubled_area r)
  adds caller (act.Grant it) stamp none = nothing_more (total_doubled_area r)
  adds caller (act.Revoke it) stamp none = nothing_more (total_doubled_area r)
  adds caller (act.Mandate it) stamp none = nothing_more (total_doubled_area r)
  adds caller (act.Withdraw it) stamp none = nothing_more (total_doubled_area r)
  adds caller (act.Register it) stamp none = registered it caller stamp
  adds caller (act.Burden it) stamp none = nothing_more (total_doubled_area r)
  adds caller (act.Lift it) stamp none = nothing_more (total_doubled_area r)
  adds caller (act.Lodge it) stamp none = nothing_more (total_doubled_area r)
  adds caller (act.Approve it) stamp none =
      found (map.get r.mutations it.mutation) refl
      (first_none NotLodged (not (is_lodged r it.mutation)) (option_map_or (λ m. content_refusals r m.content (Some stamp)) (map.get r.mutations it.mutation) []) none).rest
    where
      found : (o : Option MutationRecord) → map.get r.mutations it.mutation ≡ o → first_refusal_of (option_map_or (λ m. content_refusals r m.content (Some stamp)) o []) ≡ None
          → total_doubled_area (after (option_map_or (λ m. with_state Approved it.mutation m (content_change r m.source m.content)) o (no_change r.next)) r) ≡ total_doubled_area r + 0
      found None e h = nothing_more (total_doubled_area r)
      found (Some m) e h = (content_taken it.mutation m m.content stamp (tight_mutation r sound it.mutation m e).formed h).area ∙ nothing_more (total_doubled_area r)
  adds caller (act.Refuse it) stamp none = found (map.get r.mutations it.mutation)
    where
      found : (o : Option MutationRecord)
          → total_doubled_area (after (option_map_or (λ m. with_state Refused it.mutation m (no_change r.next)) o (no_change r.next)) r) ≡ total_doubled_area r + 0
      found None = nothing_more (total_doubled_area r)
      found (Some m) = nothing_more (total_doubled_area r)

-- ---- the laws

pub approved_registers_keep_their_area : ApprovedRegistersKeepTheirArea
approved_registers_keep_their_area r caller decision m stamp change done sound there outcome =
    let approval = approval_plan r caller decision m m.content stamp change done there refl outcome in
    subst (λ (made : Change). HaveReplaced r (parcels_replaced m.content) (requested_outlines m.content) made) approval.same
    (content_taken r sound decision.mutation m m.content stamp (tight_mutation r sound decision.mutation m there).formed approval.unrefused)

pub only_registrations_add_area : OnlyRegistrationsAddArea
only_registrations_add_area r change stamp sound h =
    let plan = plan_of r h.caller h.act stamp change h.done h.outcome in
    subst (λ (made : Change). total_doubled_area (after made r) ≡ total_doubled_area r + area_registered h.act) plan.same (adds r sound h.caller h.act stamp plan.none_holds)
