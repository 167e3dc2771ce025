-- If no refusal applies to a subdivision, the parcels that it writes cover the ground of the one that ends,
-- and have its area.
use Rattle.std.proofs.Common.{◌≡◌, ℕ, ◌+◌, true, false, ◌||◌, not, Some, None, Option, List, [], ◌∷◌, ◌++◌, length, refl, sym, ap, ◌∙◌, arith, subst}
use Rattle.std.specs.Prelude.{ℤ, is_none, map as map_list}
use Rattle.std.specs.List.{cons_option}
use Rattle.std.specs.Option.{option_map_or}
use Rattle.std.specs.FinMap as map
use Rattle.std.proofs.lemmas.Bool.{not-false, or_parts}
use Rattle.land_acts.proofs.Refusals.{none_hold}
use Rattle.land_acts.proofs.SameGround.{same_area, same_match}
use Rattle.land_acts.specs.Mutations.Areas.{doubled_areas, outlines_at}
use Rattle.land_acts.specs.Mutations.ByContent.{content_refusals}
use Rattle.land_acts.specs.Mutations.Grounds.{are_same_ground}
use Rattle.land_acts.specs.Mutations.Planning.{first_refusal_of, runs_out_of_numbers}
use Rattle.land_acts.specs.Mutations.Subdividing.{Origin, all_parts, has_parcel_in, numbers_for, origin_of, outlines_of, parcel_made, parcels_made, subdivision_change, subdivision_count, would_have_many_parcels}
use Rattle.land_acts.specs.declared.mutations.refusal.Refusal.TheVariants.{NoSuchUnit, NoSuchParcel, TooMany, ClockOut, NotMatched}
use Rattle.land_core.specs.Entries.{has}
use Rattle.land_core.specs.declared.content.Content.TheVariants as content
use Rattle.land_core.specs.declared.parcel.ParcelRecord.{ParcelRecord}
use Rattle.land_core.specs.declared.register.Register.{Register}
use Rattle.land_core.specs.declared.subdivision.Part.{Part}
use Rattle.land_core.specs.declared.subdivision.Subdivision.{Subdivision}
use Rattle.land_shape.specs.Matching.{Match}
use Rattle.land_shape.specs.Outline.{doubled_area}
use Rattle.land_shape.specs.Place.{Place}

-- the conditions if no refusal applies to a subdivision
pub record IsUnrefusedSubdivision (r : Register) (it : Subdivision) : Type 0 where
  pub unit : has r.units it.unit ≡ true
  pub parcel : has_parcel_in r it.unit it.parcel ≡ true
  pub room : runs_out_of_numbers r (subdivision_count r it) ≡ false
  pub few : would_have_many_parcels r it ≡ false
  pub ground : are_same_ground (outlines_at r (it.parcel ∷ [])) (outlines_of (all_parts it)) ≡ true

pub unrefused_subdivision : (r : Register) (it : Subdivision) (stamp : Option ℤ) → first_refusal_of (content_refusals r (content.Subdivision it) stamp) ≡ None → IsUnrefusedSubdivision r it
unrefused_subdivision r it stamp none =
    let same = are_same_ground (outlines_at r (it.parcel ∷ [])) (outlines_of (all_parts it)) in
    let many = runs_out_of_numbers r (subdivision_count r it) || would_have_many_parcels r it in
    let fails = none_hold ((NoSuchUnit, not (has r.units it.unit)) ∷ (NoSuchParcel, not (has_parcel_in r it.unit it.parcel)) ∷ (TooMany, many) ∷ (ClockOut, is_none stamp) ∷ (NotMatched, not same) ∷ []) none in
    let unit = fails.0 in
    let parcel = fails.1.0 in
    let number = fails.1.1.0 in
    let ground = fails.1.1.1.1.0 in
    let room = or_parts (runs_out_of_numbers r (subdivision_count r it)) (would_have_many_parcels r it) number in
    record { unit = not-false _ unit; parcel = not-false _ parcel; room = room.0; few = room.1; ground = not-false _ ground }

-- the written parcels have the outlines of the parts
pub outlines_made : (origin : Origin) (first : ℕ) (parts : List Part) → map_list (λ e. e.1.outline) (parcels_made origin first parts) ≡ outlines_of parts
outlines_made origin first [] = refl
outlines_made origin first (part ∷ parts) = by_unit (λ n. outlines_made origin n parts) part.unit
  where
    by_unit : ((n : ℕ) → map_list (λ (e : ℕ × ParcelRecord). e.1.outline) (parcels_made origin n parts) ≡ outlines_of parts) → (o : Option (List ℕ))
        → map_list (λ (e : ℕ × ParcelRecord). e.1.outline) (parcel_made origin first part o ++ parcels_made origin (first + numbers_for origin o) parts) ≡ outlines_of (part ∷ parts)
    by_unit rest None = ap (λ it. part.outline ∷ it) (rest (first + 1))
    by_unit rest (Some name) = ap (λ it. part.outline ∷ it) (rest (first + (2 + length origin.entries)))

-- if no refusal applies, the written parcels cover the ground of the one that ends, and have its total area
module _ (r : Register) (source : ℕ) (it : Subdivision) (stamp : Option ℤ) (none : first_refusal_of (content_refusals r (content.Subdivision it) stamp) ≡ None)
    (p : ParcelRecord) (is : map.get r.parcels it.parcel ≡ Some p) where
  put : map_list (λ e. e.1.outline) (subdivision_change r source it).put.parcels ≡ outlines_of (all_parts it)
  put = outlines_made (origin_of r source it) r.next (all_parts it)

  standing : outlines_at r (it.parcel ∷ []) ≡ p.outline ∷ []
  standing = ap (λ o. cons_option (option_map_or (λ (p : ParcelRecord). Some p.outline) o None) []) is

  same : are_same_ground (p.outline ∷ []) (outlines_of (all_parts it)) ≡ true
  same = sym (ap (λ old. are_same_ground old (outlines_of (all_parts it))) standing) ∙ (unrefused_subdivision r it stamp none).ground

  pub subdivision_keeps_ground : Match (p.outline ∷ []) (map_list (λ e. e.1.outline) (subdivision_change r source it).put.parcels)
  subdivision_keeps_ground = subst (λ (new : List (List Place)). Match (p.outline ∷ []) new) (sym put) (same_match (p.outline ∷ []) (outlines_of (all_parts it)) same)

  pub subdivision_keeps_area : doubled_areas (map_list (λ e. e.1.outline) (subdivision_change r source it).put.parcels) ≡ doubled_area p.outline
  subdivision_keeps_area =
      ap doubled_areas put
      ∙ sym (same_area (p.outline ∷ []) (outlines_of (all_parts it)) same)
      ∙ alone (doubled_area p.outline)
    where
      alone : (n : ℕ) → n + 0 ≡ n
      alone n = omega arith
