-- If no refusal applies to a merger, it preserves ground and area, and its change has each key once.
use Rattle.std.proofs.Common.{◌≡◌, ◌+◌, ◌<◌, ◌≤◌, ℕ, Bool, true, false, cond, ◌&&◌, ◌||◌, not, Option, Some, None, List, [], ◌∷◌, refl, sym, ap, ◌∙◌, arith}
use Rattle.std.specs.Prelude.{ℤ, filter, is_none, nat_eq, nat_lt, map as map_list}
use Rattle.std.specs.List.{list_all, list_any}
use Rattle.std.specs.Option.{option_map_or}
use Rattle.std.specs.FinMap as map
use Rattle.std.specs.FinMap.{is_sorted}
use Rattle.std.specs.FinMap.Entries.{below_all}
use Rattle.std.specs.Ordering.{is_lt, nat_cmp}
use Rattle.std.proofs.lemmas.Bool.{false≢true, ltb-true, and_parts, not-false, or_parts}
use Rattle.std.proofs.lemmas.Bool.Decides.{nat_tests}
use Rattle.land_acts.proofs.MergedParcels.{merger_limits}
use Rattle.land_acts.proofs.Numbers.{tied_number}
use Rattle.land_acts.proofs.Refusals.{none_hold}
use Rattle.land_acts.proofs.SameGround.{same_area, same_match}
use Rattle.land_acts.specs.Mutations.Areas.{doubled_areas, outlines_at}
use Rattle.land_acts.specs.Mutations.ByContent.{content_refusals}
use Rattle.land_acts.specs.Mutations.Grounds.{are_same_ground}
use Rattle.land_acts.specs.Mutations.Merging.{has_unlike, is_unit_of_merger, is_parcel_named, lacks_parcel, lacks_unit, merger_change, would_have_more_parcels}
use Rattle.land_acts.specs.Mutations.Planning.{first_refusal_of, runs_out_of_numbers}
use Rattle.land_acts.specs.declared.mutations.refusal.Refusal.TheVariants.{NoSuchUnit, NoSuchParcel, UnitsUnlike, TooMany, ClockOut, NotMatched}
use Rattle.land_core.proofs.Booleans.{T_true}
use Rattle.land_core.proofs.Orders.{less_apart}
use Rattle.land_core.proofs.SoundRegisters.{are_used, refers, used_bounds, used_from}
use Rattle.land_core.specs.Changes.{NamesKeysOnce}
use Rattle.land_core.specs.Contents.{is_well_formed_content}
use Rattle.land_core.specs.Entries.{are_distinct}
use Rattle.land_core.specs.Mergers.{are_ascending_numbers, lists_number, all_above}
use Rattle.land_core.specs.Numbers.{is_number}
use Rattle.land_core.specs.Soundness.{IsSound}
use Rattle.land_core.specs.declared.content.Content.TheVariants as content
use Rattle.land_core.specs.declared.merger.Merger.{Merger}
use Rattle.land_core.specs.declared.parcel.ParcelRecord.{ParcelRecord}
use Rattle.land_core.specs.declared.register.Register.{Register}
use Rattle.land_core.specs.declared.soundness.Unsound.TheVariants.{Reference}
use Rattle.land_shape.specs.Matching.{Match}
use Rattle.land_shape.specs.Outline.{doubled_area}

-- ---- if no refusal applies to a merger

pub record IsUnrefusedMerger (r : Register) (it : Merger) : Type 0 where
  pub units : lacks_unit r it ≡ false
  pub parcels : lacks_parcel r it ≡ false
  pub alike : has_unlike r it ≡ false
  pub room : runs_out_of_numbers r 1 ≡ false
  pub few : would_have_more_parcels r it ≡ false
  pub ground : are_same_ground (outlines_at r it.parcels) (it.outline ∷ []) ≡ true

pub unrefused_merger : (r : Register) (it : Merger) (stamp : Option ℤ) → first_refusal_of (content_refusals r (content.Merger it) stamp) ≡ None → IsUnrefusedMerger r it
unrefused_merger r it stamp none =
    let same = are_same_ground (outlines_at r it.parcels) (it.outline ∷ []) in
    let crowded = runs_out_of_numbers r 1 || would_have_more_parcels r it in
    let fails = none_hold ((NoSuchUnit, lacks_unit r it) ∷ (NoSuchParcel, lacks_parcel r it) ∷ (UnitsUnlike, has_unlike r it) ∷ (TooMany, crowded) ∷ (ClockOut, is_none stamp) ∷ (NotMatched, not same) ∷ []) none in
    let unit = fails.0 in
    let parcel = fails.1.0 in
    let unlike = fails.1.1.0 in
    let number = fails.1.1.1.0 in
    let ground = fails.1.1.1.1.1.0 in
    let many = or_parts (runs_out_of_numbers r 1) (would_have_more_parcels r it) number in
    record { units = unit; parcels = parcel; alike = unlike; room = many.0; few = many.1; ground = not-false _ ground }

-- the new parcel covers the ground of those that it replaces, and has their total area
pub merged_ground : (r : Register) (it : Merger) (stamp : Option ℤ) → first_refusal_of (content_refusals r (content.Merger it) stamp) ≡ None → Match (outlines_at r it.parcels) (it.outline ∷ [])
merged_ground r it stamp none = same_match (outlines_at r it.parcels) (it.outline ∷ []) (unrefused_merger r it stamp none).ground

pub merged_area : (r : Register) (it : Merger) (stamp : Option ℤ) → first_refusal_of (content_refusals r (content.Merger it) stamp) ≡ None → doubled_area it.outline ≡ doubled_areas (outlines_at r it.parcels)
merged_area r it stamp none =
    let same = same_area (outlines_at r it.parcels) (it.outline ∷ []) (unrefused_merger r it stamp none).ground in
    alone (doubled_area it.outline) (doubled_areas (outlines_at r it.parcels)) same
  where
    alone : (new old : ℕ) → old ≡ new + 0 → new ≡ old
    alone new old e = omega (arith, e)

-- ---- its keys

-- ascending numbers are above their lower bound, and distinct
none_rising : (k last : ℕ) → k ≤ last → (ns : List ℕ) → all_above last ns ≡ true → list_any (nat_eq k) ns ≡ false
none_rising k last le [] h = refl
none_rising k last le (n ∷ ns) h =
    let parts = and_parts (nat_lt last n) (all_above n ns) h in
    let less : last < n = ltb-true last n parts.0 in
    let apart : nat_eq k n ≡ false = grind (arith, nat_tests) in
    ap (λ b. b || list_any (nat_eq k) ns) apart ∙ none_rising k n (omega (arith, le, less)) ns parts.1

rising_once : (last : ℕ) (ns : List ℕ) → all_above last ns ≡ true → are_distinct nat_eq ns ≡ true
rising_once last [] h = refl
rising_once last (n ∷ ns) h =
    let parts = and_parts (nat_lt last n) (all_above n ns) h in
    ap (λ b. not b && are_distinct nat_eq ns) (none_rising n n (omega arith) ns parts.1) ∙ rising_once n ns parts.1

pub numbers_once : (ns : List ℕ) → are_ascending_numbers ns ≡ true → are_distinct nat_eq ns ≡ true
numbers_once ns h = rising_once 0 ns (and_parts (all_above 0 ns) (list_all is_number ns) h).0

-- the numbers of some entries of a map are distinct
module _ {V : Type 0} (p : ℕ × V → Bool) where
  none_below : (k : ℕ) (es : List (ℕ × V)) → below_all nat_cmp k es ≡ true → list_any (nat_eq k) (map_list (λ e. e.0) (filter p es)) ≡ false
  none_below k [] h = refl
  none_below k (e ∷ es) h =
      let parts = and_parts (is_lt (nat_cmp k e.0)) (below_all nat_cmp k es) h in
      let rest = none_below k es parts.1 in
      elim (p e) as (λ b. list_any (nat_eq k) (map_list (λ e. e.0) (cond b (e ∷ filter p es) (filter p es))) ≡ false) [
        | true ↦ ap (λ b. b || list_any (nat_eq k) (map_list (λ e. e.0) (filter p es))) (sym (tied_number k e.0) ∙ less_apart (nat_cmp k e.0) parts.0) ∙ rest
        | false ↦ rest
      ]

  entries_once : (es : List (ℕ × V)) → is_sorted nat_cmp es ≡ true → are_distinct nat_eq (map_list (λ e. e.0) (filter p es)) ≡ true
  entries_once [] h = refl
  entries_once (e ∷ es) h =
      let parts = and_parts (below_all nat_cmp e.0 es) (is_sorted nat_cmp es) h in
      let rest = entries_once es parts.1 in
      elim (p e) as (λ b. are_distinct nat_eq (map_list (λ e. e.0) (cond b (e ∷ filter p es) (filter p es))) ≡ true) [
        | true ↦ ap (λ b. not b && are_distinct nat_eq (map_list (λ e. e.0) (filter p es))) (none_below e.0 es parts.0) ∙ rest
        | false ↦ rest
      ]

module _ (r : Register) (source : ℕ) (it : Merger) (sound : IsSound r) where
  -- a used number is below the next one
  parcel_below : (n : ℕ) → is_parcel_named r it n ≡ true → nat_eq r.next n ≡ false
  parcel_below n named = found (map.get r.parcels n) refl named
    where
      apart : (next : ℕ) → n < next → nat_eq next n ≡ false
      apart next less = grind (arith, nat_tests)

      found : (o : Option ParcelRecord) → map.get r.parcels n ≡ o → option_map_or (λ p. is_unit_of_merger it p.unit) o false ≡ true → nat_eq r.next n ≡ false
      found None e h = absurd (false≢true h)
      found (Some p) e h = apart r.next (used_bounds r n (used_from r r.parcels (are_used r (refers r (sound Reference)).numbers).parcels n p e)).1

  new_number : (ns : List ℕ) → list_any (λ n. not (is_parcel_named r it n)) ns ≡ false → list_any (nat_eq r.next) ns ≡ false
  new_number [] h = refl
  new_number (n ∷ ns) h =
      let parts = or_parts (not (is_parcel_named r it n)) (list_any (λ n. not (is_parcel_named r it n)) ns) h in
      ap (λ b. b || list_any (nat_eq r.next) ns) (parcel_below n (not-false _ parts.0)) ∙ new_number ns parts.1

  pub merger_names_once : is_well_formed_content (content.Merger it) ≡ true → lacks_parcel r it ≡ false → NamesKeysOnce (merger_change r source it)
  merger_names_once formed parcels =
      let limits = merger_limits it formed in
      record {
        parties = refl;
        roles = refl;
        members = refl;
        units = numbers_once it.others limits.others;
        parcels = ap (λ b. not b && are_distinct nat_eq it.parcels) (new_number it.parcels parcels) ∙ numbers_once it.parcels limits.parcels;
        rrrs = entries_once (λ e. lists_number it.others e.1.unit) (map.entries r.rrrs) (T_true _ (map.entries_sorted r.rrrs));
        sources = refl;
        mutations = refl;
        mandates = refl;
      }
