-- Units over time: the share sums of checked units, and the limits of all.
use Rattle.std.proofs.Common.{◌≡◌, ◌↔◌, ℕ, Bool, true, false, cond, not, ◌&&◌, ◌||◌, List, [], ◌∷◌, ◌++◌, length, None, filter, refl, ap, ap₂, ◌∙◌, IsPermutation}
use Rattle.std.specs.Prelude.{ℤ, nat_eq, nat_lt}
use Rattle.std.proofs.lemmas.List.Elements.{filter-append, filter_map-append}
use Rattle.std.proofs.lemmas.List.Folds.{list_any-append}
use Rattle.std.specs.FinMap as map
use Rattle.std.specs.List.{filter_map, list_any}
use Rattle.land_core.proofs.Pairs.{list_any_same}
use Rattle.land_core.proofs.UnitLists.{filter_map-items_of_unit, filter_map_same, length-items_of_unit, list_any-items_of_unit}
use Rattle.land_core.specs.ByUnit.{items_of_unit}
use Rattle.land_core.specs.Soundness.{has_crowded_unit, has_unit_without_whole_shares}
use Rattle.land_core.specs.Units.{are_whole_or_none, has_whole_shares, parcel_count, rrr_count, share_in_unit, share_of, type_shares}
use Rattle.land_core.specs.declared.parcel.ParcelRecord.{ParcelRecord}
use Rattle.land_core.specs.declared.register.Register.{Register}
use Rattle.land_core.specs.declared.rrr.Class.{Class}
use Rattle.land_core.specs.declared.rrr.Class.TheVariants.{Right, Restriction, Responsibility, Mortgage}
use Rattle.land_core.specs.declared.rrr.RightType.{RightType}
use Rattle.land_core.specs.declared.rrr.RightType.TheVariants.{Ownership, Lease, Usufruct}
use Rattle.land_core.specs.declared.rrr.RrrRecord.{RrrRecord}
use Rattle.land_core.specs.declared.unit.UnitRecord.{UnitRecord}
use Rattle.land_tables_history.proofs.Distinct.{distinct_standing}
use Rattle.land_tables_history.proofs.Entered.{made_part}
use Rattle.land_tables_history.proofs.Proper.{AllProper, all_proper}
use Rattle.land_tables_history.specs.History.{register_of_history}
use Rattle.land_tables_history.specs.Intervals.{has_intervals, is_same_number}
use Rattle.land_tables_history.specs.Standing.{part_at, current_values}
use Rattle.land_tables_history.specs.declared.history.History.{History}
use Rattle.land_tables_history.specs.declared.moment.Moment.{Moment}
use Rattle.land_tables_validity.specs.AnyOrder.{count_permuted, filter_map_permuted, whole_permuted}
use Rattle.land_tables_validity.specs.Holdings.{are_few, are_shares_whole, is_unit_sound, class_holding, entry_spans, entry_holding, holdings_in, is_checked_unit, is_entry, is_parcel_holding, is_unit_holding, parcel_holding, parcel_spans, holding_share, holding_shares, unit_holding, unit_spans}
use Rattle.land_tables_validity.specs.LiveSpan.{if_any_marked}
use Rattle.land_tables_validity.specs.Never.{Never}
use Rattle.land_tables_validity.specs.CoverageSpans.{are_in_range}
use Rattle.land_tables_validity.specs.declared.share_sums.Holding.{Holding}
use Rattle.land_tables_validity.specs.declared.share_sums.Holding.TheVariants as held
use Rattle.land_tables_validity.proofs.Together.{AreLives, Ties, all_live, all_counted, both_sound, is_at_fault, is_marked, lives-append, never, none_counted, none_marked, none_taken, some_standing, values_under_key-append, stood}
use Rattle.land_tables_history.specs.Sweeps.Sweep.{AreSound, values_under_key}

-- ---- entries

no_unit : (c : Class) → is_unit_holding (class_holding c) ≡ false
no_unit (Right Ownership share) = refl
no_unit (Right Lease share) = refl
no_unit (Right Usufruct share) = refl
no_unit (Restriction words) = refl
no_unit (Responsibility words) = refl
no_unit (Mortgage amount currency rank) = refl

not_checked : (c : Class) → is_checked_unit (class_holding c) ≡ false
not_checked (Right Ownership share) = refl
not_checked (Right Lease share) = refl
not_checked (Right Usufruct share) = refl
not_checked (Restriction words) = refl
not_checked (Responsibility words) = refl
not_checked (Mortgage amount currency rank) = refl

no_parcel : (c : Class) → is_parcel_holding (class_holding c) ≡ false
no_parcel (Right Ownership share) = refl
no_parcel (Right Lease share) = refl
no_parcel (Right Usufruct share) = refl
no_parcel (Restriction words) = refl
no_parcel (Responsibility words) = refl
no_parcel (Mortgage amount currency rank) = refl

an_entry : (c : Class) → is_entry (class_holding c) ≡ true
an_entry (Right Ownership share) = refl
an_entry (Right Lease share) = refl
an_entry (Right Usufruct share) = refl
an_entry (Restriction words) = refl
an_entry (Responsibility words) = refl
an_entry (Mortgage amount currency rank) = refl

no_share_of_unit : (type : RightType) (e : ℕ × UnitRecord) → holding_share type (unit_holding e) ≡ None
no_share_of_unit Ownership e = refl
no_share_of_unit Lease e = refl
no_share_of_unit Usufruct e = refl

no_share_of_parcel : (type : RightType) (e : ℕ × ParcelRecord) → holding_share type (parcel_holding e) ≡ None
no_share_of_parcel Ownership e = refl
no_share_of_parcel Lease e = refl
no_share_of_parcel Usufruct e = refl

no_other_share : (type : RightType) → holding_share type held.Other ≡ None
no_other_share Ownership = refl
no_other_share Lease = refl
no_other_share Usufruct = refl

same_share : (type : RightType) (c : Class) → holding_share type (class_holding c) ≡ share_of type c
same_share Ownership (Right Ownership share) = refl
same_share Ownership (Right Lease share) = refl
same_share Ownership (Right Usufruct share) = refl
same_share Lease (Right Ownership share) = refl
same_share Lease (Right Lease share) = refl
same_share Lease (Right Usufruct share) = refl
same_share Usufruct (Right Ownership share) = refl
same_share Usufruct (Right Lease share) = refl
same_share Usufruct (Right Usufruct share) = refl
same_share type (Restriction words) = no_other_share type
same_share type (Responsibility words) = no_other_share type
same_share type (Mortgage amount currency rank) = no_other_share type

-- ---- the values of a unit at a moment

or_nothing : (b : Bool) → ((b || false) || false) ≡ b
or_nothing true = refl
or_nothing false = refl

and_nothing : (xs : List Holding) → ([] ++ xs) ++ [] ≡ xs
and_nothing [] = refl
and_nothing (x ∷ xs) = ap (λ l. x ∷ l) (and_nothing xs)

module _ (h : History) (n : ℕ) (t : ℤ) where
  -- the current records, and their values in the unit
  abbrev units : List (ℕ × UnitRecord)
  units = current_values t h.units

  abbrev parcels : List (ℕ × ParcelRecord)
  parcels = current_values t h.parcels

  abbrev entries : List (ℕ × RrrRecord)
  entries = current_values t h.rrrs

  abbrev units_there : List Holding
  units_there = items_of_unit (λ e. e.0) unit_holding n units

  abbrev parcels_there : List Holding
  parcels_there = items_of_unit (λ e. e.1.unit) parcel_holding n parcels

  abbrev entries_there : List Holding
  entries_there = items_of_unit (λ e. e.1.unit) entry_holding n entries

  three_parts : values_under_key (holdings_in h) n t ≡ (units_there ++ parcels_there) ++ entries_there
  three_parts =
      values_under_key-append (unit_spans h.units ++ parcel_spans h.parcels) (entry_spans h.rrrs) n t
      ∙ ap (λ a. a ++ values_under_key (entry_spans h.rrrs) n t) (values_under_key-append (unit_spans h.units) (parcel_spans h.parcels) n t)
      ∙ ap₂ (λ a b. (a ++ b) ++ values_under_key (entry_spans h.rrrs) n t) (stood (λ e. e.0) unit_holding n t h.units) (stood (λ e. e.1.unit) parcel_holding n t h.parcels)
      ∙ ap (λ a. (units_there ++ parcels_there) ++ a) (stood (λ e. e.1.unit) entry_holding n t h.rrrs)

  -- only units are marked
  marked_there : (p : Holding → Bool) → p held.Parcel ≡ false → ((e : ℕ × RrrRecord) → p (entry_holding e) ≡ false)
      → list_any p (values_under_key (holdings_in h) n t) ≡ is_marked (λ u. p (held.Unit u.checked)) n units
  marked_there p no_parcels no_entries =
      ap (list_any p) three_parts
      ∙ list_any-append p (units_there ++ parcels_there) entries_there
      ∙ ap (λ a. a || list_any p entries_there) (list_any-append p units_there parcels_there)
      ∙ ap (λ a. (list_any p units_there || a) || list_any p entries_there) (none_marked (λ e. e.1.unit) parcel_holding n p (λ e. no_parcels) parcels)
      ∙ ap (λ a. (list_any p units_there || false) || a) (none_marked (λ e. e.1.unit) entry_holding n p no_entries entries)
      ∙ or_nothing (list_any p units_there)
      ∙ list_any-items_of_unit (λ e. e.0) unit_holding n p units

  -- only entries have shares
  entry_shares : (type : RightType) → holding_shares type entries_there ≡ filter_map (λ e. share_in_unit n type e.1) entries
  entry_shares type =
      filter_map-items_of_unit (λ e. e.1.unit) entry_holding n (holding_share type) entries
      ∙ filter_map_same (λ (e : ℕ × RrrRecord). cond (nat_eq e.1.unit n) (holding_share type (entry_holding e)) None) (λ e. share_in_unit n type e.1)
      (λ e. ap (λ o. cond (nat_eq e.1.unit n) o None) (same_share type e.1.class)) entries

  shares_there : (type : RightType) → holding_shares type (values_under_key (holdings_in h) n t) ≡ filter_map (λ e. share_in_unit n type e.1) entries
  shares_there type =
      ap (holding_shares type) three_parts
      ∙ filter_map-append (holding_share type) (units_there ++ parcels_there) entries_there
      ∙ ap (λ a. a ++ holding_shares type entries_there) (filter_map-append (holding_share type) units_there parcels_there)
      ∙ ap₂ (λ a b. (a ++ b) ++ holding_shares type entries_there) (none_taken (λ e. e.0) unit_holding n (holding_share type) (no_share_of_unit type) units)
      (none_taken (λ e. e.1.unit) parcel_holding n (holding_share type) (no_share_of_parcel type) parcels)
      ∙ entry_shares type

  counted_there : (p : Holding → Bool)
      → filter p (values_under_key (holdings_in h) n t) ≡ (filter p units_there ++ filter p parcels_there) ++ filter p entries_there
  counted_there p =
      ap (filter p) three_parts
      ∙ filter-append p (units_there ++ parcels_there) entries_there
      ∙ ap (λ a. a ++ filter p entries_there) (filter-append p units_there parcels_there)

  no_units_counted : (p : Holding → Bool) → ((e : ℕ × UnitRecord) → p (unit_holding e) ≡ false) → filter p units_there ≡ []
  no_units_counted p none = none_counted (λ e. e.0) unit_holding n p none units

  parcels_counted : length (filter is_parcel_holding (values_under_key (holdings_in h) n t)) ≡ length (filter (λ e. nat_eq e.1.unit n) parcels)
  parcels_counted =
      ap length (counted_there is_parcel_holding
      ∙ ap₂ (λ a b. (a ++ b) ++ filter is_parcel_holding entries_there) (no_units_counted is_parcel_holding (λ e. refl))
      (all_counted (λ e. e.1.unit) parcel_holding n is_parcel_holding (λ e. refl) parcels)
      ∙ ap (λ a. ([] ++ parcels_there) ++ a) (none_counted (λ e. e.1.unit) entry_holding n is_parcel_holding (λ e. no_parcel e.1.class) entries)
      ∙ and_nothing parcels_there)
      ∙ length-items_of_unit (λ e. e.1.unit) parcel_holding n parcels

  entries_counted : length (filter is_entry (values_under_key (holdings_in h) n t)) ≡ length (filter (λ e. nat_eq e.1.unit n) entries)
  entries_counted =
      ap length (counted_there is_entry
      ∙ ap₂ (λ a b. (a ++ b) ++ filter is_entry entries_there) (no_units_counted is_entry (λ e. refl))
      (none_counted (λ e. e.1.unit) parcel_holding n is_entry (λ e. refl) parcels)
      ∙ all_counted (λ e. e.1.unit) entry_holding n is_entry (λ e. an_entry e.1.class) entries)
      ∙ length-items_of_unit (λ e. e.1.unit) entry_holding n entries

-- ---- in the register

abbrev is_uncrowded : Register → ℕ → Bool
is_uncrowded r n = not (nat_lt 256 (parcel_count r n) || nat_lt 256 (rrr_count r n))

twice : (b : Bool) → b ≡ not (not b)
twice true = refl
twice false = refl

module _ (moments : List Moment) (h : History) (p : AllProper moments h) where
  abbrev register_of : Moment → Register
  register_of m = register_of_history m.stamp h m.next

  same_parcels : (t : ℤ) → IsPermutation (current_values t h.parcels) (map.entries (part_at t h.parcels))
  same_parcels t = made_part (current_values t h.parcels) (distinct_standing is_same_number t h.parcels p.parcels.apart)

  same_entries : (t : ℤ) → IsPermutation (current_values t h.rrrs) (map.entries (part_at t h.rrrs))
  same_entries t = made_part (current_values t h.rrrs) (distinct_standing is_same_number t h.rrrs p.rrrs.apart)

  same_shares : (m : Moment) (n : ℕ) (type : RightType)
      → IsPermutation (filter_map (λ e. share_in_unit n type e.1) (current_values m.stamp h.rrrs)) (type_shares (register_of m) n type)
  same_shares m n type =
      filter_map_permuted (λ (e : ℕ × RrrRecord). share_in_unit n type e.1) (current_values m.stamp h.rrrs) (map.entries (part_at m.stamp h.rrrs)) (same_entries m.stamp)

  type_whole : (m : Moment) (n : ℕ) (type : RightType)
      → are_whole_or_none (holding_shares type (values_under_key (holdings_in h) n m.stamp)) ≡ are_whole_or_none (type_shares (register_of m) n type)
  type_whole m n type =
      let there = filter_map (λ (e : ℕ × RrrRecord). share_in_unit n type e.1) (current_values m.stamp h.rrrs) in
      ap are_whole_or_none (shares_there h n m.stamp type)
      ∙ whole_permuted there (type_shares (register_of m) n type) (same_shares m n type)

  parcels_same : (m : Moment) (n : ℕ) → length (filter is_parcel_holding (values_under_key (holdings_in h) n m.stamp)) ≡ parcel_count (register_of m) n
  parcels_same m n =
      parcels_counted h n m.stamp
      ∙ count_permuted (λ e. nat_eq e.1.unit n) (current_values m.stamp h.parcels) (map.entries (part_at m.stamp h.parcels)) (same_parcels m.stamp)

  entries_same : (m : Moment) (n : ℕ) → length (filter is_entry (values_under_key (holdings_in h) n m.stamp)) ≡ rrr_count (register_of m) n
  entries_same m n =
      entries_counted h n m.stamp
      ∙ count_permuted (λ e. nat_eq e.1.unit n) (current_values m.stamp h.rrrs) (map.entries (part_at m.stamp h.rrrs)) (same_entries m.stamp)

  shares_tied : Ties moments h has_unit_without_whole_shares (holdings_in h) is_checked_unit are_shares_whole h.units (λ u. u.checked) has_whole_shares
  shares_tied = record {
    faulty = λ m. some_standing (is_at_fault (λ u. u.checked) (has_whole_shares (register_of m))) m.stamp h.units p.units.apart;
    marked = λ n t. marked_there h n t is_checked_unit refl (λ e. not_checked e.1.class);
    tested = λ m n. ap₂ (λ a b. a && b) (ap₂ (λ a b. a && b) (type_whole m n Ownership) (type_whole m n Lease)) (type_whole m n Usufruct);
  }

  crowded_tied : Ties moments h has_crowded_unit (holdings_in h) is_unit_holding are_few h.units (λ u. true) is_uncrowded
  crowded_tied = record {
    faulty = λ m.
        let is_crowded : ℕ × UnitRecord → Bool = λ e. nat_lt 256 (parcel_count (register_of m) e.0) || nat_lt 256 (rrr_count (register_of m) e.0) in
        some_standing is_crowded m.stamp h.units p.units.apart
        ∙ list_any_same is_crowded (is_at_fault (λ u. true) (is_uncrowded (register_of m))) (λ e. twice (is_crowded e)) (current_values m.stamp h.units);
    marked = λ n t. marked_there h n t is_unit_holding refl (λ e. no_unit e.1.class);
    tested = λ m n. ap₂ (λ a b. not (nat_lt 256 a || nat_lt 256 b)) (parcels_same m n) (entries_same m n);
  }

  holdings_live : AreLives moments (holdings_in h)
  holdings_live =
      let units = all_live (λ e. e.0) unit_holding moments h.units p.units.intervals in
      let parcels = all_live (λ e. e.1.unit) parcel_holding moments h.parcels p.parcels.intervals in
      let entries = all_live (λ e. e.1.unit) entry_holding moments h.rrrs p.rrrs.intervals in
      lives-append moments (unit_spans h.units ++ parcel_spans h.parcels) (entry_spans h.rrrs)
      (lives-append moments (unit_spans h.units) (parcel_spans h.parcels) units parcels) entries

  module _ (in_time : are_in_range moments ≡ true) where
    whole : AreSound (if_any_marked is_checked_unit are_shares_whole) (holdings_in h) ↔ Never has_unit_without_whole_shares moments h
    whole =
        never moments h has_unit_without_whole_shares (holdings_in h) is_checked_unit are_shares_whole h.units (λ u. u.checked) has_whole_shares
        shares_tied in_time holdings_live

    few : AreSound (if_any_marked is_unit_holding are_few) (holdings_in h) ↔ Never has_crowded_unit moments h
    few =
        never moments h has_crowded_unit (holdings_in h) is_unit_holding are_few h.units (λ u. true) is_uncrowded
        crowded_tied in_time holdings_live

-- the current values of units are sound at each moment if and only if no register has a unit with invalid
-- sums or a crowded one
pub units_are_whole : (moments : List Moment) (h : History) → has_intervals moments h ≡ true → are_in_range moments ≡ true
    → AreSound is_unit_sound (holdings_in h) ↔ (Never has_unit_without_whole_shares moments h × Never has_crowded_unit moments h)
units_are_whole moments h intervals in_time =
    let p = all_proper moments h intervals in
    let both =
    both_sound (if_any_marked is_unit_holding are_few) (if_any_marked is_checked_unit are_shares_whole) (holdings_in h)
    (few moments h p in_time) (whole moments h p in_time) in
    (λ sound. let it = both.0 sound in (it.1, it.0), λ it. both.1 (it.1, it.0))
