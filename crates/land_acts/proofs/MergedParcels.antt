-- The parcels of merged units: those of the other units end, and every other unit keeps its parcels.
use Rattle.std.proofs.Common.{◌≡◌, ◌+◌, ◌≤◌, ℕ, Bool, true, false, cond, ◌&&◌, ◌||◌, not, Some, None, List, [], ◌∷◌, length, length-append, refl, sym, ap, ◌∙◌, subst, arith}
use Rattle.std.specs.Prelude.{filter, is_some, nat_eq, nat_le, nat_lt}
use Rattle.std.specs.List.{list_any}
use Rattle.std.specs.Option.{option_map_or}
use Rattle.std.specs.Cmp.{nat_cmp_total}
use Rattle.std.specs.FinMap as map
use Rattle.std.specs.FinMap.{FinMap, nat_cmp-IsAntisymmetric}
use Rattle.std.specs.Ordering.{nat_cmp}
use Rattle.std.proofs.lemmas.Bool.{false≢true, and_parts, eqb-true, not-false, not-true, or_parts}
use Rattle.std.proofs.lemmas.Bool.Decides.{nat_tests}
use Rattle.std.proofs.lemmas.List.Elements.{filter-append}
use Rattle.std.proofs.lemmas.Cmp.{nat_eq_equiv}
use Rattle.land_acts.proofs.EnteredEntries.{here, there}
use Rattle.land_acts.proofs.MergedEntries.{fewer_pass_both, filter-filter, get-without, kept_from, kept_to, none_counted, without_as_only}
use Rattle.land_acts.proofs.NewObjects.{below_next, entries-last}
use Rattle.land_acts.proofs.Numbers.{turned_number}
use Rattle.land_acts.specs.Mutations.Merging.{has_unlike, is_unit_of_merger, is_parcel_named, is_unlike, keeps_parcel, lacks_parcel, lacks_unit, merger_change, would_have_more_parcels}
use Rattle.land_acts.specs.Mutations.Planning.{runs_out_of_numbers}
use Rattle.land_acts.specs.Mutations.Subdividing.{count_other_parcels}
use Rattle.land_core.proofs.Reflection.{entries-entries_where, none_at, some_at, some_passes}
use Rattle.land_core.proofs.SoundRegisters.{are_used, refers, unused_from, used_bounds, used_from}
use Rattle.land_core.specs.Changes.{after}
use Rattle.land_core.specs.Contents.{is_well_formed_content}
use Rattle.land_core.specs.Entries.{has, without}
use Rattle.land_core.specs.Mergers.{are_merged_parcels, are_other_units, are_ascending_numbers, lists_number}
use Rattle.land_core.specs.Numbers.{is_number}
use Rattle.land_core.specs.Soundness.{IsSound, has_unused}
use Rattle.land_core.specs.Texts.{is_label}
use Rattle.land_core.specs.Units.{has_parcel, parcel_count}
use Rattle.land_core.specs.declared.content.Content.TheVariants as content
use Rattle.land_core.specs.declared.merger.Merger.{Merger}
use Rattle.land_core.specs.declared.parcel.ParcelRecord.{ParcelRecord}
use Rattle.land_core.specs.declared.register.Register.{Register}
use Rattle.land_core.specs.declared.soundness.Unsound.TheVariants.{Reference}
use Rattle.land_core.specs.declared.unit.UnitRecord.{UnitRecord}

-- the conditions on a merger that is within its limits and to which no refusal applies
pub record Merges (r : Register) (source : ℕ) (it : Merger) : Type 0 where
  pub comes_from : has r.sources source ≡ true
  pub formed : is_well_formed_content (content.Merger it) ≡ true
  pub units : lacks_unit r it ≡ false
  pub parcels : lacks_parcel r it ≡ false
  pub alike : has_unlike r it ≡ false
  pub room : runs_out_of_numbers r 1 ≡ false
  pub few : would_have_more_parcels r it ≡ false

-- ---- the limits of a merger

pub record IsMerger (it : Merger) : Type 0 where
  pub others : are_ascending_numbers it.others ≡ true
  pub apart : lists_number it.others it.unit ≡ false
  pub parcels : are_ascending_numbers it.parcels ≡ true

pub merger_limits : (it : Merger) → is_well_formed_content (content.Merger it) ≡ true → IsMerger it
merger_limits it formed =
    let label = and_parts (is_number it.unit && are_other_units it.unit it.others && are_merged_parcels it.parcels) (is_label it.label) formed in
    let merged = and_parts (is_number it.unit && are_other_units it.unit it.others) (are_merged_parcels it.parcels) label.0 in
    let unit = and_parts (is_number it.unit) (are_other_units it.unit it.others) merged.0 in
    let others = and_parts (nat_le (length it.others) 15 && are_ascending_numbers it.others) (not (lists_number it.others it.unit)) unit.1 in
    record {
      others = (and_parts (nat_le (length it.others) 15) (are_ascending_numbers it.others) others.0).1;
      apart = not-true _ others.1;
      parcels = (and_parts (nat_le 2 (length it.parcels) && nat_le (length it.parcels) 16) (are_ascending_numbers it.parcels) merged.1).1;
    }

-- ---- listed numbers

-- if no listed number satisfies a condition, the condition is false for each of them
pub listed_fails : (test : ℕ → Bool) (ns : List ℕ) (n : ℕ) → list_any test ns ≡ false → lists_number ns n ≡ true → test n ≡ false
listed_fails test [] n none listed = absurd (false≢true listed)
listed_fails test (k ∷ ks) n none listed =
    let parts = or_parts (test k) (list_any test ks) none in
    elim (nat_eq k n) as (λ b. nat_eq k n ≡ b → (b || lists_number ks n) ≡ true → test n ≡ false) [
      | true ↦ λ same h. subst (λ (m : ℕ). test m ≡ false) (eqb-true k n same) parts.0
      | false ↦ λ other h. listed_fails test ks n parts.1 h
    ] refl listed

module _ (r : Register) (sound : IsSound r) (source : ℕ) (it : Merger) (h : Merges r source it) where
  abbrev pub merged : Register
  merged = after (merger_change r source it) r

  abbrev parcel : ParcelRecord
  parcel = record { unit = it.unit; label = it.label; outline = it.outline; source = source }

  -- ---- units

  pub unit_stays : (n : ℕ) → lists_number it.others n ≡ false → has r.units n ≡ true → has merged.units n ≡ true
  unit_stays n apart stands = ap is_some (get-without r.units it.others n ∙ ap (λ b. cond b None (map.get r.units n)) apart) ∙ stands

  -- the unit stays, because it is not among the others
  pub unit_itself : has merged.units it.unit ≡ true
  unit_itself = unit_stays it.unit (merger_limits it h.formed).apart (not-false _ (or_parts (not (has r.units it.unit)) (list_any (λ n. not (has r.units n)) it.others) h.units).0)

  pub record Stays (n : ℕ) (u : UnitRecord) : Type 0 where
    pub before : map.get r.units n ≡ Some u
    pub apart : lists_number it.others n ≡ false

  pub unit_stood : (n : ℕ) (u : UnitRecord) → map.get merged.units n ≡ Some u → Stays n u
  unit_stood n u is =
      let it_was = kept_from (λ n u. not (lists_number it.others n)) r.units n u (ap (λ m. map.get m n) (sym (without_as_only r.units it.others)) ∙ is) in
      record { before = it_was.before; apart = not-true _ it_was.passes }

  -- ---- parcels

  -- a parcel of one of the other units ends
  pub ends_with_unit : (n : ℕ) (p : ParcelRecord) → map.get r.parcels n ≡ Some p → lists_number it.others p.unit ≡ true → lists_number it.parcels n ≡ true
  ends_with_unit n p is other =
      let unlike = listed_fails (is_unlike r it) it.others p.unit h.alike other in
      let keeps = (or_parts (keeps_parcel r it p.unit) _ (or_parts _ _ unlike).0).0 in
      let none = none_counted (λ (e : ℕ × ParcelRecord). nat_eq e.1.unit p.unit && not (lists_number it.parcels e.0)) (map.entries r.parcels) keeps in
      let here = none_at nat_cmp_total nat_cmp-IsAntisymmetric (λ k q. nat_eq q.unit p.unit && not (lists_number it.parcels k)) r.parcels n p none is in
      not-false _ (sym (ap (λ b. b && not (lists_number it.parcels n)) (nat_eq_equiv.refl p.unit)) ∙ here)

  -- a parcel that ends belongs to one of the units of the merger
  pub ends_in_named : (n : ℕ) (p : ParcelRecord) → map.get r.parcels n ≡ Some p → lists_number it.parcels n ≡ true → is_unit_of_merger it p.unit ≡ true
  ends_in_named n p is listed =
      sym (ap (λ o. option_map_or (λ p. is_unit_of_merger it p.unit) o false) is)
      ∙ not-false _ (listed_fails (λ n. not (is_parcel_named r it n)) it.parcels n h.parcels listed)

  -- a parcel that remains existed before, and belongs to a unit that remains
  pub record Remains (n : ℕ) (p : ParcelRecord) : Type 0 where
    pub before : map.get r.parcels n ≡ Some p
    pub unlisted : lists_number it.parcels n ≡ false
    pub apart : lists_number it.others p.unit ≡ false

  pub parcel_stood : (n : ℕ) (p : ParcelRecord) → map.get (without r.parcels it.parcels) n ≡ Some p → Remains n p
  parcel_stood n p is =
      let it_was = kept_from (λ n p. not (lists_number it.parcels n)) r.parcels n p (ap (λ m. map.get m n) (sym (without_as_only r.parcels it.parcels)) ∙ is) in
      record { before = it_was.before; unlisted = not-true _ it_was.passes; apart = not_other (lists_number it.others p.unit) refl it_was.before (not-true _ it_was.passes) }
    where
      not_other : (b : Bool) → lists_number it.others p.unit ≡ b → map.get r.parcels n ≡ Some p → lists_number it.parcels n ≡ false → b ≡ false
      not_other true other there unlisted = absurd (false≢true (sym unlisted ∙ ends_with_unit n p there other))
      not_other false apart there unlisted = refl

  pub unused_left : has_unused r (without r.parcels it.parcels) ≡ false
  unused_left =
      unused_from r (without r.parcels it.parcels) (λ n p is. used_from r r.parcels (are_used r (refers r (sound Reference)).numbers).parcels n p (parcel_stood n p is).before)

  -- a unit that remains has a parcel: the unit has the new one, and every other has all of its own
  pub parcel_stays : (n : ℕ) → lists_number it.others n ≡ false → has_parcel r n ≡ true → has_parcel merged n ≡ true
  parcel_stays n apart had =
      elim (nat_eq it.unit n) as (λ b. nat_eq it.unit n ≡ b → has_parcel merged n ≡ true) [
        | true ↦ λ same. some_at nat_cmp_total nat_cmp-IsAntisymmetric (λ k p. nat_eq p.unit n) merged.parcels r.next parcel (here (without r.parcels it.parcels) r.next parcel) same
        | false ↦ λ other.
            let one = some_passes nat_cmp_total nat_cmp-IsAntisymmetric (λ k p. nat_eq p.unit n) r.parcels had in
            let left = kept_to (λ k p. not (lists_number it.parcels k)) r.parcels one.key one.value one.there (ap not (unlisted one.key one.value one.there (eqb-true one.value.unit n one.passes) other)) in
            let less = (used_bounds r one.key (used_from r r.parcels (are_used r (refers r (sound Reference)).numbers).parcels one.key one.value one.there)).1 in
            some_at nat_cmp_total nat_cmp-IsAntisymmetric (λ k p. nat_eq p.unit n) merged.parcels one.key one.value
            (there (without r.parcels it.parcels) r.next parcel one.key one.value less (ap (λ m. map.get m one.key) (without_as_only r.parcels it.parcels) ∙ left)) one.passes
      ] refl
    where
      not_named : (p : ParcelRecord) → p.unit ≡ n → nat_eq it.unit n ≡ false → is_unit_of_merger it p.unit ≡ false
      not_named p is other =
          ap (is_unit_of_merger it) is
          ∙ ap (λ b. b || lists_number it.others n) (turned_number it.unit n other)
          ∙ apart

      unlisted : (k : ℕ) (p : ParcelRecord) → map.get r.parcels k ≡ Some p → p.unit ≡ n → nat_eq it.unit n ≡ false → lists_number it.parcels k ≡ false
      unlisted k p there is other = elim (lists_number it.parcels k) as (λ b. lists_number it.parcels k ≡ b → b ≡ false) [
        | true ↦ λ listed. absurd (false≢true (sym (not_named p is other) ∙ ends_in_named k p there listed))
        | false ↦ λ left. refl
      ] refl

  -- the unit gets one parcel in addition to the remaining ones, and no other unit gets one
  parcels_counted : (n : ℕ) → parcel_count merged n ≡ count_other_parcels r n it.parcels + length {A = ℕ × ParcelRecord} (cond (nat_eq it.unit n) ((r.next, parcel) ∷ []) [])
  parcels_counted n =
      ap (λ (es : List (ℕ × ParcelRecord)). length (filter (λ e. nat_eq e.1.unit n) es)) (entries-last (without r.parcels it.parcels) r.next parcel (below_next r (without r.parcels it.parcels) unused_left))
      ∙ ap length (filter-append (λ (e : ℕ × ParcelRecord). nat_eq e.1.unit n) (map.entries (without r.parcels it.parcels)) ((r.next, parcel) ∷ []))
      ∙ length-append (filter (λ (e : ℕ × ParcelRecord). nat_eq e.1.unit n) (map.entries (without r.parcels it.parcels))) (filter (λ (e : ℕ × ParcelRecord). nat_eq e.1.unit n) ((r.next, parcel) ∷ []))
      ∙ ap (λ k. k + length {A = ℕ × ParcelRecord} (cond (nat_eq it.unit n) ((r.next, parcel) ∷ []) [])) beside
    where
      beside : length (filter (λ (e : ℕ × ParcelRecord). nat_eq e.1.unit n) (map.entries (without r.parcels it.parcels))) ≡ count_other_parcels r n it.parcels
      beside =
          ap (λ (m : FinMap nat_cmp ParcelRecord). length (filter (λ e. nat_eq e.1.unit n) (map.entries m))) (without_as_only r.parcels it.parcels)
          ∙ ap (λ es. length (filter (λ (e : ℕ × ParcelRecord). nat_eq e.1.unit n) es)) (entries-entries_where nat_cmp_total nat_cmp-IsAntisymmetric (λ k p. not (lists_number it.parcels k)) r.parcels)
          ∙ ap length (filter-filter (λ (e : ℕ × ParcelRecord). nat_eq e.1.unit n) (λ e. not (lists_number it.parcels e.0)) (map.entries r.parcels))

  pub parcels_fit : (n : ℕ) → nat_lt 256 (parcel_count r n) ≡ false → nat_lt 256 (parcel_count merged n) ≡ false
  parcels_fit n before =
      ap (nat_lt 256) (parcels_counted n)
      ∙ elim (nat_eq it.unit n) as (λ b. nat_eq it.unit n ≡ b → nat_lt 256 (count_other_parcels r n it.parcels + length {A = ℕ × ParcelRecord} (cond b ((r.next, parcel) ∷ []) [])) ≡ false) [
        | true ↦ λ same. subst (λ (u : ℕ). nat_lt 256 (count_other_parcels r u it.parcels + 1) ≡ false) (eqb-true it.unit n same) h.few
        | false ↦ λ other.
            fewer (count_other_parcels r n it.parcels) (parcel_count r n) (fewer_pass_both (λ (e : ℕ × ParcelRecord). nat_eq e.1.unit n) (λ e. not (lists_number it.parcels e.0)) (map.entries r.parcels)) before
      ] refl
    where
      fewer : (least most : ℕ) → least ≤ most → nat_lt 256 most ≡ false → nat_lt 256 (least + 0) ≡ false
      fewer least most le h = grind (arith, nat_tests)
