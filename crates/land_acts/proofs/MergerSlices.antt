-- A merger has the same refusals and the same change on the slice as on the register.
use Rattle.std.proofs.Common.{◌≡◌, ◌+◌, ℕ, Bool, true, false, cond, not, ◌||◌, Some, List, [], ◌∷◌, refl, sym, ap, ◌∙◌}
use Rattle.std.specs.Prelude.{ℤ, Option, is_none, nat_eq, nat_lt, map as map_list}
use Rattle.std.specs.List.{list_any}
use Rattle.std.specs.Cmp.{eq_by_cmp_equiv, nat_cmp_total}
use Rattle.std.proofs.lemmas.Bool.{or_right}
use Rattle.std.proofs.lemmas.Cmp.{nat_eq_equiv}
use Rattle.land_acts.proofs.Numbers.{tied_number}
use Rattle.land_acts.proofs.SubdivisionSlices.{AgreeOnUnits, beside_agrees, checked_agrees, entries_agree, entries_passing_agree, later_lines, outlines_agree, parcel_agrees, stands_agrees}
use Rattle.land_acts.specs.Mutations.Areas.{outlines_at}
use Rattle.land_acts.specs.Mutations.Grounds.{are_same_ground}
use Rattle.land_acts.specs.Mutations.Merging.{are_same_entries, entries_of_others, has_unlike, is_unit_of_merger, is_parcel_named, are_equally_checked, is_unlike, lacks_parcel, lacks_unit, merger_change, merger_refusals, would_have_more_parcels}
use Rattle.land_acts.specs.Mutations.Planning.{first_refusal_of, runs_out_of_numbers}
use Rattle.land_acts.specs.Mutations.Subdividing.{list_entries_of, count_other_parcels}
use Rattle.land_acts.specs.Mutations.Transferring.{is_checked}
use Rattle.land_acts.specs.declared.mutations.refusal.Refusal.{Refusal}
use Rattle.land_acts.specs.declared.mutations.refusal.Refusal.TheVariants.{NoSuchUnit, NoSuchParcel, UnitsUnlike, TooMany, ClockOut, NotMatched}
use Rattle.land_core.proofs.Pairs.{list_any_same}
use Rattle.land_core.specs.Contents.{content_names_unit}
use Rattle.land_core.specs.Entries.{has}
use Rattle.land_core.specs.Mergers.{lists_number}
use Rattle.land_core.specs.Numbers.{last_next}
use Rattle.land_core.specs.declared.content.Content.TheVariants as content
use Rattle.land_core.specs.declared.merger.Merger.{Merger}
use Rattle.land_core.specs.declared.register.Register.{Register}
use Rattle.land_core.specs.declared.rrr.RrrRecord.{RrrRecord}

-- conditions that are equal on the listed numbers hold for the same ones
any_listed : (p q : ℕ → Bool) (ns : List ℕ) → ((n : ℕ) → lists_number ns n ≡ true → p n ≡ q n) → list_any p ns ≡ list_any q ns
any_listed p q [] same = refl
any_listed p q (n ∷ ns) same =
    ap (λ b. b || list_any p ns) (same n (ap (λ b. b || lists_number ns n) (nat_eq_equiv.refl n)))
    ∙ ap (λ b. q n || b) (any_listed p q ns (λ k listed. same k (or_right (nat_eq n k) (lists_number ns k) listed)))

-- the units of the merger are those to which the content refers
pub named_in_content : (it : Merger) (n : ℕ) → is_unit_of_merger it n ≡ true → content_names_unit n (content.Merger it) ≡ true
named_in_content it n names = ap (λ b. b || lists_number it.others n) turned ∙ names
  where
    turned : nat_eq it.unit n ≡ nat_eq n it.unit
    turned = sym (tied_number it.unit n) ∙ (eq_by_cmp_equiv nat_cmp_total).symm it.unit n ∙ tied_number n it.unit

module _ (s r : Register) (it : Merger) (named : ℕ → Bool) (agree : AgreeOnUnits s r named) (names : (n : ℕ) → is_unit_of_merger it n ≡ true → named n ≡ true) where
  unit_named : named it.unit ≡ true
  unit_named = names it.unit (ap (λ b. b || lists_number it.others it.unit) (nat_eq_equiv.refl it.unit))

  other_named : (n : ℕ) → lists_number it.others n ≡ true → named n ≡ true
  other_named n listed = names n (or_right (nat_eq n it.unit) (lists_number it.others n) listed)

  -- ---- the refusals

  units_agree : lacks_unit s it ≡ lacks_unit r it
  units_agree =
      ap (λ b. not b || list_any (λ n. not (has s.units n)) it.others) (stands_agrees s r named agree it.unit unit_named)
      ∙ ap (λ b. not (has r.units it.unit) || b)
      (any_listed (λ n. not (has s.units n)) (λ n. not (has r.units n)) it.others (λ n listed. ap not (stands_agrees s r named agree n (other_named n listed))))

  parcels_agree : lacks_parcel s it ≡ lacks_parcel r it
  parcels_agree =
      list_any_same (λ n. not (is_parcel_named s it n)) (λ n. not (is_parcel_named r it n))
      (λ n. ap not (parcel_agrees s r named agree (λ p. is_unit_of_merger it p.unit) (λ p passes. names p.unit passes) n)) it.parcels

  -- whether the new outline has another ground than the outlines of the parcels
  abbrev is_lost : Register → Bool
  is_lost at = not (are_same_ground (outlines_at at it.parcels) (it.outline ∷ []))

  lost_agrees : lacks_parcel r it ≡ false → is_lost s ≡ is_lost r
  lost_agrees none =
      ap (λ old. not (are_same_ground old (it.outline ∷ []))) (outlines_agree s r named agree (λ p. is_unit_of_merger it p.unit) (λ p passes. names p.unit passes) it.parcels none)

  -- whether another unit cannot be merged with the unit, from the records of the two
  abbrev is_unlike_by : (beside : ℕ) (checked mark : Bool) (entries others : List RrrRecord) → Bool
  is_unlike_by beside checked mark entries others = nat_lt 0 beside || not (are_equally_checked checked mark) || not (are_same_entries entries others)

  one_agrees : (n : ℕ) → named n ≡ true → is_unlike s it n ≡ is_unlike r it n
  one_agrees n name =
      ap (λ beside. is_unlike_by beside (is_checked s n) (is_checked s it.unit) (list_entries_of s n) (list_entries_of s it.unit)) (beside_agrees s r named agree n name it.parcels)
      ∙ ap (λ checked. is_unlike_by (count_other_parcels r n it.parcels) checked (is_checked s it.unit) (list_entries_of s n) (list_entries_of s it.unit)) (checked_agrees s r named agree n name)
      ∙ ap (λ mark. is_unlike_by (count_other_parcels r n it.parcels) (is_checked r n) mark (list_entries_of s n) (list_entries_of s it.unit)) (checked_agrees s r named agree it.unit unit_named)
      ∙ ap (λ entries. is_unlike_by (count_other_parcels r n it.parcels) (is_checked r n) (is_checked r it.unit) entries (list_entries_of s it.unit)) (entries_agree s r named agree n name)
      ∙ ap (λ others. is_unlike_by (count_other_parcels r n it.parcels) (is_checked r n) (is_checked r it.unit) (list_entries_of r n) others) (entries_agree s r named agree it.unit unit_named)

  unlike_agree : has_unlike s it ≡ has_unlike r it
  unlike_agree = any_listed (is_unlike s it) (is_unlike r it) it.others (λ n listed. one_agrees n (other_named n listed))

  -- whether there are too few numbers, or too many parcels
  abbrev is_many : Register → Bool
  is_many at = runs_out_of_numbers at 1 || would_have_more_parcels at it

  many_agrees : is_many s ≡ is_many r
  many_agrees =
      ap (λ next. nat_lt last_next (next + 1) || would_have_more_parcels s it) agree.next
      ∙ ap (λ beside. runs_out_of_numbers r 1 || nat_lt 256 (beside + 1)) (beside_agrees s r named agree it.unit unit_named it.parcels)

  -- if a listed parcel belongs to none of the units, its outline may be in only one of the two registers; an
  -- earlier refusal applies then
  pub merger_refusal_agrees : (stamp : Option ℤ) → first_refusal_of (merger_refusals s it stamp) ≡ first_refusal_of (merger_refusals r it stamp)
  merger_refusal_agrees stamp =
      ap (λ b. first_refusal_of ((NoSuchUnit, b) ∷ (NoSuchParcel, lacks_parcel s it) ∷ of_slice)) units_agree
      ∙ ap (λ b. first_refusal_of ((NoSuchUnit, lacks_unit r it) ∷ (NoSuchParcel, b) ∷ of_slice)) parcels_agree
      ∙ ap (cond (lacks_unit r it) (Some NoSuchUnit)) (later_lines NoSuchParcel (lacks_parcel r it) of_slice of_register rest)
    where
      of_slice : List (Refusal × Bool)
      of_slice = (UnitsUnlike, has_unlike s it) ∷ (TooMany, is_many s) ∷ (ClockOut, is_none stamp) ∷ (NotMatched, is_lost s) ∷ []

      of_register : List (Refusal × Bool)
      of_register = (UnitsUnlike, has_unlike r it) ∷ (TooMany, is_many r) ∷ (ClockOut, is_none stamp) ∷ (NotMatched, is_lost r) ∷ []

      rest : lacks_parcel r it ≡ false → first_refusal_of of_slice ≡ first_refusal_of of_register
      rest none =
          ap (λ b. first_refusal_of ((UnitsUnlike, b) ∷ (TooMany, is_many s) ∷ (ClockOut, is_none stamp) ∷ (NotMatched, is_lost s) ∷ [])) unlike_agree
          ∙ ap (λ b. first_refusal_of ((UnitsUnlike, has_unlike r it) ∷ (TooMany, b) ∷ (ClockOut, is_none stamp) ∷ (NotMatched, is_lost s) ∷ [])) many_agrees
          ∙ ap (λ b. first_refusal_of ((UnitsUnlike, has_unlike r it) ∷ (TooMany, is_many r) ∷ (ClockOut, is_none stamp) ∷ (NotMatched, b) ∷ [])) (lost_agrees none)

  -- ---- the change

  others_agree : entries_of_others s it ≡ entries_of_others r it
  others_agree = ap (map_list (λ e. e.0)) (entries_passing_agree s r named agree (λ e. lists_number it.others e.1.unit) (λ e listed. other_named e.1.unit listed))

  pub merger_change_agrees : (source : ℕ) → merger_change s source it ≡ merger_change r source it
  merger_change_agrees source = rw (agree.next, others_agree) refl
