-- A subdivision has the same refusals and the same change on the slice as on the register.
use Rattle.std.proofs.Common.{◌≡◌, ◌+◌, ℕ, Bool, true, false, cond, not, ◌&&◌, ◌||◌, Option, Some, None, List, [], ◌∷◌, length, refl, ap, ◌∙◌}
use Rattle.std.specs.Prelude.{ℤ, filter, is_none, is_some, nat_eq, nat_lt, map as map_list}
use Rattle.std.specs.Option.{option_map_or}
use Rattle.std.specs.List.{cons_option, list_any}
use Rattle.std.specs.Cmp.{nat_cmp_total}
use Rattle.std.specs.FinMap as map
use Rattle.std.specs.FinMap.{nat_cmp-IsAntisymmetric}
use Rattle.std.proofs.lemmas.Bool.{and_parts, eqb-true, not-false, or_parts}
use Rattle.land_acts.proofs.EndedEntries.{filter_within}
use Rattle.land_acts.proofs.KeptEntries.{get-kept, kept_at}
use Rattle.land_acts.proofs.NumberTests.{at_kept}
use Rattle.land_acts.specs.Mutations.Areas.{outlines_at}
use Rattle.land_acts.specs.Mutations.Grounds.{are_same_ground}
use Rattle.land_acts.specs.Mutations.Numbering.{numbers_from}
use Rattle.land_acts.specs.Mutations.Planning.{first_refusal_of, runs_out_of_numbers}
use Rattle.land_acts.specs.Mutations.Subdividing.{all_parts, count_for, cut_change, list_entries_of, has_parcel_in, origin_of, outlines_of, count_other_parcels, count_staying, subdivision_change, subdivision_count, subdivision_made, subdivision_refusals, would_have_many_parcels}
use Rattle.land_acts.specs.Mutations.Transferring.{is_checked}
use Rattle.land_acts.specs.declared.mutations.refusal.Refusal.{Refusal}
use Rattle.land_acts.specs.declared.mutations.refusal.Refusal.TheVariants.{NoSuchUnit, NoSuchParcel, TooMany, ClockOut, NotMatched}
use Rattle.land_core.proofs.Reflection.{entries-entries_where}
use Rattle.land_core.specs.Entries.{has, entries_where}
use Rattle.land_core.specs.Mergers.{lists_number}
use Rattle.land_core.specs.Numbers.{last_next}
use Rattle.land_core.specs.declared.parcel.ParcelRecord.{ParcelRecord}
use Rattle.land_core.specs.declared.register.Register.{Register}
use Rattle.land_core.specs.declared.rrr.RrrRecord.{RrrRecord}
use Rattle.land_core.specs.declared.subdivision.Subdivision.{Subdivision}

-- a register with only some units, parcels and entries of another one, but all those of the units to which
-- the act refers; both agree on the next number
pub record AgreeOnUnits (s r : Register) (named : ℕ → Bool) : Type 0 where
  pub units : (n : ℕ) → named n ≡ true → map.get s.units n ≡ map.get r.units n
  pub kept_parcels : ℕ → ParcelRecord → Bool
  pub parcels : s.parcels ≡ entries_where kept_parcels r.parcels
  pub keeps_parcels : (n : ℕ) (p : ParcelRecord) → named p.unit ≡ true → kept_parcels n p ≡ true
  pub kept_entries : ℕ → RrrRecord → Bool
  pub entries : s.rrrs ≡ entries_where kept_entries r.rrrs
  pub keeps_entries : (n : ℕ) (e : RrrRecord) → named e.unit ≡ true → kept_entries n e ≡ true
  pub next : s.next ≡ r.next

-- refusals after another are read only if the condition of that one is false
pub later_lines : (refusal : Refusal) (b : Bool) (lines others : List (Refusal × Bool)) → (b ≡ false → first_refusal_of lines ≡ first_refusal_of others)
    → first_refusal_of ((refusal, b) ∷ lines) ≡ first_refusal_of ((refusal, b) ∷ others)
later_lines refusal true lines others same = refl
later_lines refusal false lines others same = same refl

module _ (s r : Register) (named : ℕ → Bool) (agree : AgreeOnUnits s r named) where
  -- ---- units and their entries

  pub stands_agrees : (n : ℕ) → named n ≡ true → has s.units n ≡ has r.units n
  stands_agrees n names = ap is_some (agree.units n names)

  pub checked_agrees : (n : ℕ) → named n ≡ true → is_checked s n ≡ is_checked r n
  checked_agrees n names = ap (λ o. option_map_or (λ u. u.checked) o false) (agree.units n names)

  -- the entries that satisfy a condition which only those of these units do
  pub entries_passing_agree : (test : ℕ × RrrRecord → Bool) → ((e : ℕ × RrrRecord) → test e ≡ true → named e.1.unit ≡ true) → filter test (map.entries s.rrrs) ≡ filter test (map.entries r.rrrs)
  entries_passing_agree test names =
      ap (λ m. filter test (map.entries m)) agree.entries
      ∙ ap (filter test) (entries-entries_where nat_cmp_total nat_cmp-IsAntisymmetric agree.kept_entries r.rrrs)
      ∙ filter_within test (λ e. agree.kept_entries e.0 e.1) (λ e passes. agree.keeps_entries e.0 e.1 (names e passes)) (map.entries r.rrrs)

  named_as : (unit n : ℕ) → named unit ≡ true → nat_eq n unit ≡ true → named n ≡ true
  named_as unit n names same = ap named (eqb-true n unit same) ∙ names

  pub entries_agree : (unit : ℕ) → named unit ≡ true → list_entries_of s unit ≡ list_entries_of r unit
  entries_agree unit names = ap (map_list (λ e. e.1)) (entries_passing_agree (λ e. nat_eq e.1.unit unit) (λ e here. named_as unit e.1.unit names here))

  -- ---- parcels

  pub beside_agrees : (unit : ℕ) → named unit ≡ true → (ended : List ℕ) → count_other_parcels s unit ended ≡ count_other_parcels r unit ended
  beside_agrees unit names ended =
      ap (λ m. length (filter (λ e. nat_eq e.1.unit unit && not (lists_number ended e.0)) (map.entries m))) agree.parcels
      ∙ ap (λ es. length (filter (λ e. nat_eq e.1.unit unit && not (lists_number ended e.0)) es)) (entries-entries_where nat_cmp_total nat_cmp-IsAntisymmetric agree.kept_parcels r.parcels)
      ∙ ap length (filter_within (λ e. nat_eq e.1.unit unit && not (lists_number ended e.0)) (λ e. agree.kept_parcels e.0 e.1) (λ e passes. keeps e.0 e.1 passes) (map.entries r.parcels))
    where
      keeps : (n : ℕ) (p : ParcelRecord) → (nat_eq p.unit unit && not (lists_number ended n)) ≡ true → agree.kept_parcels n p ≡ true
      keeps n p passes = agree.keeps_parcels n p (named_as unit p.unit names (and_parts (nat_eq p.unit unit) (not (lists_number ended n)) passes).0)

  -- a condition that only parcels of these units satisfy
  module _ (test : ParcelRecord → Bool) (names : (p : ParcelRecord) → test p ≡ true → named p.unit ≡ true) where
    pub parcel_agrees : (n : ℕ) → option_map_or test (map.get s.parcels n) false ≡ option_map_or test (map.get r.parcels n) false
    parcel_agrees n =
        ap (λ m. option_map_or test (map.get m n) false) agree.parcels
        ∙ at_kept r.parcels agree.kept_parcels test n (λ p passes. agree.keeps_parcels n p (names p passes))

    -- a parcel that satisfies it is the same in both
    parcel_same : (n : ℕ) → option_map_or test (map.get r.parcels n) false ≡ true → map.get s.parcels n ≡ map.get r.parcels n
    parcel_same n passes =
        ap (λ m. map.get m n) agree.parcels
        ∙ get-kept agree.kept_parcels r.parcels n
        ∙ found (map.get r.parcels n) passes
      where
        found : (o : Option ParcelRecord) → option_map_or test o false ≡ true → kept_at agree.kept_parcels n o ≡ o
        found None h = refl
        found (Some p) h = ap (λ b. cond b (Some p) None) (agree.keeps_parcels n p (names p h))

    -- and so are the outlines of parcels that all satisfy it
    pub outlines_agree : (ns : List ℕ) → list_any (λ n. not (option_map_or test (map.get r.parcels n) false)) ns ≡ false → outlines_at s ns ≡ outlines_at r ns
    outlines_agree [] none = refl
    outlines_agree (n ∷ ns) none =
        let parts = or_parts (not (option_map_or test (map.get r.parcels n) false)) (list_any (λ n. not (option_map_or test (map.get r.parcels n) false)) ns) none in
        ap (λ o. cons_option (option_map_or (λ p. Some p.outline) o None) (outlines_at s ns)) (parcel_same n (not-false _ parts.0))
        ∙ ap (cons_option (option_map_or (λ p. Some p.outline) (map.get r.parcels n) None)) (outlines_agree ns parts.1)

-- ---- the refusals, the change and the new numbers of a subdivision

module _ (s r : Register) (it : Subdivision) (named : ℕ → Bool) (agree : AgreeOnUnits s r named) (names : named it.unit ≡ true) where
  origin_agrees : (source : ℕ) → origin_of s source it ≡ origin_of r source it
  origin_agrees source = rw (checked_agrees s r named agree it.unit names, entries_agree s r named agree it.unit names) refl

  count_agrees : subdivision_count s it ≡ subdivision_count r it
  count_agrees = ap (λ origin. count_for origin (all_parts it)) (origin_agrees 0)

  in_named : (p : ParcelRecord) → nat_eq p.unit it.unit ≡ true → named p.unit ≡ true
  in_named p here = ap named (eqb-true p.unit it.unit here) ∙ names

  has_parcel_agrees : has_parcel_in s it.unit it.parcel ≡ has_parcel_in r it.unit it.parcel
  has_parcel_agrees = parcel_agrees s r named agree (λ p. nat_eq p.unit it.unit) in_named it.parcel

  -- two of its refusals
  abbrev is_lost : Register → Bool
  is_lost at = not (are_same_ground (outlines_at at (it.parcel ∷ [])) (outlines_of (all_parts it)))

  abbrev is_many : Register → Bool
  is_many at = runs_out_of_numbers at (subdivision_count at it) || would_have_many_parcels at it

  many_agrees : is_many s ≡ is_many r
  many_agrees =
      ap (λ next. nat_lt last_next (next + subdivision_count s it) || would_have_many_parcels s it) agree.next
      ∙ ap (λ count. nat_lt last_next (r.next + count) || would_have_many_parcels s it) count_agrees
      ∙ ap (λ beside. runs_out_of_numbers r (subdivision_count r it) || nat_lt 256 (beside + count_staying (all_parts it))) (beside_agrees s r named agree it.unit names (it.parcel ∷ []))

  lost_agrees : has_parcel_in r it.unit it.parcel ≡ true → is_lost s ≡ is_lost r
  lost_agrees there =
      ap (λ old. not (are_same_ground old (outlines_of (all_parts it))))
      (outlines_agree s r named agree (λ p. nat_eq p.unit it.unit) in_named (it.parcel ∷ []) (ap (λ b. not b || false) there))

  -- if the parcel belongs to another unit, its outline may be in only one of the two registers; an earlier
  -- refusal applies then
  pub subdivision_refusal_agrees : (stamp : Option ℤ) → first_refusal_of (subdivision_refusals s it stamp) ≡ first_refusal_of (subdivision_refusals r it stamp)
  subdivision_refusal_agrees stamp =
      ap (λ b. cond (not b) (Some NoSuchUnit) (first_refusal_of ((NoSuchParcel, not (has_parcel_in s it.unit it.parcel)) ∷ of_slice))) (stands_agrees s r named agree it.unit names)
      ∙ ap (cond (not (has r.units it.unit)) (Some NoSuchUnit)) parcel
    where
      of_slice : List (Refusal × Bool)
      of_slice = (TooMany, is_many s) ∷ (ClockOut, is_none stamp) ∷ (NotMatched, is_lost s) ∷ []

      of_register : List (Refusal × Bool)
      of_register = (TooMany, is_many r) ∷ (ClockOut, is_none stamp) ∷ (NotMatched, is_lost r) ∷ []

      rest : not (has_parcel_in r it.unit it.parcel) ≡ false → first_refusal_of of_slice ≡ first_refusal_of of_register
      rest there =
          ap (λ b. first_refusal_of ((TooMany, b) ∷ (ClockOut, is_none stamp) ∷ (NotMatched, is_lost s) ∷ [])) many_agrees
          ∙ ap (λ b. first_refusal_of ((TooMany, is_many r) ∷ (ClockOut, is_none stamp) ∷ (NotMatched, b) ∷ [])) (lost_agrees (not-false _ there))

      parcel : first_refusal_of ((NoSuchParcel, not (has_parcel_in s it.unit it.parcel)) ∷ of_slice) ≡ first_refusal_of ((NoSuchParcel, not (has_parcel_in r it.unit it.parcel)) ∷ of_register)
      parcel =
          ap (λ b. first_refusal_of ((NoSuchParcel, not b) ∷ of_slice)) has_parcel_agrees
          ∙ later_lines NoSuchParcel (not (has_parcel_in r it.unit it.parcel)) of_slice of_register rest

  pub subdivision_change_agrees : (source : ℕ) → subdivision_change s source it ≡ subdivision_change r source it
  subdivision_change_agrees source =
      ap (cut_change s it) (origin_agrees source)
      ∙ ap (λ (next : ℕ). cut_change (record r { next = next }) it (origin_of r source it)) agree.next

  pub subdivision_made_agrees : subdivision_made s it ≡ subdivision_made r it
  subdivision_made_agrees = ap (numbers_from s.next) count_agrees ∙ ap (λ next. numbers_from next (subdivision_count r it)) agree.next
