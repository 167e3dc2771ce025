-- A subdivision writes and ends no key twice.
use Rattle.std.proofs.Common.{◌≡◌, ℕ, ◌+◌, ◌<◌, ◌≤◌, true, false, ◌&&◌, ◌||◌, not, Some, None, Option, List, [], ◌∷◌, ◌++◌, length, refl, sym, ap, ◌∙◌, subst, arith}
use Rattle.std.specs.Prelude.{nat_eq, map as map_list}
use Rattle.std.specs.List.{list_any, AllByRecursion}
use Rattle.std.specs.Option.{option_map_or}
use Rattle.std.specs.FinMap as map
use Rattle.std.proofs.lemmas.Bool.{false≢true}
use Rattle.std.proofs.lemmas.Bool.Decides.{nat_tests}
use Rattle.std.proofs.lemmas.List.{length-map, map-append}
use Rattle.std.proofs.lemmas.List.Folds.{list_any-append}
use Rattle.land_acts.specs.Mutations.Numbering.{with_numbers_from}
use Rattle.land_acts.specs.Mutations.Subdividing.{Origin, all_parts, copies_made, entries_made, has_parcel_in, in_unit, numbers_for, origin_of, parcel_made, parcels_made, subdivision_change, unit_made, units_made}
use Rattle.land_core.proofs.SoundRegisters.{are_used, refers, used_bounds, used_from}
use Rattle.land_core.specs.Changes.{NamesKeysOnce}
use Rattle.land_core.specs.Entries.{are_distinct}
use Rattle.land_core.specs.Soundness.{IsSound}
use Rattle.land_core.specs.declared.parcel.ParcelRecord.{ParcelRecord}
use Rattle.land_core.specs.declared.register.Register.{Register}
use Rattle.land_core.specs.declared.soundness.Unsound.TheVariants.{Reference}
use Rattle.land_core.specs.declared.subdivision.Part.{Part}
use Rattle.land_core.specs.declared.subdivision.Subdivision.{Subdivision}

-- ---- ascending numbers

-- numbers from a bound, each above the one before it
abbrev Rise : (least : ℕ) → List ℕ → Type 0
Rise least [] = Unit
Rise least (n ∷ ns) = (least ≤ n) × Rise (n + 1) ns

rise_from : (low least : ℕ) → low ≤ least → (ns : List ℕ) → Rise least ns → Rise low ns
rise_from low least le [] rise = tt
rise_from low least le (n ∷ ns) rise = (let above = rise.0 in omega (arith, le, above), rise.1)

not_among : (k least : ℕ) → k < least → (ns : List ℕ) → Rise least ns → list_any (nat_eq k) ns ≡ false
not_among k least less [] rise = refl
not_among k least less (n ∷ ns) rise =
    let above = rise.0 in
    let apart : nat_eq k n ≡ false = grind (arith, nat_tests) in
    ap (λ b. b || list_any (nat_eq k) ns) apart ∙ not_among k (n + 1) (omega (arith, less, above)) ns rise.1

-- such numbers, and distinct numbers below them, are distinct together
rise_once : (least : ℕ) (ns others : List ℕ) → Rise least ns → AllByRecursion (λ n. n < least) others → are_distinct nat_eq others ≡ true → are_distinct nat_eq (ns ++ others) ≡ true
rise_once least [] others rise below once = once
rise_once least (n ∷ ns) others rise below once =
    let above = rise.0 in
    let le : least ≤ n + 1 = omega (arith, above) in
    ap (λ b. not b && are_distinct nat_eq (ns ++ others))
    (list_any-append (nat_eq n) ns others ∙ ap (λ b. b || list_any (nat_eq n) others) (not_among n (n + 1) (omega arith) ns rise.1) ∙ none_below others below)
    ∙ rise_once (n + 1) ns others rise.1 (still least (n + 1) le others below) once
  where
    none_below : (ks : List ℕ) → AllByRecursion (λ k. k < least) ks → list_any (nat_eq n) ks ≡ false
    none_below [] h = refl
    none_below (k ∷ ks) h =
        let less = h.0 in
        let above = rise.0 in
        let apart : nat_eq n k ≡ false = grind (arith, nat_tests) in
        ap (λ b. b || list_any (nat_eq n) ks) apart ∙ none_below ks h.1

    still : (low high : ℕ) → low ≤ high → (ks : List ℕ) → AllByRecursion (λ k. k < low) ks → AllByRecursion (λ k. k < high) ks
    still low high le [] h = tt
    still low high le (k ∷ ks) h = (let less = h.0 in omega (arith, le, less), still low high le ks h.1)

-- ---- the numbers of the new objects

abbrev keys : {V : Type 0} → List (ℕ × V) → List ℕ
keys es = map_list (λ e. e.0) es

rise_numbered : {V : Type 0} (first : ℕ) (xs : List V) (ns : List ℕ) → Rise (first + length xs) ns → Rise first (keys (with_numbers_from first xs) ++ ns)
rise_numbered first [] ns rise = rise_from first (first + 0) (omega arith) ns rise
rise_numbered first (x ∷ xs) ns rise =
    let le : first + 1 + length xs ≤ first + length (x ∷ xs) = omega arith in
    (omega arith, rise_numbered (first + 1) xs ns (rise_from (first + 1 + length xs) (first + length (x ∷ xs)) le ns rise))

module _ (origin : Origin) where
  units_rise : (first : ℕ) (parts : List Part) → Rise first (keys (units_made origin first parts))
  units_rise first [] = tt
  units_rise first (part ∷ parts) = by_unit (λ n. units_rise n parts) part.unit
    where
      by_unit : ((n : ℕ) → Rise n (keys (units_made origin n parts))) → (o : Option (List ℕ)) → Rise first (keys (unit_made origin first o ++ units_made origin (first + numbers_for origin o) parts))
      by_unit rest None = rise_from first (first + 1) (omega arith) (keys (units_made origin (first + 1) parts)) (rest (first + 1))
      by_unit rest (Some name) =
          let next = first + (2 + length origin.entries) in
          (omega arith, rise_from (first + 1) next (omega arith) (keys (units_made origin next parts)) (rest next))

  parcels_rise : (first : ℕ) (parts : List Part) → Rise first (keys (parcels_made origin first parts))
  parcels_rise first [] = tt
  parcels_rise first (part ∷ parts) = by_unit (λ n. parcels_rise n parts) part.unit
    where
      by_unit : ((n : ℕ) → Rise n (keys (parcels_made origin n parts))) → (o : Option (List ℕ)) → Rise first (keys (parcel_made origin first part o ++ parcels_made origin (first + numbers_for origin o) parts))
      by_unit rest None = (omega arith, rest (first + 1))
      by_unit rest (Some name) =
          let next = first + (2 + length origin.entries) in
          (omega arith, rise_from (first + 1 + 1) next (omega arith) (keys (parcels_made origin next parts)) (rest next))

  copies_rise : (first : ℕ) (parts : List Part) → Rise first (keys (copies_made origin first parts))
  copies_rise first [] = tt
  copies_rise first (part ∷ parts) = by_unit (λ n. copies_rise n parts) part.unit
    where
      by_unit : ((n : ℕ) → Rise n (keys (copies_made origin n parts))) → (o : Option (List ℕ)) → Rise first (keys (entries_made origin first o ++ copies_made origin (first + numbers_for origin o) parts))
      by_unit rest None = rise_from first (first + 1) (omega arith) (keys (copies_made origin (first + 1) parts)) (rest (first + 1))
      by_unit rest (Some name) =
          let next = first + (2 + length origin.entries) in
          let copies = map_list (in_unit first) origin.entries in
          let others = copies_made origin next parts in
          let long = length-map origin.entries (in_unit first) in
          let le : first + 2 + length copies ≤ next = omega (arith, long) in
          let risen = rise_numbered (first + 2) copies (keys others) (rise_from (first + 2 + length copies) next le (keys others) (rest next)) in
          subst (Rise first) (sym (map-append (λ e. e.0) (with_numbers_from (first + 2) copies) others))
          (rise_from first (first + 2) (omega arith) (keys (with_numbers_from (first + 2) copies) ++ keys others) risen)

-- ascending numbers from a bound are not below it
above_least : {V : Type 0} (least : ℕ) (es : List (ℕ × V)) → Rise least (keys es) → AllByRecursion (λ e. least ≤ e.0) es
above_least least [] rise = tt
above_least least (e ∷ es) rise = (rise.0, above_least least es (rise_from least (e.0 + 1) (let above = rise.0 in omega (arith, above)) (keys es) rise.1))

-- the new parcels have numbers from the next one
pub parcels_above : (r : Register) (source : ℕ) (it : Subdivision) → AllByRecursion (λ e. r.next ≤ e.0) (subdivision_change r source it).put.parcels
parcels_above r source it =
    let origin = origin_of r source it in
    above_least r.next (parcels_made origin r.next (all_parts it)) (parcels_rise origin r.next (all_parts it))

-- a subdivision of an existing parcel writes and ends no key twice
pub subdivision_names_once : (r : Register) (source : ℕ) (it : Subdivision) → IsSound r → has_parcel_in r it.unit it.parcel ≡ true → NamesKeysOnce (subdivision_change r source it)
subdivision_names_once r source it sound parcel = record {
  parties = refl;
  roles = refl;
  members = refl;
  units = rise_once r.next (keys (units_made origin r.next (all_parts it))) [] (units_rise origin r.next (all_parts it)) tt refl;
  parcels = rise_once r.next (keys (parcels_made origin r.next (all_parts it))) (it.parcel ∷ []) (parcels_rise origin r.next (all_parts it)) (found (map.get r.parcels it.parcel) refl parcel, tt) refl;
  rrrs = rise_once r.next (keys (copies_made origin r.next (all_parts it))) [] (copies_rise origin r.next (all_parts it)) tt refl;
  sources = refl;
  mutations = refl;
  mandates = refl;
}
  where
    origin : Origin
    origin = origin_of r source it

    found : (o : Option ParcelRecord) → map.get r.parcels it.parcel ≡ o → option_map_or (λ (p : ParcelRecord). nat_eq p.unit it.unit) o false ≡ true → it.parcel < r.next
    found None e h = absurd (false≢true h)
    found (Some p) e h = (used_bounds r it.parcel (used_from r r.parcels (are_used r (refers r (sound Reference)).numbers).parcels it.parcel p e)).1
