-- A parcel is added to a unit that has space for it, because another one of the unit ends or because it has
-- fewer than 256; the register stays sound.
use Rattle.std.proofs.Common.{◌≡◌, ℕ, ◌+◌, ◌<◌, ◌≤◌, Bool, true, false, cond, ◌&&◌, ◌||◌, not, Some, List, [], ◌∷◌, ◌++◌, length, length-append, refl, sym, ap, ◌∙◌, subst, arith}
use Rattle.std.specs.Prelude.{filter, nat_eq, nat_lt}
use Rattle.std.specs.Ordering.{nat_cmp, eq_by_cmp}
use Rattle.std.specs.Cmp.{nat_cmp_total}
use Rattle.std.specs.FinMap as map
use Rattle.std.specs.FinMap.{FinMap, nat_cmp-IsAntisymmetric}
use Rattle.std.proofs.lemmas.Bool.{false≢true, and_parts, not-false, or_parts}
use Rattle.std.proofs.lemmas.Bool.Decides.{nat_tests}
use Rattle.std.proofs.lemmas.List.Elements.{filter-append}
use Rattle.std.proofs.lemmas.Cmp.{nat_eq_equiv}
use Rattle.land_acts.proofs.EndedEntries.{removed_before, removed_stays, entries_removed, fewer}
use Rattle.land_acts.proofs.EnteredEntries.{here, there, each_record}
use Rattle.land_acts.proofs.Growth.{used_grows, unused_grows, ranks_grow, mutations_stay, placed, placed_back}
use Rattle.land_acts.proofs.NewObjects.{below_next, entries-last}
use Rattle.land_acts.proofs.Numbers.{one_number, tied_number}
use Rattle.land_acts.specs.Mutations.Planning.{runs_out_of_numbers}
use Rattle.land_acts.specs.Mutations.Subdividing.{count_other_parcels}
use Rattle.land_core.proofs.Booleans.{and_false, or_nothing}
use Rattle.land_core.proofs.Reflection.{none_passes, none_at, some_passes, some_at}
use Rattle.land_core.proofs.SoundRegisters.{refers, refers_back, are_used, are_used_back, used_from, unused_from, used_bounds, next_above_zero}
use Rattle.land_core.specs.Entries.{has, count_where}
use Rattle.land_core.specs.Mergers.{lists_number}
use Rattle.land_core.specs.Soundness.{IsSound, is_used}
use Rattle.land_core.specs.Units.{has_parcel, has_owner, parcel_count, rrr_count}
use Rattle.land_core.specs.declared.parcel.ParcelRecord.{ParcelRecord}
use Rattle.land_core.specs.declared.register.Register.{Register}
use Rattle.land_core.specs.declared.soundness.Unsound.TheVariants.{Reference, Shares, Group, Bare, Crowded, Twice, Rank, Administrator, Reused, Memory}

-- the number of parcels of a unit in a map
abbrev pub parcels_in : FinMap nat_cmp ParcelRecord → (unit : ℕ) → ℕ
parcels_in parcels unit = count_where (λ n p. nat_eq p.unit unit) parcels

-- the remaining parcels of a register: those of all units but one, and of that one no more than before
pub record AreLeft (r : Register) (unit : ℕ) (left : FinMap nat_cmp ParcelRecord) : Type 0 where
  pub before : (n : ℕ) (p : ParcelRecord) → map.get left n ≡ Some p → map.get r.parcels n ≡ Some p
  pub stay : (n : ℕ) (p : ParcelRecord) → map.get r.parcels n ≡ Some p → nat_eq p.unit unit ≡ false → map.get left n ≡ Some p
  pub fewer : (n : ℕ) → parcels_in left n ≤ parcel_count r n

-- all parcels remain if none ends
pub all_left : (r : Register) (unit : ℕ) → AreLeft r unit r.parcels
all_left r unit = record { before = λ n p is. is; stay = λ n p is other. is; fewer = λ n. omega arith }

-- a register with the remaining parcels and one more, under the next number
abbrev pub parcelled : Register → FinMap nat_cmp ParcelRecord → ParcelRecord → Register
parcelled r left parcel = record r { parcels = map.insert left r.next parcel; next = r.next + 1 }

module _ (r : Register) (sound : IsSound r) (left : FinMap nat_cmp ParcelRecord) (parcel : ParcelRecord) (are_left : AreLeft r parcel.unit left) where
  abbrev more : Register
  more = parcelled r left parcel

  grows : r.next ≤ r.next + 1
  grows = omega arith

  parcel_below : (n : ℕ) (p : ParcelRecord) → map.get left n ≡ Some p → n < r.next
  parcel_below n p is = (used_bounds r n (used_from r r.parcels (are_used r (refers r (sound Reference)).numbers).parcels n p (are_left.before n p is))).1

  entries : map.entries more.parcels ≡ map.entries left ++ (r.next, parcel) ∷ []
  entries = entries-last left r.next parcel (below_next r left (unused_from r left (λ n p is. used_from r r.parcels (are_used r (refers r (sound Reference)).numbers).parcels n p (are_left.before n p is))))

  counted : (unit : ℕ) → parcel_count more unit ≡ parcels_in left unit + length {A = ℕ × ParcelRecord} (cond (nat_eq parcel.unit unit) ((r.next, parcel) ∷ []) [])
  counted unit =
      ap (λ (es : List (ℕ × ParcelRecord)). length (filter (λ e. nat_eq e.1.unit unit) es)) entries
      ∙ ap length (filter-append (λ (e : ℕ × ParcelRecord). nat_eq e.1.unit unit) (map.entries left) ((r.next, parcel) ∷ []))
      ∙ length-append (filter (λ (e : ℕ × ParcelRecord). nat_eq e.1.unit unit) (map.entries left)) (filter (λ (e : ℕ × ParcelRecord). nat_eq e.1.unit unit) ((r.next, parcel) ∷ []))

  -- its unit has one parcel more than remained
  pub one_more : parcel_count (parcelled r left parcel) parcel.unit ≡ parcels_in left parcel.unit + 1
  one_more = counted parcel.unit ∙ ap (λ b. parcels_in left parcel.unit + length {A = ℕ × ParcelRecord} (cond b ((r.next, parcel) ∷ []) [])) (nat_eq_equiv.refl parcel.unit)

  few : parcels_in left parcel.unit + 1 ≤ 256 → (unit : ℕ) → nat_lt 256 (parcel_count r unit) ≡ false → nat_lt 256 (parcel_count more unit) ≡ false
  few room unit before =
      ap (nat_lt 256) (counted unit)
      ∙ elim (nat_eq parcel.unit unit) as (λ b. nat_eq parcel.unit unit ≡ b → nat_lt 256 (parcels_in left unit + length {A = ℕ × ParcelRecord} (cond b ((r.next, parcel) ∷ []) [])) ≡ false) [
        | true ↦ λ same. subst (λ (u : ℕ). nat_lt 256 (parcels_in left u + 1) ≡ false) (one_number parcel.unit unit (tied_number parcel.unit unit ∙ same)) (within (parcels_in left parcel.unit) room)
        | false ↦ λ other. not_more (parcels_in left unit) (parcel_count r unit) (are_left.fewer unit) before
      ] refl
    where
      within : (n : ℕ) → n + 1 ≤ 256 → nat_lt 256 (n + 1) ≡ false
      within n le = grind (arith, nat_tests)

      not_more : (n m : ℕ) → n ≤ m → nat_lt 256 m ≡ false → nat_lt 256 (n + 0) ≡ false
      not_more n m le h = grind (arith, nat_tests)

  -- each unit that had a parcel has one
  parcel_stays : (unit : ℕ) → has_parcel r unit ≡ true → has_parcel more unit ≡ true
  parcel_stays unit had =
      elim (nat_eq parcel.unit unit) as (λ b. nat_eq parcel.unit unit ≡ b → has_parcel more unit ≡ true) [
        | true ↦ λ same. some_at nat_cmp_total nat_cmp-IsAntisymmetric (λ n p. nat_eq p.unit unit) more.parcels r.next parcel (here left r.next parcel) same
        | false ↦ λ other.
            let one = some_passes nat_cmp_total nat_cmp-IsAntisymmetric (λ n p. nat_eq p.unit unit) r.parcels had in
            let is_left = are_left.stay one.key one.value one.there (apart one.value.unit unit one.passes other) in
            some_at nat_cmp_total nat_cmp-IsAntisymmetric (λ n p. nat_eq p.unit unit) more.parcels one.key one.value
            (there left r.next parcel one.key one.value (parcel_below one.key one.value is_left) is_left) one.passes
      ] refl
    where
      apart : (a unit : ℕ) → nat_eq a unit ≡ true → nat_eq parcel.unit unit ≡ false → nat_eq a parcel.unit ≡ false
      apart a unit same other = grind (arith, nat_tests)

  pub parcelled_is_sound : has r.units parcel.unit ≡ true → has r.sources parcel.source ≡ true → runs_out_of_numbers r 1 ≡ false → parcels_in left parcel.unit + 1 ≤ 256 → IsSound (parcelled r left parcel)
  parcelled_is_sound unit source room fits Memory = refl
  parcelled_is_sound unit source room fits Shares = sound Shares
  parcelled_is_sound unit source room fits Group = sound Group
  parcelled_is_sound unit source room fits Twice = sound Twice
  parcelled_is_sound unit source room fits Reused = sound Reused
  parcelled_is_sound unit source room fits Administrator = sound Administrator
  parcelled_is_sound unit source room fits Rank = ranks_grow r more grows r.rrrs (sound Rank)
  parcelled_is_sound unit source room fits Reference =
      let before = refers r (sound Reference) in
      let used = are_used r before.numbers in
      let above = next_above_zero r sound in
      let is_in_use : is_used more r.next ≡ true = grind (arith, nat_tests) in
      refers_back more (record {
        room = room;
        numbers = are_used_back more (record {
          parties = unused_grows r more grows r.parties used.parties;
          units = unused_grows r more grows r.units used.units;
          parcels = unused_from more more.parcels (each_record left r.next parcel (λ n p. is_used more n ≡ true) is_in_use
              (λ n p is. used_grows r more grows n (used_from r r.parcels used.parcels n p (are_left.before n p is))));
          rrrs = unused_grows r more grows r.rrrs used.rrrs;
          sources = unused_grows r more grows r.sources used.sources;
          mutations = unused_grows r more grows r.mutations used.mutations;
        });
        grants = before.grants;
        members = before.members;
        parcels = placed_back more (each_record left r.next parcel (λ n p. (has r.units p.unit ≡ true) × (has r.sources p.source ≡ true)) (unit, source)
            (λ n p is. placed r before.parcels n p (are_left.before n p is)));
        rrrs = before.rrrs;
        mutations = mutations_stay r more refl (λ n there. there) (λ n there. there) before.mutations;
        mandates = before.mandates;
      })
  parcelled_is_sound unit source room fits Bare =
      none_passes nat_cmp_total nat_cmp-IsAntisymmetric (λ n u. not (has_parcel more n && has_owner more n)) r.units
      (λ n u is.
      let had = and_parts (has_parcel r n) (has_owner r n) (not-false _ (none_at nat_cmp_total nat_cmp-IsAntisymmetric (λ n u. not (has_parcel r n && has_owner r n)) r.units n u (sound Bare) is)) in
      ap (λ b. not (b && has_owner more n)) (parcel_stays n had.0) ∙ ap not had.1)
  parcelled_is_sound unit source room fits Crowded =
      none_passes nat_cmp_total nat_cmp-IsAntisymmetric (λ n u. nat_lt 256 (parcel_count more n) || nat_lt 256 (rrr_count more n)) r.units
      (λ n u is.
      let had = or_parts (nat_lt 256 (parcel_count r n)) (nat_lt 256 (rrr_count r n)) (none_at nat_cmp_total nat_cmp-IsAntisymmetric (λ n u. nat_lt 256 (parcel_count r n) || nat_lt 256 (rrr_count r n)) r.units n u (sound Crowded) is) in
      ap (λ b. b || nat_lt 256 (rrr_count more n)) (few fits n had.0) ∙ had.1)

-- ---- a parcel of the unit ends

-- an item of the filtered list that satisfies a condition satisfies both
filter-filter : {X : Type 0} (p q both : X → Bool) → ((x : X) → both x ≡ (p x && q x)) → (xs : List X) → filter p (filter q xs) ≡ filter both xs
filter-filter p q both is [] = refl
filter-filter {X} p q both is (x ∷ xs) =
    let rest = filter-filter p q both is xs in
    let ends : (b : Bool) → both x ≡ b → cond b (x ∷ filter both xs) (filter both xs) ≡ filter both (x ∷ xs) = λ b at. sym (ap (λ c. cond c (x ∷ filter both xs) (filter both xs)) at) in
    elim (q x) as (λ b. both x ≡ (p x && b) → filter p (cond b (x ∷ filter q xs) (filter q xs)) ≡ filter both (x ∷ xs)) [
      | true ↦ λ at. elim (p x) as (λ c. both x ≡ (c && true) → cond c (x ∷ filter p (filter q xs)) (filter p (filter q xs)) ≡ filter both (x ∷ xs)) [
        | true ↦ λ at. ap (λ it. x ∷ it) rest ∙ ends true at
        | false ↦ λ at. rest ∙ ends false at
      ] at
      | false ↦ λ at. rest ∙ ends false (at ∙ and_false (p x))
    ] (is x)

module _ (r : Register) (unit ended : ℕ) where
  -- the remaining parcels are all except the one that ends
  pub left_beside : parcels_in (map.remove r.parcels ended) unit ≡ count_other_parcels r unit (ended ∷ [])
  left_beside =
      ap (λ (es : List (ℕ × ParcelRecord)). length (filter (λ e. nat_eq e.1.unit unit) es)) (entries_removed r.parcels ended)
      ∙ ap length (filter-filter (λ (e : ℕ × ParcelRecord). nat_eq e.1.unit unit) (λ e. not (eq_by_cmp nat_cmp ended e.0)) (λ e. nat_eq e.1.unit unit && not (lists_number (ended ∷ []) e.0))
      (λ e. ap (λ b. nat_eq e.1.unit unit && not b) (alone e.0)) (map.entries r.parcels))
    where
      alone : (n : ℕ) → lists_number (ended ∷ []) n ≡ eq_by_cmp nat_cmp ended n
      alone n = or_nothing (nat_eq ended n) ∙ sym (tied_number ended n)

  pub one_ends : (parcel : ParcelRecord) → map.get r.parcels ended ≡ Some parcel → nat_eq parcel.unit unit ≡ true → AreLeft r unit (map.remove r.parcels ended)
  one_ends parcel is in_unit = record {
    before = removed_before r.parcels ended;
    stay = λ n p at other. removed_stays r.parcels ended n p (apart n p at other) at;
    fewer = λ n. subst (λ (es : List (ℕ × ParcelRecord)). length (filter (λ e. nat_eq e.1.unit n) es) ≤ parcel_count r n) (sym (entries_removed r.parcels ended))
        (fewer (λ e. nat_eq e.1.unit n) (λ e. not (eq_by_cmp nat_cmp ended e.0)) (map.entries r.parcels));
  }
    where
      one : (p : ParcelRecord) → Some parcel ≡ Some p → parcel ≡ p
      one p e = cc

      apart : (n : ℕ) (p : ParcelRecord) → map.get r.parcels n ≡ Some p → nat_eq p.unit unit ≡ false → eq_by_cmp nat_cmp n ended ≡ false
      apart n p at other =
          elim (eq_by_cmp nat_cmp n ended) as (λ b. eq_by_cmp nat_cmp n ended ≡ b → b ≡ false) [
            | true ↦ λ same.
                let it = one p (sym is ∙ sym (ap (map.get r.parcels) (one_number n ended same)) ∙ at) in
                absurd (false≢true (sym other ∙ sym (ap (λ (p : ParcelRecord). nat_eq p.unit unit) it) ∙ in_unit))
            | false ↦ λ differs. refl
          ] refl
