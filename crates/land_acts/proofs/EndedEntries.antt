-- An entry that is not a right ends, and the register stays sound.
use Rattle.std.proofs.Common.{◌≡◌, ℕ, ◌≤◌, Bool, true, false, cond, ◌&&◌, ◌||◌, not, Option, Some, None, List, [], ◌∷◌, length, refl, sym, ap, ◌∙◌, subst, arith}
use Rattle.std.specs.Prelude.{filter, nat_eq, nat_lt}
use Rattle.std.specs.List.{filter_map, cons_option, AllByRecursion}
use Rattle.std.specs.Ordering.{nat_cmp, eq_by_cmp}
use Rattle.std.specs.Cmp.{nat_cmp_total, eq_by_cmp_equiv}
use Rattle.std.specs.declared.cmp.Ordering.TheVariants.{Equal}
use Rattle.std.specs.FinMap as map
use Rattle.std.specs.FinMap.{FinMap, nat_cmp-IsAntisymmetric}
use Rattle.std.specs.FinMap.Entries.{find-where_key, is_sorted-where_key}
use Rattle.std.proofs.lemmas.Bool.{false≢true, and_parts, not-false, or_parts}
use Rattle.std.proofs.lemmas.Bool.Decides.{nat_tests}
use Rattle.land_acts.proofs.Growth.{anchored, anchored_back}
use Rattle.land_acts.proofs.Numbers.{one_number}
use Rattle.land_core.proofs.FiniteMaps.{none_is_not_some}
use Rattle.land_core.proofs.Reflection.{each_there, none_passes, none_at, some_passes, some_at}
use Rattle.land_core.proofs.SoundRegisters.{refers, refers_back, are_used, are_used_back, used_from, unused_from}
use Rattle.land_core.specs.Soundness.{IsSound, clashes_with_later, is_rank_out_of_range}
use Rattle.land_core.specs.Units.{share_in_unit, share_of, is_right_in, is_right_of, do_clash, rank_of, type_of, type_shares, are_whole_or_none, has_parcel, has_owner, parcel_count, rrr_count, has_whole_shares}
use Rattle.land_core.specs.declared.register.Register.{Register}
use Rattle.land_core.specs.declared.rrr.Class.{Class}
use Rattle.land_core.specs.declared.rrr.Class.TheVariants.{Right, Restriction, Responsibility, Mortgage}
use Rattle.land_core.specs.declared.rrr.RightType.{RightType}
use Rattle.land_core.specs.declared.rrr.RightType.TheVariants.{Ownership, Lease, Usufruct}
use Rattle.land_core.specs.declared.rrr.RrrRecord.{RrrRecord}
use Rattle.land_core.specs.declared.soundness.Unsound.TheVariants.{Reference, Shares, Group, Bare, Crowded, Twice, Rank, Administrator, Reused, Memory}

-- ---- the entries without a key

module _ {V : Type 0} (m : FinMap nat_cmp V) (k : ℕ) where
  pub removed_before : (n : ℕ) (v : V) → map.get (map.remove m k) n ≡ Some v → map.get m n ≡ Some v
  removed_before n v is =
      elim (eq_by_cmp nat_cmp n k) as (λ b. cond b None (map.get m n) ≡ Some v → map.get m n ≡ Some v) [
        | true ↦ λ e. absurd (none_is_not_some e)
        | false ↦ λ e. e
      ] (sym (map.get-remove nat_cmp_total m k n) ∙ is)

  pub removed_stays : (n : ℕ) (v : V) → eq_by_cmp nat_cmp n k ≡ false → map.get m n ≡ Some v → map.get (map.remove m k) n ≡ Some v
  removed_stays n v apart is = map.get-remove nat_cmp_total m k n ∙ ap (λ b. cond b None (map.get m n)) apart ∙ is

  -- the other entries keep their order
  pub entries_removed : map.entries (map.remove m k) ≡ filter (λ e. not (eq_by_cmp nat_cmp k e.0)) (map.entries m)
  entries_removed =
      let sorted = is_sorted-where_key nat_cmp (λ x. not (eq_by_cmp nat_cmp k x)) (map.entries m) (map.entries_sorted m) in
      let left = filter (λ e. not (eq_by_cmp nat_cmp k e.0)) (map.entries m) in
      let same : map.remove m k ≡ map.from_sorted left = map.same_map nat_cmp_total nat_cmp-IsAntisymmetric _ _ (λ q.
      map.get-remove nat_cmp_total m k q ∙ turned q
      ∙ sym (map.get-from_sorted nat_cmp left q sorted ∙ find-where_key nat_cmp (λ x. not (eq_by_cmp nat_cmp k x)) q (alike q) (map.entries m) ∙ ap (λ o. cond (not (eq_by_cmp nat_cmp k q)) o None) (sym (map.get-entries m q)))) in
      ap map.entries same ∙ map.entries-from_sorted nat_cmp left sorted
    where
      alike : (q x : ℕ) → nat_cmp q x ≡ Equal → not (eq_by_cmp nat_cmp k x) ≡ not (eq_by_cmp nat_cmp k q)
      alike q x tied = ap (λ (n : ℕ). not (eq_by_cmp nat_cmp k n)) (sym (nat_cmp-IsAntisymmetric q x tied))

      turned : (q : ℕ) → cond (eq_by_cmp nat_cmp q k) None (map.get m q) ≡ cond (not (eq_by_cmp nat_cmp k q)) (map.get m q) None
      turned q =
          ap (λ b. cond b None (map.get m q)) ((eq_by_cmp_equiv nat_cmp_total).symm q k)
          ∙ elim (eq_by_cmp nat_cmp k q) as (λ b. cond b None (map.get m q) ≡ cond (not b) (map.get m q) None) [ true ↦ refl | false ↦ refl ]

-- values taken only from the remaining items
pub filter_map-kept : {X Y : Type 0} (h : X → Option Y) (kept : X → Bool) (xs : List X) → AllByRecursion (λ x. kept x ≡ false → h x ≡ None) xs
    → filter_map h (filter kept xs) ≡ filter_map h xs
filter_map-kept h kept [] all = refl
filter_map-kept {X} {Y} h kept (x ∷ xs) all =
    let rest = filter_map-kept h kept xs all.1 in
    elim (kept x) as (λ b. kept x ≡ b → filter_map h (cond b (x ∷ filter kept xs) (filter kept xs)) ≡ cons_option (h x) (filter_map h xs)) [
      | true ↦ λ stays. ap (cons_option (h x)) rest
      | false ↦ λ ends. rest ∙ sym (ap (λ (o : Option Y). cons_option o (filter_map h xs)) (all.0 ends))
    ] refl

-- items that satisfy a condition remain, if the condition implies that they remain
pub filter_within : {X : Type 0} (p q : X → Bool) → ((x : X) → p x ≡ true → q x ≡ true) → (xs : List X) → filter p (filter q xs) ≡ filter p xs
filter_within p q implies [] = refl
filter_within {X} p q implies (x ∷ xs) =
    elim (q x) as (λ b. q x ≡ b → filter p (cond b (x ∷ filter q xs) (filter q xs)) ≡ cond (p x) (x ∷ filter p xs) (filter p xs)) [
      | true ↦ λ kept. ap (λ (it : List X). cond (p x) (x ∷ it) it) (filter_within p q implies xs)
      | false ↦ λ lost. filter_within p q implies xs ∙ ap (λ b. cond b (x ∷ filter p xs) (filter p xs)) (sym (not_passed lost))
    ] refl
  where
    not_passed : q x ≡ false → p x ≡ false
    not_passed lost = elim (p x) as (λ b. p x ≡ b → b ≡ false) [ true ↦ λ passed. absurd (false≢true (sym lost ∙ implies x passed)) | false ↦ λ failed. refl ] refl

-- no more of the remaining items satisfy a condition than of all
pub fewer : {X : Type 0} (p q : X → Bool) (xs : List X) → length (filter p (filter q xs)) ≤ length (filter p xs)
fewer p q [] = omega arith
fewer {X} p q (x ∷ xs) =
    let rest = fewer p q xs in
    elim (q x) as (λ b. length (filter p (cond b (x ∷ filter q xs) (filter q xs))) ≤ length (cond (p x) (x ∷ filter p xs) (filter p xs))) [
      | true ↦ elim (p x) as (λ c. length (cond c (x ∷ filter p (filter q xs)) (filter p (filter q xs))) ≤ length (cond c (x ∷ filter p xs) (filter p xs))) [ true ↦ omega (arith, rest) | false ↦ rest ]
      | false ↦ elim (p x) as (λ c. length (filter p (filter q xs)) ≤ length (cond c (x ∷ filter p xs) (filter p xs))) [ true ↦ omega (arith, rest) | false ↦ rest ]
    ]

-- ---- an entry that is not a right

pub no_share : (type : RightType) (class : Class) → type_of class ≡ None → share_of type class ≡ None
no_share type (Right other share) h = absurd (none_is_not_some (sym h))
no_share type (Restriction words) h = refl
no_share type (Responsibility words) h = refl
no_share type (Mortgage amount currency rank) h = refl

no_right : (type : RightType) (class : Class) → type_of class ≡ None → is_right_of type class ≡ false
no_right type (Right other share) h = absurd (none_is_not_some (sym h))
no_right type (Restriction words) h = refl
no_right type (Responsibility words) h = refl
no_right type (Mortgage amount currency rank) h = refl

module _ (r : Register) (number : ℕ) (no_type : (e : RrrRecord) → map.get r.rrrs number ≡ Some e → type_of e.class ≡ None) where
  abbrev left : Register
  left = record r { rrrs = map.remove r.rrrs number }

  -- the entry that ends is not a right
  ends_none : (n : ℕ) (e : RrrRecord) → eq_by_cmp nat_cmp n number ≡ true → map.get r.rrrs n ≡ Some e → type_of e.class ≡ None
  ends_none n e at is = no_type e (sym (ap (map.get r.rrrs) (one_number n number at)) ∙ is)

  shares_stay : (unit : ℕ) (type : RightType) → type_shares left unit type ≡ type_shares r unit type
  shares_stay unit type =
      ap (filter_map (λ e. share_in_unit unit type e.1)) (entries_removed r.rrrs number)
      ∙ filter_map-kept (λ e. share_in_unit unit type e.1) (λ e. not (eq_by_cmp nat_cmp number e.0)) (map.entries r.rrrs) (none_given (map.entries r.rrrs) (each_there nat_cmp_total nat_cmp-IsAntisymmetric r.rrrs))
    where
      nothing : (e : RrrRecord) → type_of e.class ≡ None → share_in_unit unit type e ≡ None
      nothing e h = elim (nat_eq e.unit unit) as (λ b. cond b (share_of type e.class) None ≡ None) [ true ↦ no_share type e.class h | false ↦ refl ]

      none_given : (es : List (ℕ × RrrRecord)) → AllByRecursion (λ e. map.get r.rrrs e.0 ≡ Some e.1) es → AllByRecursion (λ e. not (eq_by_cmp nat_cmp number e.0) ≡ false → share_in_unit unit type e.1 ≡ None) es
      none_given [] h = tt
      none_given (e ∷ es) h = (λ at. nothing e.1 (ends_none e.0 e.1 ((eq_by_cmp_equiv nat_cmp_total).symm e.0 number ∙ not-false _ at) h.0), none_given es h.1)

  owner_stays : (unit : ℕ) → has_owner r unit ≡ true → has_owner left unit ≡ true
  owner_stays unit owned =
      let one = some_passes nat_cmp_total nat_cmp-IsAntisymmetric (λ n e. is_right_in unit Ownership e) r.rrrs owned in
      some_at nat_cmp_total nat_cmp-IsAntisymmetric (λ n e. is_right_in unit Ownership e) (map.remove r.rrrs number) one.key one.value
      (removed_stays r.rrrs number one.key one.value (other one.key one.value one.there one.passes) one.there) one.passes
    where
      other : (n : ℕ) (e : RrrRecord) → map.get r.rrrs n ≡ Some e → is_right_in unit Ownership e ≡ true → eq_by_cmp nat_cmp n number ≡ false
      other n e is right = elim (eq_by_cmp nat_cmp n number) as (λ b. eq_by_cmp nat_cmp n number ≡ b → b ≡ false) [
        | true ↦ λ at. absurd (false≢true (sym (no_right Ownership e.class (ends_none n e at is)) ∙ (and_parts _ _ right).1))
        | false ↦ λ apart. refl
      ] refl

  fewer_entries : (unit : ℕ) → rrr_count left unit ≤ rrr_count r unit
  fewer_entries unit =
      subst (λ (es : List (ℕ × RrrRecord)). length (filter (λ e. nat_eq e.1.unit unit) es) ≤ rrr_count r unit) (sym (entries_removed r.rrrs number))
      (fewer (λ e. nat_eq e.1.unit unit) (λ e. not (eq_by_cmp nat_cmp number e.0)) (map.entries r.rrrs))

  pub ended_is_sound : IsSound r → IsSound (record r { rrrs = map.remove r.rrrs number })
  ended_is_sound sound Memory = refl
  ended_is_sound sound Reused = sound Reused
  ended_is_sound sound Group = sound Group
  ended_is_sound sound Administrator = sound Administrator
  ended_is_sound sound Reference =
      let before = refers r (sound Reference) in
      let used = are_used r before.numbers in
      refers_back left (record {
        room = before.room;
        numbers = are_used_back left (record {
          parties = used.parties;
          units = used.units;
          parcels = used.parcels;
          rrrs = unused_from left (map.remove r.rrrs number) (λ n e is. used_from r r.rrrs used.rrrs n e (removed_before r.rrrs number n e is));
          sources = used.sources;
          mutations = used.mutations;
        });
        grants = before.grants;
        members = before.members;
        parcels = before.parcels;
        rrrs = anchored_back left (λ n e is.
            let one = anchored r before.rrrs n e (removed_before r.rrrs number n e is) in
            record { unit = one.unit; party = one.party; source = one.source });
        mutations = before.mutations;
        mandates = before.mandates;
      })
  ended_is_sound sound Shares =
      none_passes nat_cmp_total nat_cmp-IsAntisymmetric (λ n u. u.checked && not (has_whole_shares left n)) r.units
      (λ n u is. ap (λ b. u.checked && not b) (whole_stays n) ∙ none_at nat_cmp_total nat_cmp-IsAntisymmetric (λ n u. u.checked && not (has_whole_shares r n)) r.units n u (sound Shares) is)
    where
      whole_stays : (unit : ℕ) → has_whole_shares left unit ≡ has_whole_shares r unit
      whole_stays unit =
          ap (λ shares. are_whole_or_none shares && are_whole_or_none (type_shares left unit Lease) && are_whole_or_none (type_shares left unit Usufruct)) (shares_stay unit Ownership)
          ∙ ap (λ shares. are_whole_or_none (type_shares r unit Ownership) && are_whole_or_none shares && are_whole_or_none (type_shares left unit Usufruct)) (shares_stay unit Lease)
          ∙ ap (λ shares. are_whole_or_none (type_shares r unit Ownership) && are_whole_or_none (type_shares r unit Lease) && are_whole_or_none shares) (shares_stay unit Usufruct)
  ended_is_sound sound Bare =
      none_passes nat_cmp_total nat_cmp-IsAntisymmetric (λ n u. not (has_parcel left n && has_owner left n)) r.units
      (λ n u is.
      let had = and_parts (has_parcel r n) (has_owner r n) (not-false _ (none_at nat_cmp_total nat_cmp-IsAntisymmetric (λ n u. not (has_parcel r n && has_owner r n)) r.units n u (sound Bare) is)) in
      ap (λ b. not (b && has_owner left n)) had.0 ∙ ap not (owner_stays n had.1))
  ended_is_sound sound Crowded =
      none_passes nat_cmp_total nat_cmp-IsAntisymmetric (λ n u. nat_lt 256 (parcel_count left n) || nat_lt 256 (rrr_count left n)) r.units
      (λ n u is.
      let had = or_parts (nat_lt 256 (parcel_count r n)) (nat_lt 256 (rrr_count r n)) (none_at nat_cmp_total nat_cmp-IsAntisymmetric (λ n u. nat_lt 256 (parcel_count r n) || nat_lt 256 (rrr_count r n)) r.units n u (sound Crowded) is) in
      ap (λ b. b || nat_lt 256 (rrr_count left n)) had.0 ∙ not_more (rrr_count left n) (rrr_count r n) (fewer_entries n) had.1)
    where
      not_more : (a b : ℕ) → a ≤ b → nat_lt 256 b ≡ false → nat_lt 256 a ≡ false
      not_more a b less h = grind (arith, nat_tests)
  ended_is_sound sound Twice =
      none_passes nat_cmp_total nat_cmp-IsAntisymmetric (clashes_with_later left) (map.remove r.rrrs number)
      (λ n e is.
      let alone = none_at nat_cmp_total nat_cmp-IsAntisymmetric (clashes_with_later r) r.rrrs n e (sound Twice) (removed_before r.rrrs number n e is) in
      none_passes nat_cmp_total nat_cmp-IsAntisymmetric (λ m f. nat_lt n m && do_clash e f) (map.remove r.rrrs number)
      (λ m f at. none_at nat_cmp_total nat_cmp-IsAntisymmetric (λ m f. nat_lt n m && do_clash e f) r.rrrs m f alone (removed_before r.rrrs number m f at)))
  ended_is_sound sound Rank =
      none_passes nat_cmp_total nat_cmp-IsAntisymmetric (λ n e. is_rank_out_of_range left (rank_of e.class)) (map.remove r.rrrs number)
      (λ n e is. none_at nat_cmp_total nat_cmp-IsAntisymmetric (λ n e. is_rank_out_of_range r (rank_of e.class)) r.rrrs n e (sound Rank) (removed_before r.rrrs number n e is))
