-- A unit gets a new entry that is not a right, and the register stays sound.
use Rattle.std.proofs.Common.{◌≡◌, ℕ, ◌+◌, ◌<◌, ◌≤◌, true, false, cond, ◌&&◌, ◌||◌, not, Option, Some, None, List, [], ◌∷◌, ◌++◌, length, length-append, refl, sym, ap, ◌∙◌, subst, append-nil, arith}
use Rattle.std.specs.Prelude.{filter, nat_eq, nat_lt}
use Rattle.std.specs.List.{filter_map, cons_option}
use Rattle.std.specs.Ordering.{nat_cmp, eq_by_cmp, is_eq}
use Rattle.std.specs.Cmp.{nat_cmp_total, tied_itself}
use Rattle.std.specs.FinMap as map
use Rattle.std.specs.FinMap.{FinMap, nat_cmp-IsAntisymmetric}
use Rattle.std.proofs.lemmas.Bool.Decides.{nat_tests}
use Rattle.std.proofs.lemmas.List.Elements.{filter-append, filter_map-append}
use Rattle.std.proofs.lemmas.Bool.{and_parts, not-false, or_parts}
use Rattle.land_acts.proofs.EndedEntries.{no_share}
use Rattle.land_acts.proofs.Growth.{used_grows, unused_grows, ranks_grow, mutations_stay, AreAnchored, anchored, anchored_back, placed, placed_back}
use Rattle.land_acts.proofs.NewObjects.{below_later, entries-last, below_next}
use Rattle.land_acts.proofs.Numbers.{one_number, lesser_apart, tied_number}
use Rattle.land_acts.specs.Mutations.Planning.{would_exceed_entries}
use Rattle.land_core.proofs.Booleans.{and_false}
use Rattle.land_core.proofs.Reflection.{none_passes, none_at, some_passes, some_at}
use Rattle.land_core.proofs.SoundRegisters.{refers, refers_back, are_used, are_used_back, used_from, unused_from, used_bounds, next_above_zero}
use Rattle.land_core.specs.Entries.{has}
use Rattle.land_core.specs.Soundness.{IsSound, has_unused, exceeds_last_number, is_used, clashes_with_later, is_rank_out_of_range}
use Rattle.land_core.specs.Units.{share_in_unit, share_of, is_right_in, do_clash, are_of_one_type, are_of_one_rank, type_of, rank_of, type_shares, are_whole_or_none, has_parcel, has_owner, parcel_count, rrr_count, has_whole_shares}
use Rattle.land_core.specs.declared.register.Register.{Register}
use Rattle.land_core.specs.declared.rrr.RightType.{RightType}
use Rattle.land_core.specs.declared.rrr.RightType.TheVariants.{Ownership, Lease, Usufruct}
use Rattle.land_core.specs.declared.rrr.RrrRecord.{RrrRecord}
use Rattle.land_core.specs.declared.soundness.Unsound.TheVariants.{Reference, Shares, Group, Bare, Crowded, Twice, Rank, Administrator, Reused, Memory}
use Rattle.land_core.specs.declared.source.SourceRecord.{SourceRecord}
use Rattle.land_fraction.specs.Ratio.{Ratio}

-- ---- a record under a number above all others

module _ {V : Type 0} (m : FinMap nat_cmp V) (k : ℕ) (v : V) where
  pub here : map.get (map.insert m k v) k ≡ Some v
  here = map.get-insert nat_cmp_total m k v k ∙ ap (λ b. cond b (Some v) (map.get m k)) (ap is_eq (tied_itself nat_cmp_total k))

  pub there : (n : ℕ) (w : V) → n < k → map.get m n ≡ Some w → map.get (map.insert m k v) n ≡ Some w
  there n w less is = map.get-insert nat_cmp_total m k v n ∙ ap (λ b. cond b (Some v) (map.get m n)) (lesser_apart n k less) ∙ is

  -- each record is the new one or existed before
  pub each_record : (P : ℕ → V → Type 0) → P k v → ((n : ℕ) (w : V) → map.get m n ≡ Some w → P n w) → (n : ℕ) (w : V) → map.get (map.insert m k v) n ≡ Some w → P n w
  each_record P new old n w is =
      elim (eq_by_cmp nat_cmp n k) as (λ b. eq_by_cmp nat_cmp n k ≡ b → cond b (Some v) (map.get m n) ≡ Some w → P n w) [
        | true ↦ λ at e. subst (λ (x : V). P n x) (same e) (subst (λ (j : ℕ). P j v) (sym (one_number n k at)) new)
        | false ↦ λ apart e. old n w e
      ] refl (sym (map.get-insert nat_cmp_total m k v n) ∙ is)
    where
      same : Some v ≡ Some w → v ≡ w
      same e = cc

-- ---- a new entry that is not a right

-- a register with a new entry and new sources
abbrev pub entered : Register → (number : ℕ) → RrrRecord → (sources : FinMap nat_cmp SourceRecord) → (next : ℕ) → Register
entered r number entry sources next = record r { rrrs = map.insert r.rrrs number entry; sources = sources; next = next }

-- the conditions on the new entry: its number is above all others, its references exist, its unit has space
-- for it, and it is not a right; if it is a mortgage, no other one on the unit has its rank
pub record Enters (r : Register) (number : ℕ) (entry : RrrRecord) (sources : FinMap nat_cmp SourceRecord) (next : ℕ) : Type 0 where
  pub room : exceeds_last_number (entered r number entry sources next) ≡ false
  pub last : r.next ≤ number
  pub below : number < next
  pub numbers : has_unused (entered r number entry sources next) sources ≡ false
  pub sources_stay : (n : ℕ) → has r.sources n ≡ true → has sources n ≡ true
  pub anchored : AreAnchored (entered r number entry sources next) entry
  pub few : would_exceed_entries r entry.unit 1 ≡ false
  pub no_right : type_of entry.class ≡ None
  pub rank : is_rank_out_of_range (entered r number entry sources next) (rank_of entry.class) ≡ false
  pub ranked : (n : ℕ) (e : RrrRecord) → map.get r.rrrs n ≡ Some e → nat_eq e.unit entry.unit ≡ true → are_of_one_rank (rank_of e.class) (rank_of entry.class) ≡ false

no_type_right : (o : Option RightType) → are_of_one_type o None ≡ false
no_type_right (Some type) = refl
no_type_right None = refl

pub no_rank_right : (o : Option ℕ) → are_of_one_rank o None ≡ false
no_rank_right (Some rank) = refl
no_rank_right None = refl

module _ (r : Register) (sound : IsSound r) (number : ℕ) (entry : RrrRecord) (sources : FinMap nat_cmp SourceRecord) (next : ℕ) (h : Enters r number entry sources next) where
  abbrev more : Register
  more = entered r number entry sources next

  grows : r.next ≤ next
  grows = let last = h.last in let below = h.below in omega (arith, last, below)

  rrr_below : (n : ℕ) (e : RrrRecord) → map.get r.rrrs n ≡ Some e → n < number
  rrr_below n e is =
      let less = (used_bounds r n (used_from r r.rrrs (are_used r (refers r (sound Reference)).numbers).rrrs n e is)).1 in
      let last = h.last in
      omega (arith, less, last)

  entries : map.entries more.rrrs ≡ map.entries r.rrrs ++ (number, entry) ∷ []
  entries = entries-last r.rrrs number entry (below_later r.next number h.last (map.entries r.rrrs) (below_next r r.rrrs (are_used r (refers r (sound Reference)).numbers).rrrs))

  -- no type of right gets a share
  shares_stay : (unit : ℕ) (type : RightType) → type_shares more unit type ≡ type_shares r unit type
  shares_stay unit type =
      ap (filter_map (λ e. share_in_unit unit type e.1)) entries
      ∙ filter_map-append (λ e. share_in_unit unit type e.1) (map.entries r.rrrs) ((number, entry) ∷ [])
      ∙ ap (λ it. type_shares r unit type ++ it) nothing
      ∙ append-nil (type_shares r unit type)
    where
      no_share_in : share_in_unit unit type entry ≡ None
      no_share_in = elim (nat_eq entry.unit unit) as (λ b. cond b (share_of type entry.class) None ≡ None) [ true ↦ no_share type entry.class h.no_right | false ↦ refl ]

      nothing : filter_map (λ (e : ℕ × RrrRecord). share_in_unit unit type e.1) ((number, entry) ∷ []) ≡ []
      nothing = ap (λ (o : Option Ratio). cons_option o []) no_share_in

  whole_stays : (unit : ℕ) → has_whole_shares more unit ≡ has_whole_shares r unit
  whole_stays unit =
      ap (λ shares. are_whole_or_none shares && are_whole_or_none (type_shares more unit Lease) && are_whole_or_none (type_shares more unit Usufruct)) (shares_stay unit Ownership)
      ∙ ap (λ shares. are_whole_or_none (type_shares r unit Ownership) && are_whole_or_none shares && are_whole_or_none (type_shares more unit Usufruct)) (shares_stay unit Lease)
      ∙ ap (λ shares. are_whole_or_none (type_shares r unit Ownership) && are_whole_or_none (type_shares r unit Lease) && are_whole_or_none shares) (shares_stay unit Usufruct)

  owner_stays : (unit : ℕ) → has_owner r unit ≡ true → has_owner more unit ≡ true
  owner_stays unit owned =
      let one = some_passes nat_cmp_total nat_cmp-IsAntisymmetric (λ n e. is_right_in unit Ownership e) r.rrrs owned in
      some_at nat_cmp_total nat_cmp-IsAntisymmetric (λ n e. is_right_in unit Ownership e) more.rrrs one.key one.value
      (there r.rrrs number entry one.key one.value (rrr_below one.key one.value one.there) one.there) one.passes

  -- the unit has one more entry, and every other unit has as many as before
  count_more : (unit : ℕ) → nat_lt 256 (rrr_count r unit) ≡ false → nat_lt 256 (rrr_count more unit) ≡ false
  count_more unit before =
      ap (nat_lt 256) counted
      ∙ elim (nat_eq entry.unit unit) as (λ b. nat_eq entry.unit unit ≡ b → nat_lt 256 (rrr_count r unit + length {A = ℕ × RrrRecord} (cond b ((number, entry) ∷ []) [])) ≡ false) [
        | true ↦ λ same. subst (λ (u : ℕ). nat_lt 256 (rrr_count r u + 1) ≡ false) (one_number entry.unit unit (tied_number entry.unit unit ∙ same)) h.few
        | false ↦ λ other. no_more (rrr_count r unit) before
      ] refl
    where
      counted : rrr_count more unit ≡ rrr_count r unit + length {A = ℕ × RrrRecord} (cond (nat_eq entry.unit unit) ((number, entry) ∷ []) [])
      counted =
          ap (λ (es : List (ℕ × RrrRecord)). length (filter (λ e. nat_eq e.1.unit unit) es)) entries
          ∙ ap length (filter-append (λ (e : ℕ × RrrRecord). nat_eq e.1.unit unit) (map.entries r.rrrs) ((number, entry) ∷ []))
          ∙ length-append (filter (λ (e : ℕ × RrrRecord). nat_eq e.1.unit unit) (map.entries r.rrrs)) (filter (λ (e : ℕ × RrrRecord). nat_eq e.1.unit unit) ((number, entry) ∷ []))

      no_more : (n : ℕ) → nat_lt 256 n ≡ false → nat_lt 256 (n + 0) ≡ false
      no_more n h = grind (arith, nat_tests)

  clash_none : (n : ℕ) (e : RrrRecord) → map.get r.rrrs n ≡ Some e → do_clash e entry ≡ false
  clash_none n e is =
      ap (λ o. nat_eq e.unit entry.unit && (nat_eq e.party entry.party && are_of_one_type (type_of e.class) o || are_of_one_rank (rank_of e.class) (rank_of entry.class))) h.no_right
      ∙ ap (λ b. nat_eq e.unit entry.unit && (nat_eq e.party entry.party && b || are_of_one_rank (rank_of e.class) (rank_of entry.class))) (no_type_right (type_of e.class))
      ∙ ap (λ b. nat_eq e.unit entry.unit && (b || are_of_one_rank (rank_of e.class) (rank_of entry.class))) (and_false (nat_eq e.party entry.party))
      ∙ elim (nat_eq e.unit entry.unit) as (λ b. nat_eq e.unit entry.unit ≡ b → (b && are_of_one_rank (rank_of e.class) (rank_of entry.class)) ≡ false) [
        | true ↦ λ here. h.ranked n e is here
        | false ↦ λ other. refl
      ] refl

  -- no entry comes after the new one
  none_later : (m : ℕ) (f : RrrRecord) → m ≤ number → (nat_lt number m && do_clash entry f) ≡ false
  none_later m f le = ap (λ b. b && do_clash entry f) (not_after m number le)
    where
      not_after : (m k : ℕ) → m ≤ k → nat_lt k m ≡ false
      not_after m k le = grind (arith, nat_tests)

  pub entered_is_sound : IsSound (entered r number entry sources next)
  entered_is_sound Memory = refl
  entered_is_sound Reused = sound Reused
  entered_is_sound Group = sound Group
  entered_is_sound Administrator = sound Administrator
  entered_is_sound Reference =
      let before = refers r (sound Reference) in
      let used = are_used r before.numbers in
      let above = next_above_zero r sound in
      let last = h.last in
      let below = h.below in
      let is_in_use : is_used more number ≡ true = grind (arith, nat_tests) in
      refers_back more (record {
        room = h.room;
        numbers = are_used_back more (record {
          parties = unused_grows r more grows r.parties used.parties;
          units = unused_grows r more grows r.units used.units;
          parcels = unused_grows r more grows r.parcels used.parcels;
          rrrs = unused_from more more.rrrs (each_record r.rrrs number entry (λ n e. is_used more n ≡ true) is_in_use (λ n e is. used_grows r more grows n (used_from r r.rrrs used.rrrs n e is)));
          sources = h.numbers;
          mutations = unused_grows r more grows r.mutations used.mutations;
        });
        grants = before.grants;
        members = before.members;
        parcels = placed_back more (λ n p is. let one = placed r before.parcels n p is in (one.0, h.sources_stay p.source one.1));
        rrrs = anchored_back more (each_record r.rrrs number entry (λ n e. AreAnchored more e) h.anchored
            (λ n e is. let one = anchored r before.rrrs n e is in record { unit = one.unit; party = one.party; source = h.sources_stay e.source one.source }));
        mutations = mutations_stay r more refl (λ n there. there) h.sources_stay before.mutations;
        mandates = before.mandates;
      })
  entered_is_sound Shares =
      none_passes nat_cmp_total nat_cmp-IsAntisymmetric (λ n u. u.checked && not (has_whole_shares more n)) r.units
      (λ n u is. ap (λ b. u.checked && not b) (whole_stays n) ∙ none_at nat_cmp_total nat_cmp-IsAntisymmetric (λ n u. u.checked && not (has_whole_shares r n)) r.units n u (sound Shares) is)
  entered_is_sound Bare =
      none_passes nat_cmp_total nat_cmp-IsAntisymmetric (λ n u. not (has_parcel more n && has_owner more n)) r.units
      (λ n u is.
      let had = and_parts (has_parcel r n) (has_owner r n) (not-false _ (none_at nat_cmp_total nat_cmp-IsAntisymmetric (λ n u. not (has_parcel r n && has_owner r n)) r.units n u (sound Bare) is)) in
      ap (λ b. not (b && has_owner more n)) had.0 ∙ ap not (owner_stays n had.1))
  entered_is_sound Crowded =
      none_passes nat_cmp_total nat_cmp-IsAntisymmetric (λ n u. nat_lt 256 (parcel_count more n) || nat_lt 256 (rrr_count more n)) r.units
      (λ n u is.
      let had = or_parts (nat_lt 256 (parcel_count r n)) (nat_lt 256 (rrr_count r n)) (none_at nat_cmp_total nat_cmp-IsAntisymmetric (λ n u. nat_lt 256 (parcel_count r n) || nat_lt 256 (rrr_count r n)) r.units n u (sound Crowded) is) in
      ap (λ b. b || nat_lt 256 (rrr_count more n)) had.0 ∙ count_more n had.1)
  entered_is_sound Twice =
      none_passes nat_cmp_total nat_cmp-IsAntisymmetric (clashes_with_later more) more.rrrs
      (each_record r.rrrs number entry (λ n e. clashes_with_later more n e ≡ false)
      (none_passes nat_cmp_total nat_cmp-IsAntisymmetric (λ m f. nat_lt number m && do_clash entry f) more.rrrs
      (each_record r.rrrs number entry (λ m f. (nat_lt number m && do_clash entry f) ≡ false) (none_later number entry (omega arith))
      (λ m f at. let less = rrr_below m f at in none_later m f (omega (arith, less)))))
      (λ n e is.
      let alone = none_at nat_cmp_total nat_cmp-IsAntisymmetric (clashes_with_later r) r.rrrs n e (sound Twice) is in
      none_passes nat_cmp_total nat_cmp-IsAntisymmetric (λ m f. nat_lt n m && do_clash e f) more.rrrs
      (each_record r.rrrs number entry (λ m f. (nat_lt n m && do_clash e f) ≡ false)
      (ap (λ b. nat_lt n number && b) (clash_none n e is) ∙ and_false (nat_lt n number))
      (λ m f at. none_at nat_cmp_total nat_cmp-IsAntisymmetric (λ m f. nat_lt n m && do_clash e f) r.rrrs m f alone at))))
  entered_is_sound Rank =
      none_passes nat_cmp_total nat_cmp-IsAntisymmetric (λ n e. is_rank_out_of_range more (rank_of e.class)) more.rrrs
      (each_record r.rrrs number entry (λ n e. is_rank_out_of_range more (rank_of e.class) ≡ false) h.rank
      (λ n e is. none_at nat_cmp_total nat_cmp-IsAntisymmetric (λ n e. is_rank_out_of_range more (rank_of e.class)) r.rrrs n e (ranks_grow r more grows r.rrrs (sound Rank)) is))
