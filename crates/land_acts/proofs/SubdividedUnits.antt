-- A new unit gets the next number, with a parcel and with copies of the entries of a unit; the register stays
-- sound.
use Rattle.std.proofs.Common.{◌≡◌, ℕ, ◌+◌, ◌<◌, ◌≤◌, Bool, true, false, cond, ◌&&◌, ◌||◌, not, Some, None, List, [], ◌∷◌, ◌++◌, length, length-append, refl, sym, ap, ◌∙◌, append-nil, arith}
use Rattle.std.specs.Prelude.{filter, is_some, nat_eq, nat_lt, Option, map as map_list}
use Rattle.std.specs.List.{list_any, AllByRecursion}
use Rattle.std.specs.Cmp.{nat_cmp_total}
use Rattle.std.specs.FinMap as map
use Rattle.std.specs.FinMap.{nat_cmp-IsAntisymmetric}
use Rattle.std.proofs.lemmas.Bool.{false≢true, and_parts, not-false, or_parts}
use Rattle.std.proofs.lemmas.Bool.Decides.{nat_tests}
use Rattle.std.proofs.lemmas.List.{length-map}
use Rattle.std.proofs.lemmas.List.Elements.{filter-append}
use Rattle.std.proofs.lemmas.List.Folds.{list_any-append}
use Rattle.std.proofs.lemmas.Cmp.{nat_eq_equiv}
use Rattle.land_acts.proofs.EnteredEntries.{here, there, each_record}
use Rattle.land_acts.proofs.Growth.{used_grows, unused_grows, ranks_grow, has_stays, mutations_stay, anchored, placed, placed_back}
use Rattle.land_acts.proofs.NewObjects.{below_later, below_next, entries-last, entries-with_numbers_from}
use Rattle.land_acts.proofs.Numbers.{turned_number}
use Rattle.land_acts.proofs.SubdividedEntries.{Stood, all_stood, are_shares_whole, copies_apart, count_among, has_right_among, listed-append, listed_copies, listed_in, no_pair-append, none_copied, none_listed, none_made, other_apart, owner_among, right_copied, whole_among, whole_copied}
use Rattle.land_acts.specs.Mutations.Numbering.{with_numbers_from}
use Rattle.land_acts.specs.Mutations.Subdividing.{list_entries_of, in_unit}
use Rattle.land_core.proofs.Pairs.{some_pair, later_pairs}
use Rattle.land_core.proofs.Reflection.{each_there, none_passes, none_at, some_passes, some_at}
use Rattle.land_core.proofs.SoundRegisters.{refers, refers_back, are_used, are_used_back, used_from, unused_from, used_bounds, next_above_zero}
use Rattle.land_core.specs.Entries.{has, with_entries}
use Rattle.land_core.specs.Numbers.{last_next}
use Rattle.land_core.specs.Soundness.{IsSound, is_used, is_rank_out_of_range}
use Rattle.land_core.specs.Units.{do_clash, rank_of, has_parcel, has_owner, parcel_count, rrr_count, has_whole_shares}
use Rattle.land_core.specs.declared.parcel.ParcelRecord.{ParcelRecord}
use Rattle.land_core.specs.declared.register.Register.{Register}
use Rattle.land_core.specs.declared.rrr.RightType.TheVariants.{Ownership}
use Rattle.land_core.specs.declared.rrr.RrrRecord.{RrrRecord}
use Rattle.land_core.specs.declared.soundness.Unsound.TheVariants.{Reference, Shares, Group, Bare, Crowded, Twice, Rank, Administrator, Reused, Memory}
use Rattle.land_core.specs.declared.unit.UnitRecord.{UnitRecord}

-- a register with a new unit, a parcel in it, and copies of the entries of another one
abbrev pub copied : Register → (unit : ℕ) → UnitRecord → ParcelRecord → Register
copied r unit new parcel = record r {
  units = map.insert r.units r.next new;
  parcels = map.insert r.parcels (r.next + 1) parcel;
  rrrs = with_entries r.rrrs (with_numbers_from (r.next + 2) (map_list (in_unit r.next) (list_entries_of r unit)));
  next = r.next + (2 + length (list_entries_of r unit));
}

-- the conditions on the new unit: it is checked exactly if the other one is, the parcel is in it, and there
-- are numbers for all objects
pub record IsCopy (r : Register) (unit : ℕ) (new : UnitRecord) (parcel : ParcelRecord) : Type 0 where
  pub original : UnitRecord
  pub stands : map.get r.units unit ≡ Some original
  pub marked : new.checked ≡ original.checked
  pub in_new : parcel.unit ≡ r.next
  pub source : has r.sources parcel.source ≡ true
  pub room : nat_lt last_next (r.next + (2 + length (list_entries_of r unit))) ≡ false

module _ (r : Register) (sound : IsSound r) (unit : ℕ) (new : UnitRecord) (parcel : ParcelRecord) (copy : IsCopy r unit new parcel) where
  abbrev more : Register
  more = copied r unit new parcel

  abbrev made : List (ℕ × RrrRecord)
  made = with_numbers_from (r.next + 2) (map_list (in_unit r.next) (list_entries_of r unit))

  grows : r.next ≤ more.next
  grows = omega arith

  -- ---- the objects that exist

  rrr_entries : map.entries more.rrrs ≡ map.entries r.rrrs ++ made
  rrr_entries =
      entries-with_numbers_from r.rrrs (r.next + 2) (map_list (in_unit r.next) (list_entries_of r unit))
      (below_later r.next (r.next + 2) (omega arith) (map.entries r.rrrs) (below_next r r.rrrs (are_used r (refers r (sound Reference)).numbers).rrrs))

  parcel_entries : map.entries more.parcels ≡ map.entries r.parcels ++ (r.next + 1, parcel) ∷ []
  parcel_entries =
      entries-last r.parcels (r.next + 1) parcel
      (below_later r.next (r.next + 1) (omega arith) (map.entries r.parcels) (below_next r r.parcels (are_used r (refers r (sound Reference)).numbers).parcels))

  no_rrr : (p : ℕ × RrrRecord → Bool) → list_any p (map.entries r.rrrs) ≡ false → list_any p made ≡ false → list_any p (map.entries more.rrrs) ≡ false
  no_rrr p old new = ap (list_any p) rrr_entries ∙ list_any-append p (map.entries r.rrrs) made ∙ ap (λ b. b || list_any p made) old ∙ new

  unit_below : (n : ℕ) (u : UnitRecord) → map.get r.units n ≡ Some u → n < r.next
  unit_below n u is = (used_bounds r n (used_from r r.units (are_used r (refers r (sound Reference)).numbers).units n u is)).1

  parcel_below : (n : ℕ) (p : ParcelRecord) → map.get r.parcels n ≡ Some p → n < r.next + 1
  parcel_below n p is =
      let less = (used_bounds r n (used_from r r.parcels (are_used r (refers r (sound Reference)).numbers).parcels n p is)).1 in
      omega (arith, less)

  -- the earlier units are unchanged
  pub unit_stays : (n : ℕ) (u : UnitRecord) → map.get r.units n ≡ Some u → map.get (copied r unit new parcel).units n ≡ Some u
  unit_stays n u is = there r.units r.next new n u (unit_below n u is) is

  units_stay : (n : ℕ) → has r.units n ≡ true → has more.units n ≡ true
  units_stay = has_stays r.units more.units unit_stay
    where
      unit_stay : (n : ℕ) (u : UnitRecord) → map.get r.units n ≡ Some u → map.get more.units n ≡ Some u
      unit_stay n u is = unit_stays n u is

  unit_here : has more.units r.next ≡ true
  unit_here = ap is_some (here r.units r.next new)

  -- an existing unit is not the new one
  other_unit : (n : ℕ) → has r.units n ≡ true → nat_eq n r.next ≡ false
  other_unit n stands = found (map.get r.units n) refl stands
    where
      found : (o : Option UnitRecord) → map.get r.units n ≡ o → is_some o ≡ true → nat_eq n r.next ≡ false
      found None e h = absurd (false≢true h)
      found (Some u) e h = let less = unit_below n u e in grind (arith, nat_tests)

  pub stands_apart : (n : ℕ) (u : UnitRecord) → map.get r.units n ≡ Some u → nat_eq r.next n ≡ false
  stands_apart n u is = turned_number n r.next (other_unit n (ap is_some is))

  -- ---- the entries of each unit

  -- no earlier record belongs to the new unit
  no_old_parcel : list_any (λ e. nat_eq e.1.unit r.next) (map.entries r.parcels) ≡ false
  no_old_parcel =
      none_passes nat_cmp_total nat_cmp-IsAntisymmetric (λ n p. nat_eq p.unit r.next) r.parcels
      (λ n p is. other_unit p.unit (placed r (refers r (sound Reference)).parcels n p is).0)

  no_old_rrr : list_any (λ e. nat_eq e.1.unit r.next) (map.entries r.rrrs) ≡ false
  no_old_rrr =
      none_passes nat_cmp_total nat_cmp-IsAntisymmetric (λ n e. nat_eq e.unit r.next) r.rrrs
      (λ n e is. other_unit e.unit (anchored r (refers r (sound Reference)).rrrs n e is).unit)

  -- the new unit has the copies, and every other one has its entries
  entries_new : list_entries_of more r.next ≡ map_list (in_unit r.next) (list_entries_of r unit)
  entries_new =
      ap (listed_in r.next) rrr_entries
      ∙ listed-append r.next (map.entries r.rrrs) made
      ∙ ap (λ (es : List RrrRecord). es ++ listed_in r.next made) (none_listed r.next (map.entries r.rrrs) no_old_rrr)
      ∙ listed_copies r.next (r.next + 2) (list_entries_of r unit)

  pub entries_stay : (n : ℕ) → nat_eq r.next n ≡ false → list_entries_of (copied r unit new parcel) n ≡ list_entries_of r n
  entries_stay n apart =
      ap (listed_in n) rrr_entries
      ∙ listed-append n (map.entries r.rrrs) made
      ∙ ap (λ (es : List RrrRecord). list_entries_of r n ++ es) (none_copied r.next n (r.next + 2) apart (list_entries_of r unit))
      ∙ append-nil (list_entries_of r n)

  -- ---- the parcels of each unit

  counted : (n : ℕ) → parcel_count more n ≡ parcel_count r n + length {A = ℕ × ParcelRecord} (cond (nat_eq parcel.unit n) ((r.next + 1, parcel) ∷ []) [])
  counted n =
      ap (λ (es : List (ℕ × ParcelRecord)). length (filter (λ e. nat_eq e.1.unit n) es)) parcel_entries
      ∙ ap length (filter-append (λ (e : ℕ × ParcelRecord). nat_eq e.1.unit n) (map.entries r.parcels) ((r.next + 1, parcel) ∷ []))
      ∙ length-append (filter (λ (e : ℕ × ParcelRecord). nat_eq e.1.unit n) (map.entries r.parcels)) (filter (λ (e : ℕ × ParcelRecord). nat_eq e.1.unit n) ((r.next + 1, parcel) ∷ []))

  pub count_stays : (n : ℕ) → nat_eq r.next n ≡ false → parcel_count (copied r unit new parcel) n ≡ parcel_count r n
  count_stays n apart =
      counted n
      ∙ ap (λ b. parcel_count r n + length {A = ℕ × ParcelRecord} (cond b ((r.next + 1, parcel) ∷ []) [])) (ap (λ k. nat_eq k n) copy.in_new ∙ apart)
      ∙ omega arith

  -- the new unit has exactly one parcel
  one_parcel : parcel_count more r.next ≡ 1
  one_parcel =
      counted r.next
      ∙ ap (λ b. parcel_count r r.next + length {A = ℕ × ParcelRecord} (cond b ((r.next + 1, parcel) ∷ []) [])) (ap (λ k. nat_eq k r.next) copy.in_new ∙ nat_eq_equiv.refl r.next)
      ∙ ap (λ k. k + 1) (ap length (filter_none (map.entries r.parcels) no_old_parcel))
    where
      filter_none : (es : List (ℕ × ParcelRecord)) → list_any (λ e. nat_eq e.1.unit r.next) es ≡ false → filter (λ (e : ℕ × ParcelRecord). nat_eq e.1.unit r.next) es ≡ []
      filter_none [] none = refl
      filter_none (e ∷ es) none =
          let parts = or_parts (nat_eq e.1.unit r.next) (list_any (λ (x : ℕ × ParcelRecord). nat_eq x.1.unit r.next) es) none in
          let others = filter (λ (x : ℕ × ParcelRecord). nat_eq x.1.unit r.next) es in
          ap (λ b. cond b (e ∷ others) others) parts.0 ∙ filter_none es parts.1

  parcel_stays : (n : ℕ) → has_parcel r n ≡ true → has_parcel more n ≡ true
  parcel_stays n had =
      let one = some_passes nat_cmp_total nat_cmp-IsAntisymmetric (λ k p. nat_eq p.unit n) r.parcels had in
      some_at nat_cmp_total nat_cmp-IsAntisymmetric (λ k p. nat_eq p.unit n) more.parcels one.key one.value
      (there r.parcels (r.next + 1) parcel one.key one.value (parcel_below one.key one.value one.there) one.there) one.passes

  new_parcel : has_parcel more r.next ≡ true
  new_parcel = some_at nat_cmp_total nat_cmp-IsAntisymmetric (λ k p. nat_eq p.unit r.next) more.parcels (r.next + 1) parcel (here r.parcels (r.next + 1) parcel) (ap (λ k. nat_eq k r.next) copy.in_new ∙ nat_eq_equiv.refl r.next)

  -- ---- properties of the units

  -- a property of the entries of the other unit is a property of those of the new one
  new_whole : has_whole_shares more r.next ≡ has_whole_shares r unit
  new_whole = whole_among more r.next ∙ ap are_shares_whole entries_new ∙ whole_copied r.next (list_entries_of r unit) ∙ sym (whole_among r unit)

  new_owner : has_owner more r.next ≡ has_owner r unit
  new_owner = owner_among more r.next ∙ ap (has_right_among Ownership) entries_new ∙ right_copied r.next Ownership (list_entries_of r unit) ∙ sym (owner_among r unit)

  new_count : rrr_count more r.next ≡ rrr_count r unit
  new_count = count_among more r.next ∙ ap length entries_new ∙ length-map (list_entries_of r unit) (in_unit r.next) ∙ sym (count_among r unit)

  whole_stays : (n : ℕ) → nat_eq r.next n ≡ false → has_whole_shares more n ≡ has_whole_shares r n
  whole_stays n apart = whole_among more n ∙ ap are_shares_whole (entries_stay n apart) ∙ sym (whole_among r n)

  owner_stays : (n : ℕ) → nat_eq r.next n ≡ false → has_owner more n ≡ has_owner r n
  owner_stays n apart = owner_among more n ∙ ap (has_right_among Ownership) (entries_stay n apart) ∙ sym (owner_among r n)

  rrr_count_stays : (n : ℕ) → nat_eq r.next n ≡ false → rrr_count more n ≡ rrr_count r n
  rrr_count_stays n apart = count_among more n ∙ ap length (entries_stay n apart) ∙ sym (count_among r n)

  -- ---- soundness

  new_used : (n : ℕ) → r.next ≤ n → n < more.next → is_used more n ≡ true
  new_used n low high = let above = next_above_zero r sound in grind (arith, nat_tests)

  -- no copy satisfies a condition that no earlier entry satisfies
  no_copy : (p : ℕ → RrrRecord → Bool) → ((n : ℕ) (e : RrrRecord) → Stood r e → r.next + 2 ≤ n → n < more.next → p n (in_unit r.next e) ≡ false) → list_any (λ e. p e.0 e.1) made ≡ false
  no_copy p h = none_made r.next p (r.next + 2) more.next h (list_entries_of r unit) (all_stood r unit) (omega arith)

  across : (es : List (ℕ × RrrRecord)) → AllByRecursion (λ e. map.get r.rrrs e.0 ≡ Some e.1) es → AllByRecursion (λ e. list_any (λ f. do_clash e.1 f.1) made ≡ false) es
  across [] h = tt
  across (e ∷ es) h = (other_apart r.next e.1 (other_unit e.1.unit (anchored r (refers r (sound Reference)).rrrs e.0 e.1 h.0).unit) (r.next + 2) (list_entries_of r unit), across es h.1)

  pub copied_is_sound : IsSound (copied r unit new parcel)
  copied_is_sound Memory = refl
  copied_is_sound Group = sound Group
  copied_is_sound Reused = sound Reused
  copied_is_sound Administrator = sound Administrator
  copied_is_sound Rank =
      let still = ranks_grow r more grows r.rrrs (sound Rank) in
      no_rrr (λ e. is_rank_out_of_range more (rank_of e.1.class)) still
      (no_copy (λ n e. is_rank_out_of_range more (rank_of e.class)) (λ n e stood low high.
      none_at nat_cmp_total nat_cmp-IsAntisymmetric (λ n e. is_rank_out_of_range more (rank_of e.class)) r.rrrs stood.number e still stood.there))
  copied_is_sound Twice =
      let before = sym (later_pairs do_clash r.rrrs) ∙ sound Twice in
      later_pairs do_clash more.rrrs
      ∙ ap (some_pair do_clash) rrr_entries
      ∙ no_pair-append do_clash (map.entries r.rrrs) made before (copies_apart r.next unit (r.next + 2) (map.entries r.rrrs) before)
      (across (map.entries r.rrrs) (each_there nat_cmp_total nat_cmp-IsAntisymmetric r.rrrs))
  copied_is_sound Shares =
      none_passes nat_cmp_total nat_cmp-IsAntisymmetric (λ n u. u.checked && not (has_whole_shares more n)) more.units
      (each_record r.units r.next new (λ n u. (u.checked && not (has_whole_shares more n)) ≡ false)
      (ap (λ b. b && not (has_whole_shares more r.next)) copy.marked ∙ ap (λ b. copy.original.checked && not b) new_whole
      ∙ none_at nat_cmp_total nat_cmp-IsAntisymmetric (λ n u. u.checked && not (has_whole_shares r n)) r.units unit copy.original (sound Shares) copy.stands)
      (λ n u is.
      ap (λ b. u.checked && not b) (whole_stays n (stands_apart n u is))
      ∙ none_at nat_cmp_total nat_cmp-IsAntisymmetric (λ n u. u.checked && not (has_whole_shares r n)) r.units n u (sound Shares) is))
  copied_is_sound Bare =
      none_passes nat_cmp_total nat_cmp-IsAntisymmetric (λ n u. not (has_parcel more n && has_owner more n)) more.units
      (each_record r.units r.next new (λ n u. not (has_parcel more n && has_owner more n) ≡ false)
      (ap (λ b. not (b && has_owner more r.next)) new_parcel ∙ ap not (new_owner ∙ (had unit copy.original copy.stands).1))
      (λ n u is. ap (λ b. not (b && has_owner more n)) (parcel_stays n (had n u is).0) ∙ ap not (owner_stays n (stands_apart n u is) ∙ (had n u is).1)))
    where
      had : (n : ℕ) (u : UnitRecord) → map.get r.units n ≡ Some u → (has_parcel r n ≡ true) × (has_owner r n ≡ true)
      had n u is =
          and_parts (has_parcel r n) (has_owner r n) (not-false _ (none_at nat_cmp_total nat_cmp-IsAntisymmetric (λ n u. not (has_parcel r n && has_owner r n)) r.units n u (sound Bare) is))
  copied_is_sound Crowded =
      none_passes nat_cmp_total nat_cmp-IsAntisymmetric (λ n u. nat_lt 256 (parcel_count more n) || nat_lt 256 (rrr_count more n)) more.units
      (each_record r.units r.next new (λ n u. (nat_lt 256 (parcel_count more n) || nat_lt 256 (rrr_count more n)) ≡ false)
      (ap (λ k. nat_lt 256 k || nat_lt 256 (rrr_count more r.next)) one_parcel ∙ ap (nat_lt 256) new_count ∙ (or_parts _ _ (had unit copy.original copy.stands)).1)
      (λ n u is.
      ap (λ k. nat_lt 256 k || nat_lt 256 (rrr_count more n)) (count_stays n (stands_apart n u is))
      ∙ ap (λ k. nat_lt 256 (parcel_count r n) || nat_lt 256 k) (rrr_count_stays n (stands_apart n u is))
      ∙ had n u is))
    where
      had : (n : ℕ) (u : UnitRecord) → map.get r.units n ≡ Some u → (nat_lt 256 (parcel_count r n) || nat_lt 256 (rrr_count r n)) ≡ false
      had n u is = none_at nat_cmp_total nat_cmp-IsAntisymmetric (λ n u. nat_lt 256 (parcel_count r n) || nat_lt 256 (rrr_count r n)) r.units n u (sound Crowded) is
  copied_is_sound Reference =
      let before = refers r (sound Reference) in
      let used = are_used r before.numbers in
      refers_back more (record {
        room = copy.room;
        numbers = are_used_back more (record {
          parties = unused_grows r more grows r.parties used.parties;
          units = unused_from more more.units (each_record r.units r.next new (λ n u. is_used more n ≡ true) (new_used r.next (omega arith) (omega arith))
              (λ n u is. used_grows r more grows n (used_from r r.units used.units n u is)));
          parcels = unused_from more more.parcels (each_record r.parcels (r.next + 1) parcel (λ n p. is_used more n ≡ true) (new_used (r.next + 1) (omega arith) (omega arith))
              (λ n p is. used_grows r more grows n (used_from r r.parcels used.parcels n p is)));
          rrrs = no_rrr (λ e. not (is_used more e.0)) (unused_grows r more grows r.rrrs used.rrrs)
              (no_copy (λ n e. not (is_used more n)) (λ n e stood low high. ap not (new_used n (omega (arith, low)) high)));
          sources = unused_grows r more grows r.sources used.sources;
          mutations = unused_grows r more grows r.mutations used.mutations;
        });
        grants = before.grants;
        members = before.members;
        parcels = placed_back more (each_record r.parcels (r.next + 1) parcel (λ n p. (has more.units p.unit ≡ true) × (has r.sources p.source ≡ true))
            (ap (has more.units) copy.in_new ∙ unit_here, copy.source)
            (λ n p is. let one = placed r before.parcels n p is in (units_stay p.unit one.0, one.1)));
        rrrs = no_rrr (λ e. not (has more.units e.1.unit && has r.parties e.1.party && has r.sources e.1.source))
            (none_passes nat_cmp_total nat_cmp-IsAntisymmetric (λ n e. not (has more.units e.unit && has r.parties e.party && has r.sources e.source)) r.rrrs
            (λ n e is. let one = anchored r before.rrrs n e is in refer e.unit e (units_stay e.unit one.unit) one.party one.source))
            (no_copy (λ n e. not (has more.units e.unit && has r.parties e.party && has r.sources e.source)) (λ n e stood low high.
            let one = anchored r before.rrrs stood.number e stood.there in refer r.next e unit_here one.party one.source));
        mutations = mutations_stay r more refl (λ n there. there) (λ n there. there) before.mutations;
        mandates = before.mandates;
      })
    where
      refer : (unit : ℕ) (e : RrrRecord) → has more.units unit ≡ true → has r.parties e.party ≡ true → has r.sources e.source ≡ true → not (has more.units unit && has r.parties e.party && has r.sources e.source) ≡ false
      refer unit e first second third = ap (λ b. not (b && has r.parties e.party && has r.sources e.source)) first ∙ ap (λ b. not (b && has r.sources e.source)) second ∙ ap not third
