-- A registration keeps a register sound: a unit is added with its parcels and rights, and all other records
-- are unchanged.
use Rattle.std.proofs.Common.{◌≡◌, ℕ, ◌+◌, ◌<◌, ◌≤◌, Bool, true, false, cond, ◌&&◌, ◌||◌, not, Option, Some, None, List, [], ◌∷◌, ◌++◌, length, refl, ap, ◌∙◌, append-nil, arith}
use Rattle.std.specs.Prelude.{filter, is_some, nat_eq, nat_lt, map as map_list}
use Rattle.std.specs.List.{filter_map, cons_option, list_any}
use Rattle.std.specs.Cmp.{nat_cmp_total}
use Rattle.std.specs.FinMap as map
use Rattle.std.specs.FinMap.{nat_cmp-IsAntisymmetric}
use Rattle.std.proofs.lemmas.Bool.{false≢true, and_parts, not-false, not-true, or_parts, or_right}
use Rattle.std.proofs.lemmas.Bool.Decides.{nat_tests}
use Rattle.std.proofs.lemmas.List.{length-map}
use Rattle.std.proofs.lemmas.List.Elements.{filter-append, filter_map-append}
use Rattle.std.proofs.lemmas.List.Folds.{list_any-append}
use Rattle.std.proofs.lemmas.Cmp.{nat_eq_equiv}
use Rattle.land_acts.proofs.EnteredEntries.{here, there, each_record}
use Rattle.land_acts.proofs.Growth.{used_grows, unused_grows, ranks_grow, has_stays, mutations_stay, anchored, placed}
use Rattle.land_acts.proofs.NewObjects.{below_later, entries-with_numbers_from, below_next}
use Rattle.land_acts.proofs.Numbers.{turned_number}
use Rattle.land_acts.specs.FirstRights.{lists_absent_party, listed_of_type, share_listed, are_types_whole, is_same_right, has_right_twice}
use Rattle.land_acts.specs.Mutations.Numbering.{with_numbers_from}
use Rattle.land_acts.specs.Mutations.Planning.{runs_out_of_numbers}
use Rattle.land_acts.specs.Registering.{new_count, new_parcel_record, new_right_record, register_change}
use Rattle.land_core.proofs.Booleans.{and_false}
use Rattle.land_core.proofs.Reflection.{none_passes, none_at}
use Rattle.land_core.proofs.SoundRegisters.{refers, refers_back, are_used, are_used_back, used_from, unused_from, used_bounds, next_above_zero}
use Rattle.land_core.specs.Acts.{is_new_unit, are_parcels, are_rights, is_first_count, have_labels, have_parties, have_owner}
use Rattle.land_core.specs.Changes.{after}
use Rattle.land_core.specs.Entries.{has, are_distinct}
use Rattle.land_core.specs.Soundness.{IsSound, is_used, clashes_with_later, is_rank_out_of_range}
use Rattle.land_core.specs.Texts.{is_name, is_title}
use Rattle.land_core.specs.Units.{share_in_unit, share_of, is_type, is_right_in, do_clash, rank_of, type_shares, are_whole_or_none, has_parcel, has_owner, parcel_count, rrr_count, has_whole_shares}
use Rattle.land_core.specs.declared.act.NewParcel.{NewParcel}
use Rattle.land_core.specs.declared.act.NewRight.{NewRight}
use Rattle.land_core.specs.declared.act.NewUnit.{NewUnit}
use Rattle.land_core.specs.declared.parcel.ParcelRecord.{ParcelRecord}
use Rattle.land_core.specs.declared.register.Register.{Register}
use Rattle.land_core.specs.declared.rrr.RightType.{RightType}
use Rattle.land_core.specs.declared.rrr.RightType.TheVariants.{Ownership, Lease, Usufruct}
use Rattle.land_core.specs.declared.rrr.RrrRecord.{RrrRecord}
use Rattle.land_core.specs.declared.soundness.Unsound.TheVariants.{Reference, Shares, Group, Bare, Crowded, Twice, Rank, Administrator, Reused, Memory}
use Rattle.land_core.specs.declared.source.SourceKind.TheVariants.{Administrative}
use Rattle.land_core.specs.declared.source.SourceRecord.{SourceRecord}
use Rattle.land_core.specs.declared.unit.UnitRecord.{UnitRecord}
use Rattle.land_fraction.specs.Ratio.{Ratio}

-- ---- conditions on consecutively numbered objects

-- no numbered object satisfies a condition that none satisfies under any of their numbers
none_numbered : {A V : Type 0} (f : A → V) (p : ℕ → V → Bool) (first last : ℕ) → ((n : ℕ) (a : A) → first ≤ n → n < last → p n (f a) ≡ false) → (xs : List A) → first + length xs ≤ last
    → list_any (λ e. p e.0 e.1) (with_numbers_from first (map_list f xs)) ≡ false
none_numbered f p first last h [] room = refl
none_numbered f p first last h (x ∷ xs) room =
    ap (λ b. b || list_any (λ e. p e.0 e.1) (with_numbers_from (first + 1) (map_list f xs))) (h first x (omega arith) (omega (arith, room)))
    ∙ none_numbered f p (first + 1) last (λ n a low high. h n a (omega (arith, low)) high) xs (omega (arith, room))

-- a condition that reads only the object, on numbered objects
any_numbered : {A V : Type 0} (f : A → V) (p : V → Bool) (first : ℕ) (xs : List A) → list_any (λ e. p e.1) (with_numbers_from first (map_list f xs)) ≡ list_any (λ a. p (f a)) xs
any_numbered f p first [] = refl
any_numbered f p first (x ∷ xs) = ap (λ b. p (f x) || b) (any_numbered f p (first + 1) xs)

length-with_numbers_from : {V : Type 0} (first : ℕ) (xs : List V) → length (with_numbers_from first xs) ≡ length xs
length-with_numbers_from first [] = refl
length-with_numbers_from first (x ∷ xs) = let rest = length-with_numbers_from (first + 1) xs in omega (arith, rest)

filter_none : {X : Type 0} (p : X → Bool) (xs : List X) → list_any p xs ≡ false → filter p xs ≡ []
filter_none p [] h = refl
filter_none {X} p (x ∷ xs) h =
    let parts = or_parts (p x) (list_any p xs) h in
    ap (λ b. cond b (x ∷ filter p xs) (filter p xs)) parts.0 ∙ filter_none p xs parts.1

filter_shorter : {X : Type 0} (p : X → Bool) (xs : List X) → length (filter p xs) ≤ length xs
filter_shorter p [] = omega arith
filter_shorter {X} p (x ∷ xs) =
    let rest = filter_shorter p xs in
    elim (p x) as (λ b. length (cond b (x ∷ filter p xs) (filter p xs)) ≤ length (x ∷ xs)) [ true ↦ omega (arith, rest) | false ↦ omega (arith, rest) ]

-- conditions that are equal
list_any-same : {X : Type 0} (p q : X → Bool) → ((x : X) → p x ≡ q x) → (xs : List X) → list_any p xs ≡ list_any q xs
list_any-same p q h [] = refl
list_any-same p q h (x ∷ xs) = ap (λ b. b || list_any p xs) (h x) ∙ ap (λ b. q x || b) (list_any-same p q h xs)

-- a disjunction of two conditions that no object satisfies
drop_left : {X : Type 0} (p q : X → Bool) (xs : List X) → list_any p xs ≡ false → list_any (λ x. p x || q x) xs ≡ list_any q xs
drop_left p q [] h = refl
drop_left p q (x ∷ xs) h =
    let parts = or_parts (p x) (list_any p xs) h in
    ap (λ b. (b || q x) || list_any (λ x. p x || q x) xs) parts.0 ∙ ap (λ b. q x || b) (drop_left p q xs parts.1)

module _ (r : Register) (it : NewUnit) (sound : IsSound r) where
  abbrev more : Register
  more = after (register_change r it) r

  abbrev unit : ℕ
  unit = r.next + 1

  abbrev record_of_unit : UnitRecord
  record_of_unit = record { name = it.name; checked = it.checked }

  abbrev document : SourceRecord
  document = record { kind = Administrative; title = it.document }

  abbrev new_parcels : List (ℕ × ParcelRecord)
  new_parcels = with_numbers_from (r.next + 2) (map_list (new_parcel_record unit r.next) it.parcels)

  abbrev new_rights : List (ℕ × RrrRecord)
  new_rights = with_numbers_from (r.next + 2 + length it.parcels) (map_list (new_right_record unit r.next) it.rights)

  grows : r.next ≤ more.next
  grows = omega arith

  parcel_entries : map.entries more.parcels ≡ map.entries r.parcels ++ new_parcels
  parcel_entries =
      entries-with_numbers_from r.parcels (r.next + 2) (map_list (new_parcel_record unit r.next) it.parcels)
      (below_later r.next (r.next + 2) (omega arith) (map.entries r.parcels) (below_next r r.parcels (are_used r (refers r (sound Reference)).numbers).parcels))

  rrr_entries : map.entries more.rrrs ≡ map.entries r.rrrs ++ new_rights
  rrr_entries =
      entries-with_numbers_from r.rrrs (r.next + 2 + length it.parcels) (map_list (new_right_record unit r.next) it.rights)
      (below_later r.next (r.next + 2 + length it.parcels) (omega arith) (map.entries r.rrrs) (below_next r r.rrrs (are_used r (refers r (sound Reference)).numbers).rrrs))

  any_parcel : (p : ℕ × ParcelRecord → Bool) → list_any p (map.entries more.parcels) ≡ (list_any p (map.entries r.parcels) || list_any p new_parcels)
  any_parcel p = ap (list_any p) parcel_entries ∙ list_any-append p (map.entries r.parcels) new_parcels

  any_rrr : (p : ℕ × RrrRecord → Bool) → list_any p (map.entries more.rrrs) ≡ (list_any p (map.entries r.rrrs) || list_any p new_rights)
  any_rrr p = ap (list_any p) rrr_entries ∙ list_any-append p (map.entries r.rrrs) new_rights

  no_parcel : (p : ℕ × ParcelRecord → Bool) → list_any p (map.entries r.parcels) ≡ false → list_any p new_parcels ≡ false → list_any p (map.entries more.parcels) ≡ false
  no_parcel p old new = any_parcel p ∙ ap (λ b. b || list_any p new_parcels) old ∙ new

  no_rrr : (p : ℕ × RrrRecord → Bool) → list_any p (map.entries r.rrrs) ≡ false → list_any p new_rights ≡ false → list_any p (map.entries more.rrrs) ≡ false
  no_rrr p old new = any_rrr p ∙ ap (λ b. b || list_any p new_rights) old ∙ new

  unit_below : (n : ℕ) (u : UnitRecord) → map.get r.units n ≡ Some u → n < unit
  unit_below n u is =
      let less = (used_bounds r n (used_from r r.units (are_used r (refers r (sound Reference)).numbers).units n u is)).1 in
      omega (arith, less)

  source_below : (n : ℕ) (s : SourceRecord) → map.get r.sources n ≡ Some s → n < r.next
  source_below n s is = (used_bounds r n (used_from r r.sources (are_used r (refers r (sound Reference)).numbers).sources n s is)).1

  units_stay : (n : ℕ) → has r.units n ≡ true → has more.units n ≡ true
  units_stay = has_stays r.units more.units (λ n u is. there r.units unit record_of_unit n u (unit_below n u is) is)

  sources_stay : (n : ℕ) → has r.sources n ≡ true → has more.sources n ≡ true
  sources_stay = has_stays r.sources more.sources (λ n s is. there r.sources r.next document n s (source_below n s is) is)

  -- an existing unit is not the new one
  other_unit : (n : ℕ) → has r.units n ≡ true → nat_eq n unit ≡ false
  other_unit n stands = found (map.get r.units n) refl stands
    where
      found : (o : Option UnitRecord) → map.get r.units n ≡ o → is_some o ≡ true → nat_eq n unit ≡ false
      found None e h = absurd (false≢true h)
      found (Some u) e h = let less = unit_below n u e in grind (arith, nat_tests)

  -- no earlier record belongs to the new unit
  no_old_parcel : list_any (λ e. nat_eq e.1.unit unit) (map.entries r.parcels) ≡ false
  no_old_parcel =
      none_passes nat_cmp_total nat_cmp-IsAntisymmetric (λ n p. nat_eq p.unit unit) r.parcels
      (λ n p is. other_unit p.unit (placed r (refers r (sound Reference)).parcels n p is).0)

  no_old_rrr : list_any (λ e. nat_eq e.1.unit unit) (map.entries r.rrrs) ≡ false
  no_old_rrr =
      none_passes nat_cmp_total nat_cmp-IsAntisymmetric (λ n e. nat_eq e.unit unit) r.rrrs
      (λ n e is. other_unit e.unit (anchored r (refers r (sound Reference)).rrrs n e is).unit)

  -- no new record belongs to an earlier unit
  no_new_parcel : (n : ℕ) → nat_eq unit n ≡ false → list_any (λ e. nat_eq e.1.unit n) new_parcels ≡ false
  no_new_parcel n other =
      none_numbered (new_parcel_record unit r.next) (λ k p. nat_eq p.unit n) (r.next + 2) (r.next + 2 + length it.parcels) (λ k a low high. other) it.parcels (omega arith)

  no_new_rrr : (n : ℕ) → nat_eq unit n ≡ false → list_any (λ e. nat_eq e.1.unit n) new_rights ≡ false
  no_new_rrr n other =
      none_numbered (new_right_record unit r.next) (λ k e. nat_eq e.unit n) (r.next + 2 + length it.parcels) (r.next + 2 + length it.parcels + length it.rights) (λ k a low high. other) it.rights (omega arith)

  apart_turned : (n : ℕ) → nat_eq n unit ≡ false → nat_eq unit n ≡ false
  apart_turned n other = turned_number n unit other

  stands_apart : (n : ℕ) (u : UnitRecord) → map.get r.units n ≡ Some u → nat_eq unit n ≡ false
  stands_apart n u is = apart_turned n (other_unit n (ap is_some is))

  -- ---- shares

  nothing_from : (n : ℕ) (type : RightType) (es : List (ℕ × RrrRecord)) → list_any (λ e. nat_eq e.1.unit n) es ≡ false → filter_map (λ e. share_in_unit n type e.1) es ≡ []
  nothing_from n type [] none = refl
  nothing_from n type (e ∷ es) none =
      let parts = or_parts (nat_eq e.1.unit n) (list_any (λ e. nat_eq e.1.unit n) es) none in
      ap (λ b. cons_option (cond b (share_of type e.1.class) None) (filter_map (λ (x : ℕ × RrrRecord). share_in_unit n type x.1) es)) parts.0 ∙ nothing_from n type es parts.1

  shares_stay : (n : ℕ) (type : RightType) → nat_eq unit n ≡ false → type_shares more n type ≡ type_shares r n type
  shares_stay n type other =
      ap (filter_map (λ (e : ℕ × RrrRecord). share_in_unit n type e.1)) rrr_entries
      ∙ filter_map-append (λ (e : ℕ × RrrRecord). share_in_unit n type e.1) (map.entries r.rrrs) new_rights
      ∙ ap (λ it. type_shares r n type ++ it) (nothing_from n type new_rights (no_new_rrr n other))
      ∙ append-nil (type_shares r n type)

  listed_shares : (type : RightType) (first : ℕ) (rights : List NewRight) → filter_map (λ (e : ℕ × RrrRecord). share_in_unit unit type e.1) (with_numbers_from first (map_list (new_right_record unit r.next) rights)) ≡ listed_of_type type rights
  listed_shares type first [] = refl
  listed_shares type first (x ∷ xs) =
      ap (λ b. cons_option (cond b (share_listed type x) None) (filter_map (λ (e : ℕ × RrrRecord). share_in_unit unit type e.1) (with_numbers_from (first + 1) (map_list (new_right_record unit r.next) xs)))) (nat_eq_equiv.refl unit)
      ∙ ap (cons_option (share_listed type x)) (listed_shares type (first + 1) xs)

  new_shares : (type : RightType) → type_shares more unit type ≡ listed_of_type type it.rights
  new_shares type =
      ap (filter_map (λ (e : ℕ × RrrRecord). share_in_unit unit type e.1)) rrr_entries
      ∙ filter_map-append (λ (e : ℕ × RrrRecord). share_in_unit unit type e.1) (map.entries r.rrrs) new_rights
      ∙ ap (λ (it : List Ratio). it ++ filter_map (λ (e : ℕ × RrrRecord). share_in_unit unit type e.1) new_rights) (nothing_from unit type (map.entries r.rrrs) no_old_rrr)
      ∙ listed_shares type (r.next + 2 + length it.parcels) it.rights

  -- ---- counts

  count_stays : (n : ℕ) → nat_eq unit n ≡ false → (parcel_count more n ≡ parcel_count r n) × (rrr_count more n ≡ rrr_count r n)
  count_stays n other = (
    ap (λ (es : List (ℕ × ParcelRecord)). length (filter (λ e. nat_eq e.1.unit n) es)) parcel_entries
        ∙ ap length (filter-append (λ (e : ℕ × ParcelRecord). nat_eq e.1.unit n) (map.entries r.parcels) new_parcels)
        ∙ ap (λ it. length (filter (λ (e : ℕ × ParcelRecord). nat_eq e.1.unit n) (map.entries r.parcels) ++ it)) (filter_none (λ (e : ℕ × ParcelRecord). nat_eq e.1.unit n) new_parcels (no_new_parcel n other))
        ∙ ap length (append-nil (filter (λ (e : ℕ × ParcelRecord). nat_eq e.1.unit n) (map.entries r.parcels))),
    ap (λ (es : List (ℕ × RrrRecord)). length (filter (λ e. nat_eq e.1.unit n) es)) rrr_entries
        ∙ ap length (filter-append (λ (e : ℕ × RrrRecord). nat_eq e.1.unit n) (map.entries r.rrrs) new_rights)
        ∙ ap (λ it. length (filter (λ (e : ℕ × RrrRecord). nat_eq e.1.unit n) (map.entries r.rrrs) ++ it)) (filter_none (λ (e : ℕ × RrrRecord). nat_eq e.1.unit n) new_rights (no_new_rrr n other))
        ∙ ap length (append-nil (filter (λ (e : ℕ × RrrRecord). nat_eq e.1.unit n) (map.entries r.rrrs))),
  )

  few_parcels : parcel_count more unit ≤ length it.parcels
  few_parcels =
      let counted : parcel_count more unit ≡ length (filter (λ (e : ℕ × ParcelRecord). nat_eq e.1.unit unit) new_parcels) =
      ap (λ (es : List (ℕ × ParcelRecord)). length (filter (λ e. nat_eq e.1.unit unit) es)) parcel_entries
      ∙ ap length (filter-append (λ (e : ℕ × ParcelRecord). nat_eq e.1.unit unit) (map.entries r.parcels) new_parcels)
      ∙ ap (λ (it : List (ℕ × ParcelRecord)). length (it ++ filter (λ (e : ℕ × ParcelRecord). nat_eq e.1.unit unit) new_parcels)) (filter_none (λ (e : ℕ × ParcelRecord). nat_eq e.1.unit unit) (map.entries r.parcels) no_old_parcel) in
      let short = filter_shorter (λ (e : ℕ × ParcelRecord). nat_eq e.1.unit unit) new_parcels in
      let long : length new_parcels ≡ length it.parcels = length-with_numbers_from (r.next + 2) (map_list (new_parcel_record unit r.next) it.parcels) ∙ length-map it.parcels (new_parcel_record unit r.next) in
      omega (arith, counted, short, long)

  few_rights : rrr_count more unit ≤ length it.rights
  few_rights =
      let counted : rrr_count more unit ≡ length (filter (λ (e : ℕ × RrrRecord). nat_eq e.1.unit unit) new_rights) =
      ap (λ (es : List (ℕ × RrrRecord)). length (filter (λ e. nat_eq e.1.unit unit) es)) rrr_entries
      ∙ ap length (filter-append (λ (e : ℕ × RrrRecord). nat_eq e.1.unit unit) (map.entries r.rrrs) new_rights)
      ∙ ap (λ (it : List (ℕ × RrrRecord)). length (it ++ filter (λ (e : ℕ × RrrRecord). nat_eq e.1.unit unit) new_rights)) (filter_none (λ (e : ℕ × RrrRecord). nat_eq e.1.unit unit) (map.entries r.rrrs) no_old_rrr) in
      let short = filter_shorter (λ (e : ℕ × RrrRecord). nat_eq e.1.unit unit) new_rights in
      let long : length new_rights ≡ length it.rights = length-with_numbers_from (r.next + 2 + length it.parcels) (map_list (new_right_record unit r.next) it.rights) ∙ length-map it.rights (new_right_record unit r.next) in
      omega (arith, counted, short, long)

  unit_here : has more.units unit ≡ true
  unit_here = ap is_some (here r.units unit record_of_unit)

  source_here : has more.sources r.next ≡ true
  source_here = ap is_some (here r.sources r.next document)

  -- ---- the references of the new entries

  rights_anchored : (rights : List NewRight) → lists_absent_party r rights ≡ false
      → list_any (λ a. not (has more.units unit && has r.parties a.party && has more.sources r.next)) rights ≡ false
  rights_anchored [] known = refl
  rights_anchored (x ∷ xs) known =
      let parts = or_parts (not (has r.parties x.party)) (lists_absent_party r xs) known in
      let rest = list_any (λ a. not (has more.units unit && has r.parties a.party && has more.sources r.next)) xs in
      ap (λ b. not (b && has r.parties x.party && has more.sources r.next) || rest) unit_here
      ∙ ap (λ b. not (b && has more.sources r.next) || rest) (not-false _ parts.0)
      ∙ ap (λ b. not b || rest) source_here
      ∙ rights_anchored xs parts.1

  -- ---- the new unit has a parcel and an owner

  has_first : (first : ℕ) (parcels : List NewParcel) → is_first_count (length parcels) ≡ true → list_any (λ e. nat_eq e.1.unit unit) (with_numbers_from first (map_list (new_parcel_record unit r.next) parcels)) ≡ true
  has_first first [] few = absurd (false≢true few)
  has_first first (x ∷ xs) few = ap (λ b. b || list_any (λ e. nat_eq e.1.unit unit) (with_numbers_from (first + 1) (map_list (new_parcel_record unit r.next) xs))) (nat_eq_equiv.refl unit)

  new_has_parcel : are_parcels it.parcels ≡ true → has_parcel more unit ≡ true
  new_has_parcel formed =
      any_parcel (λ e. nat_eq e.1.unit unit) ∙ ap (λ b. b || list_any (λ e. nat_eq e.1.unit unit) new_parcels) no_old_parcel
      ∙ has_first (r.next + 2) it.parcels (and_parts (is_first_count (length it.parcels)) (have_labels it.parcels) formed).0

  new_has_owner : have_owner it.rights ≡ true → has_owner more unit ≡ true
  new_has_owner owned =
      any_rrr (λ e. is_right_in unit Ownership e.1)
      ∙ or_right (list_any (λ e. is_right_in unit Ownership e.1) (map.entries r.rrrs)) (list_any (λ e. is_right_in unit Ownership e.1) new_rights)
      (any_numbered (new_right_record unit r.next) (is_right_in unit Ownership) (r.next + 2 + length it.parcels) it.rights
      ∙ ap (λ b. list_any (λ (a : NewRight). b && is_type a.right_type Ownership) it.rights) (nat_eq_equiv.refl unit)
      ∙ owned)

  -- ---- no two rights clash

  head_apart : (x : NewRight) (low first : ℕ) (xs : List NewRight) → list_any (is_same_right x) xs ≡ false
      → list_any (λ f. nat_lt low f.0 && do_clash (new_right_record unit r.next x) f.1) (with_numbers_from first (map_list (new_right_record unit r.next) xs)) ≡ false
  head_apart x low first [] apart = refl
  head_apart x low first (y ∷ ys) apart =
      let parts = or_parts (is_same_right x y) (list_any (is_same_right x) ys) apart in
      let rest = list_any (λ f. nat_lt low f.0 && do_clash (new_right_record unit r.next x) f.1) (with_numbers_from (first + 1) (map_list (new_right_record unit r.next) ys)) in
      ap (λ b. (nat_lt low first && (nat_eq unit unit && (b || false))) || rest) parts.0
      ∙ ap (λ b. (nat_lt low first && b) || rest) (and_false (nat_eq unit unit))
      ∙ ap (λ b. b || rest) (and_false (nat_lt low first))
      ∙ head_apart x low (first + 1) ys parts.1

  rights_apart : (first : ℕ) (xs : List NewRight) → are_distinct is_same_right xs ≡ true
      → list_any (λ e. list_any (λ f. nat_lt e.0 f.0 && do_clash e.1 f.1) (with_numbers_from first (map_list (new_right_record unit r.next) xs))) (with_numbers_from first (map_list (new_right_record unit r.next) xs)) ≡ false
  rights_apart first [] distinct = refl
  rights_apart first (x ∷ xs) distinct =
      let parts = and_parts (not (list_any (is_same_right x) xs)) (are_distinct is_same_right xs) distinct in
      let later : List (ℕ × RrrRecord) = with_numbers_from (first + 1) (map_list (new_right_record unit r.next) xs) in
      let itself : nat_lt first first ≡ false = grind (arith, nat_tests) in
      let all : List (ℕ × RrrRecord) = (first, new_right_record unit r.next x) ∷ later in
      let tail = list_any (λ e. list_any (λ f. nat_lt e.0 f.0 && do_clash e.1 f.1) all) later in
      ap (λ b. ((b && do_clash (new_right_record unit r.next x) (new_right_record unit r.next x)) || list_any (λ f. nat_lt first f.0 && do_clash (new_right_record unit r.next x) f.1) later) || tail) itself
      ∙ ap (λ b. b || tail) (head_apart x first (first + 1) xs (not-true _ parts.0))
      ∙ drop_left (λ e. nat_lt e.0 first && do_clash e.1 (new_right_record unit r.next x)) (λ e. list_any (λ f. nat_lt e.0 f.0 && do_clash e.1 f.1) later) later
      (none_numbered (new_right_record unit r.next) (λ n e. nat_lt n first && do_clash e (new_right_record unit r.next x)) (first + 1) (first + 1 + length xs)
      (λ n a low high. ap (λ b. b && do_clash (new_right_record unit r.next a) (new_right_record unit r.next x)) (not_below n first low)) xs (omega arith))
      ∙ rights_apart (first + 1) xs parts.1
    where
      not_below : (n first : ℕ) → first + 1 ≤ n → nat_lt n first ≡ false
      not_below n first low = grind (arith, nat_tests)

  pub registered_is_sound : is_new_unit it ≡ true → lists_absent_party r it.rights ≡ false → runs_out_of_numbers r (new_count it) ≡ false → (it.checked && not (are_types_whole it.rights)) ≡ false → has_right_twice it.rights ≡ false
      → IsSound (after (register_change r it) r)
  registered_is_sound formed known room whole once Memory = refl
  registered_is_sound formed known room whole once Reused = sound Reused
  registered_is_sound formed known room whole once Group = sound Group
  registered_is_sound formed known room whole once Administrator = sound Administrator
  registered_is_sound formed known room whole once Reference =
      let before = refers r (sound Reference) in
      let used = are_used r before.numbers in
      let above = next_above_zero r sound in
      let source_used : is_used more r.next ≡ true = grind (arith, nat_tests) in
      let unit_used : is_used more unit ≡ true = grind (arith, nat_tests) in
      refers_back more (record {
        room = room;
        numbers = are_used_back more (record {
          parties = unused_grows r more grows r.parties used.parties;
          units = unused_from more more.units (each_record r.units unit record_of_unit (λ n u. is_used more n ≡ true) unit_used (λ n u is. used_grows r more grows n (used_from r r.units used.units n u is)));
          parcels = no_parcel (λ e. not (is_used more e.0)) (unused_grows r more grows r.parcels used.parcels)
              (none_numbered (new_parcel_record unit r.next) (λ n p. not (is_used more n)) (r.next + 2) more.next (λ n a low high. ap not (new_used n above low high)) it.parcels (omega arith));
          rrrs = no_rrr (λ e. not (is_used more e.0)) (unused_grows r more grows r.rrrs used.rrrs)
              (none_numbered (new_right_record unit r.next) (λ n e. not (is_used more n)) (r.next + 2 + length it.parcels) more.next (λ n a low high. ap not (new_used n above (omega (arith, low)) high)) it.rights (omega arith));
          sources = unused_from more more.sources (each_record r.sources r.next document (λ n s. is_used more n ≡ true) source_used (λ n s is. used_grows r more grows n (used_from r r.sources used.sources n s is)));
          mutations = unused_grows r more grows r.mutations used.mutations;
        });
        grants = before.grants;
        members = before.members;
        parcels = no_parcel (λ e. not (has more.units e.1.unit && has more.sources e.1.source))
            (none_passes nat_cmp_total nat_cmp-IsAntisymmetric (λ n p. not (has more.units p.unit && has more.sources p.source)) r.parcels
            (λ n p is. let one = placed r before.parcels n p is in ap (λ b. not (b && has more.sources p.source)) (units_stay p.unit one.0) ∙ ap not (sources_stay p.source one.1)))
            (none_numbered (new_parcel_record unit r.next) (λ n p. not (has more.units p.unit && has more.sources p.source)) (r.next + 2) (r.next + 2 + length it.parcels)
            (λ n a low high. ap (λ b. not (b && has more.sources r.next)) unit_here ∙ ap not source_here) it.parcels (omega arith));
        rrrs = no_rrr (λ e. not (has more.units e.1.unit && has more.parties e.1.party && has more.sources e.1.source))
            (none_passes nat_cmp_total nat_cmp-IsAntisymmetric (λ n e. not (has more.units e.unit && has more.parties e.party && has more.sources e.source)) r.rrrs
            (λ n e is.
            let one = anchored r before.rrrs n e is in
            ap (λ b. not (b && has r.parties e.party && has more.sources e.source)) (units_stay e.unit one.unit) ∙ ap (λ b. not (b && has more.sources e.source)) one.party ∙ ap not (sources_stay e.source one.source)))
            (any_numbered (new_right_record unit r.next) (λ e. not (has more.units e.unit && has more.parties e.party && has more.sources e.source)) (r.next + 2 + length it.parcels) it.rights ∙ rights_anchored it.rights known);
        mutations = mutations_stay r more refl (λ n h. h) sources_stay before.mutations;
        mandates = before.mandates;
      })
    where
      new_used : (n : ℕ) → 0 < r.next → r.next + 2 ≤ n → n < more.next → is_used more n ≡ true
      new_used n above low high = grind (arith, nat_tests)
  registered_is_sound formed known room whole once Shares =
      none_passes nat_cmp_total nat_cmp-IsAntisymmetric (λ n u. u.checked && not (has_whole_shares more n)) more.units
      (each_record r.units unit record_of_unit (λ n u. (u.checked && not (has_whole_shares more n)) ≡ false)
      (ap (λ b. it.checked && not b) (all_types more unit (λ type. listed_of_type type it.rights) new_shares) ∙ whole)
      (λ n u is.
      ap (λ b. u.checked && not b) (all_types more n (λ type. type_shares r n type) (λ type. shares_stay n type (stands_apart n u is)))
      ∙ none_at nat_cmp_total nat_cmp-IsAntisymmetric (λ n u. u.checked && not (has_whole_shares r n)) r.units n u (sound Shares) is))
    where
      all_types : (new : Register) (n : ℕ) (shares : RightType → List Ratio) → ((type : RightType) → type_shares new n type ≡ shares type)
          → has_whole_shares new n ≡ (are_whole_or_none (shares Ownership) && are_whole_or_none (shares Lease) && are_whole_or_none (shares Usufruct))
      all_types new n shares same =
          ap (λ it. are_whole_or_none it && are_whole_or_none (type_shares new n Lease) && are_whole_or_none (type_shares new n Usufruct)) (same Ownership)
          ∙ ap (λ it. are_whole_or_none (shares Ownership) && are_whole_or_none it && are_whole_or_none (type_shares new n Usufruct)) (same Lease)
          ∙ ap (λ it. are_whole_or_none (shares Ownership) && are_whole_or_none (shares Lease) && are_whole_or_none it) (same Usufruct)
  registered_is_sound formed known room whole once Bare =
      let rights = and_parts (is_name it.name && is_title it.document && are_parcels it.parcels) (are_rights it.rights) formed in
      let parcels = and_parts (is_name it.name && is_title it.document) (are_parcels it.parcels) rights.0 in
      let owned = and_parts (is_first_count (length it.rights) && have_parties it.rights) (have_owner it.rights) rights.1 in
      none_passes nat_cmp_total nat_cmp-IsAntisymmetric (λ n u. not (has_parcel more n && has_owner more n)) more.units
      (each_record r.units unit record_of_unit (λ n u. not (has_parcel more n && has_owner more n) ≡ false)
      (ap (λ b. not (b && has_owner more unit)) (new_has_parcel parcels.1) ∙ ap not (new_has_owner owned.1))
      (λ n u is.
      let had = and_parts (has_parcel r n) (has_owner r n) (not-false _ (none_at nat_cmp_total nat_cmp-IsAntisymmetric (λ n u. not (has_parcel r n && has_owner r n)) r.units n u (sound Bare) is)) in
      ap (λ b. not (b && has_owner more n)) (any_parcel (λ e. nat_eq e.1.unit n) ∙ ap (λ b. b || list_any (λ e. nat_eq e.1.unit n) new_parcels) had.0)
      ∙ ap not (any_rrr (λ e. is_right_in n Ownership e.1) ∙ ap (λ b. b || list_any (λ e. is_right_in n Ownership e.1) new_rights) had.1)))
  registered_is_sound formed known room whole once Crowded =
      let rights = and_parts (is_name it.name && is_title it.document && are_parcels it.parcels) (are_rights it.rights) formed in
      let parcels = and_parts (is_name it.name && is_title it.document) (are_parcels it.parcels) rights.0 in
      let counted = and_parts (is_first_count (length it.rights) && have_parties it.rights) (have_owner it.rights) rights.1 in
      none_passes nat_cmp_total nat_cmp-IsAntisymmetric (λ n u. nat_lt 256 (parcel_count more n) || nat_lt 256 (rrr_count more n)) more.units
      (each_record r.units unit record_of_unit (λ n u. (nat_lt 256 (parcel_count more n) || nat_lt 256 (rrr_count more n)) ≡ false)
      (ap (λ b. b || nat_lt 256 (rrr_count more unit)) (not_many (parcel_count more unit) (length it.parcels) few_parcels (and_parts (is_first_count (length it.parcels)) (have_labels it.parcels) parcels.1).0)
      ∙ not_many (rrr_count more unit) (length it.rights) few_rights (and_parts (is_first_count (length it.rights)) (have_parties it.rights) counted.0).0)
      (λ n u is.
      let same = count_stays n (stands_apart n u is) in
      ap (λ k. nat_lt 256 k || nat_lt 256 (rrr_count more n)) same.0 ∙ ap (λ k. nat_lt 256 (parcel_count r n) || nat_lt 256 k) same.1
      ∙ none_at nat_cmp_total nat_cmp-IsAntisymmetric (λ n u. nat_lt 256 (parcel_count r n) || nat_lt 256 (rrr_count r n)) r.units n u (sound Crowded) is))
    where
      not_many : (count many : ℕ) → count ≤ many → is_first_count many ≡ true → nat_lt 256 count ≡ false
      not_many count many less few = grind (arith, nat_tests)
  registered_is_sound formed known room whole once Twice =
      let before = refers r (sound Reference) in
      no_rrr (λ e. clashes_with_later more e.0 e.1)
      (none_passes nat_cmp_total nat_cmp-IsAntisymmetric (clashes_with_later more) r.rrrs
      (λ n e is.
      no_rrr (λ f. nat_lt n f.0 && do_clash e f.1) (none_at nat_cmp_total nat_cmp-IsAntisymmetric (clashes_with_later r) r.rrrs n e (sound Twice) is)
      (none_numbered (new_right_record unit r.next) (λ m f. nat_lt n m && do_clash e f) (r.next + 2 + length it.parcels) (r.next + 2 + length it.parcels + length it.rights)
      (λ m a low high. other_clash n m e.unit unit _ (other_unit e.unit (anchored r before.rrrs n e is).unit)) it.rights (omega arith))))
      (list_any-same (λ e. clashes_with_later more e.0 e.1) (λ e. list_any (λ f. nat_lt e.0 f.0 && do_clash e.1 f.1) (map.entries r.rrrs) || list_any (λ f. nat_lt e.0 f.0 && do_clash e.1 f.1) new_rights) (λ e. any_rrr (λ f. nat_lt e.0 f.0 && do_clash e.1 f.1)) new_rights
      ∙ drop_left (λ e. list_any (λ f. nat_lt e.0 f.0 && do_clash e.1 f.1) (map.entries r.rrrs)) (λ e. list_any (λ f. nat_lt e.0 f.0 && do_clash e.1 f.1) new_rights) new_rights
      (none_numbered (new_right_record unit r.next) (λ n e. list_any (λ f. nat_lt n f.0 && do_clash e f.1) (map.entries r.rrrs)) (r.next + 2 + length it.parcels) (r.next + 2 + length it.parcels + length it.rights)
      (λ n a low high. none_passes nat_cmp_total nat_cmp-IsAntisymmetric (λ m f. nat_lt n m && do_clash (new_right_record unit r.next a) f) r.rrrs
      (λ m f at. other_clash n m unit f.unit _ (apart_turned f.unit (other_unit f.unit (anchored r before.rrrs m f at).unit)))) it.rights (omega arith))
      ∙ rights_apart (r.next + 2 + length it.parcels) it.rights (not-false _ once))
    where
      other_clash : (n m a b : ℕ) (c : Bool) → nat_eq a b ≡ false → (nat_lt n m && (nat_eq a b && c)) ≡ false
      other_clash n m a b c apart = ap (λ t. nat_lt n m && (t && c)) apart ∙ and_false (nat_lt n m)
  registered_is_sound formed known room whole once Rank =
      no_rrr (λ e. is_rank_out_of_range more (rank_of e.1.class)) (ranks_grow r more grows r.rrrs (sound Rank))
      (none_numbered (new_right_record unit r.next) (λ n e. is_rank_out_of_range more (rank_of e.class)) (r.next + 2 + length it.parcels) (r.next + 2 + length it.parcels + length it.rights) (λ n a low high. refl) it.rights (omega arith))
