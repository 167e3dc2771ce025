-- The total area of parcels when some are written and others end, and the parcel at each number then.
use Rattle.std.proofs.Common.{◌≡◌, ℕ, ◌+◌, ◌<◌, ◌≤◌, Bool, true, false, cond, ◌&&◌, ◌||◌, not, Option, Some, None, List, [], ◌∷◌, ◌++◌, refl, sym, ap, ◌∙◌, arith}
use Rattle.std.specs.Prelude.{is_some, nat_eq, map as map_list}
use Rattle.std.specs.List.{AllByRecursion, cons_option, filter_map, list_any}
use Rattle.std.specs.Option.{option_map_or}
use Rattle.std.specs.Ordering.{eq_by_cmp, is_eq, nat_cmp}
use Rattle.std.specs.declared.cmp.Ordering.{Ordering}
use Rattle.std.specs.declared.cmp.Ordering.TheVariants.{Less, Equal, Greater}
use Rattle.std.specs.Cmp.{nat_cmp_total}
use Rattle.std.specs.FinMap as map
use Rattle.std.specs.FinMap.{FinMap, find, nat_cmp-IsAntisymmetric, put}
use Rattle.std.specs.FinMap.Entries.{by_order}
use Rattle.std.proofs.lemmas.Bool.{false≢true, and_parts, not-true, or_parts}
use Rattle.std.proofs.lemmas.Bool.Decides.{nat_tests}
use Rattle.std.proofs.lemmas.Cmp.{nat_eq_equiv}
use Rattle.land_acts.proofs.EnteredEntries.{here}
use Rattle.land_acts.proofs.MergedEntries.{get-without}
use Rattle.land_acts.proofs.Numbers.{one_number, tied_number, turned_number}
use Rattle.land_acts.specs.Mutations.Areas.{doubled_areas}
use Rattle.land_core.proofs.FiniteMaps.{none_is_not_some}
use Rattle.land_core.specs.Entries.{are_distinct, has, with_changes, with_entries, without}
use Rattle.land_core.specs.Mergers.{lists_number}
use Rattle.land_core.specs.declared.parcel.ParcelRecord.{ParcelRecord}
use Rattle.land_shape.specs.Outline.{doubled_area}
use Rattle.land_shape.specs.Place.{Place}

abbrev pub Parcels : Type 0
Parcels = FinMap nat_cmp ParcelRecord

abbrev pub keys : List (ℕ × ParcelRecord) → List ℕ
keys es = map_list (λ e. e.0) es

-- the total area of entries, and of all parcels
abbrev pub area_in : List (ℕ × ParcelRecord) → ℕ
area_in es = doubled_areas (map_list (λ e. e.1.outline) es)

abbrev pub area : Parcels → ℕ
area m = area_in (map.entries m)

-- the outlines of the parcels at these numbers
abbrev pub outlines_in : Parcels → List ℕ → List (List Place)
outlines_in m ns = filter_map (λ n. option_map_or (λ p. Some p.outline) (map.get m n) None) ns

-- ---- sums

further : (a b s t : ℕ) → s ≡ a + t → b + s ≡ a + (b + t)
further a b s t is = omega (arith, is)

nested : (a b c s t : ℕ) → s ≡ a + t → t ≡ b + c → s ≡ (a + b) + c
nested a b c s t is then = omega (arith, is, then)

later : (a b c s t : ℕ) → s ≡ b + t → t ≡ a + c → s ≡ (a + b) + c
later a b c s t is then = omega (arith, is, then)

nothing_more : (n : ℕ) → n ≡ 0 + n
nothing_more n = omega arith

-- ---- one parcel

-- a parcel at a new number adds its area
put_adds : (k : ℕ) (p : ParcelRecord) (es : List (ℕ × ParcelRecord)) → find nat_cmp k es ≡ None → area_in (put nat_cmp k p es) ≡ doubled_area p.outline + area_in es
put_adds k p [] none = refl
put_adds k p (e ∷ es) none = go (nat_cmp k e.0) refl (put_adds k p es)
  where
    go : (o : Ordering) → nat_cmp k e.0 ≡ o → (find nat_cmp k es ≡ None → area_in (put nat_cmp k p es) ≡ doubled_area p.outline + area_in es)
        → area_in (by_order o ((k, p) ∷ e ∷ es) ((e.0, p) ∷ es) (e ∷ put nat_cmp k p es)) ≡ doubled_area p.outline + (doubled_area e.1.outline + area_in es)
    go Less is rest = refl
    go Equal is rest = absurd (none_is_not_some (sym none ∙ ap (λ o. cond (is_eq o) (Some e.1) (find nat_cmp k es)) is))
    go Greater is rest =
        further (doubled_area p.outline) (doubled_area e.1.outline) (area_in (put nat_cmp k p es)) (area_in es)
        (rest (sym (ap (λ o. cond (is_eq o) (Some e.1) (find nat_cmp k es)) is) ∙ none))

insert_adds : (m : Parcels) (k : ℕ) (p : ParcelRecord) → map.get m k ≡ None → area (map.insert m k p) ≡ doubled_area p.outline + area m
insert_adds m k p none = ap area_in (map.entries-insert nat_cmp_total m k p) ∙ put_adds k p (map.entries m) (sym (map.get-entries m k) ∙ none)

-- a parcel that ends subtracts its area
remove_takes : (m : Parcels) (k : ℕ) (p : ParcelRecord) → map.get m k ≡ Some p → area m ≡ doubled_area p.outline + area (map.remove m k)
remove_takes m k p is = ap area (sym back) ∙ insert_adds (map.remove m k) k p gone
  where
    gone : map.get (map.remove m k) k ≡ None
    gone = map.get-remove nat_cmp_total m k k ∙ ap (λ b. cond b None (map.get m k)) (tied_number k k ∙ nat_eq_equiv.refl k)

    back : map.insert (map.remove m k) k p ≡ m
    back = map.same_map nat_cmp_total nat_cmp-IsAntisymmetric (map.insert (map.remove m k) k p) m (λ q.
        map.get-insert nat_cmp_total (map.remove m k) k p q
        ∙ ap (cond (eq_by_cmp nat_cmp q k) (Some p)) (map.get-remove nat_cmp_total m k q)
        ∙ elim (eq_by_cmp nat_cmp q k) as (λ b. eq_by_cmp nat_cmp q k ≡ b → cond b (Some p) (cond b None (map.get m q)) ≡ map.get m q) [
          | true ↦ λ at. sym is ∙ ap (map.get m) (sym (one_number q k at))
          | false ↦ λ apart. refl
        ] refl)

-- removing a missing key changes nothing
remove_nothing : (m : Parcels) (k : ℕ) → map.get m k ≡ None → map.remove m k ≡ m
remove_nothing m k none = map.same_map nat_cmp_total nat_cmp-IsAntisymmetric (map.remove m k) m (λ q.
    map.get-remove nat_cmp_total m k q
    ∙ elim (eq_by_cmp nat_cmp q k) as (λ b. eq_by_cmp nat_cmp q k ≡ b → cond b None (map.get m q) ≡ map.get m q) [
      | true ↦ λ at. sym none ∙ ap (map.get m) (sym (one_number q k at))
      | false ↦ λ apart. refl
    ] refl)

-- ---- several parcels

-- removing a key does not change the other keys
outlines_stay : (m : Parcels) (k : ℕ) (ns : List ℕ) → list_any (nat_eq k) ns ≡ false → outlines_in (map.remove m k) ns ≡ outlines_in m ns
outlines_stay m k [] apart = refl
outlines_stay m k (n ∷ ns) apart =
    let parts = or_parts (nat_eq k n) (list_any (nat_eq k) ns) apart in
    ap (λ (o : Option ParcelRecord). cons_option (option_map_or (λ p. Some p.outline) o None) (outlines_in (map.remove m k) ns))
    (map.get-remove nat_cmp_total m k n ∙ ap (λ b. cond b None (map.get m n)) (tied_number n k ∙ turned_number k n parts.0))
    ∙ ap (cons_option (option_map_or (λ p. Some p.outline) (map.get m n) None)) (outlines_stay m k ns parts.1)

-- parcels that end subtract their areas
pub without_takes : (m : Parcels) (ns : List ℕ) → are_distinct nat_eq ns ≡ true → area m ≡ doubled_areas (outlines_in m ns) + area (without m ns)
without_takes m [] once = nothing_more (area m)
without_takes m (k ∷ ns) once =
    let parts = and_parts (not (list_any (nat_eq k) ns)) (are_distinct nat_eq ns) once in
    found
    (without_takes (map.remove m k) ns parts.1
    ∙ ap (λ them. doubled_areas them + area (without (map.remove m k) ns)) (outlines_stay m k ns (not-true (list_any (nat_eq k) ns) parts.0)))
    (map.get m k) refl
  where
    found : area (map.remove m k) ≡ doubled_areas (outlines_in m ns) + area (without (map.remove m k) ns) → (o : Option ParcelRecord) → map.get m k ≡ o
        → area m ≡ doubled_areas (cons_option (option_map_or (λ p. Some p.outline) o None) (outlines_in m ns)) + area (without (map.remove m k) ns)
    found rest None e = ap area (sym (remove_nothing m k e)) ∙ rest
    found rest (Some p) e =
        nested (doubled_area p.outline) (doubled_areas (outlines_in m ns)) (area (without (map.remove m k) ns)) (area m) (area (map.remove m k)) (remove_takes m k p e) rest

-- no number that is written later is written now
unlisted : (k : ℕ) (ns : List ℕ) → list_any (nat_eq k) ns ≡ false → lists_number ns k ≡ false
unlisted k [] apart = refl
unlisted k (n ∷ ns) apart =
    let parts = or_parts (nat_eq k n) (list_any (nat_eq k) ns) apart in
    ap (λ b. b || lists_number ns k) (turned_number k n parts.0) ∙ unlisted k ns parts.1

still_free : (m : Parcels) (k : ℕ) (p : ParcelRecord) (es : List (ℕ × ParcelRecord)) → list_any (nat_eq k) (keys es) ≡ false
    → AllByRecursion (λ e. map.get m e.0 ≡ None) es → AllByRecursion (λ e. map.get (map.insert m k p) e.0 ≡ None) es
still_free m k p [] apart free = tt
still_free m k p (e ∷ es) apart free =
    let parts = or_parts (nat_eq k e.0) (list_any (nat_eq k) (keys es)) apart in
    (map.get-insert nat_cmp_total m k p e.0 ∙ ap (λ b. cond b (Some p) (map.get m e.0)) (tied_number e.0 k ∙ turned_number k e.0 parts.0) ∙ free.0, still_free m k p es parts.1 free.1)

-- parcels at new numbers add their areas
pub entries_add : (m : Parcels) (es : List (ℕ × ParcelRecord)) → are_distinct nat_eq (keys es) ≡ true → AllByRecursion (λ e. map.get m e.0 ≡ None) es → area (with_entries m es) ≡ area_in es + area m
entries_add m [] once free = nothing_more (area m)
entries_add m (e ∷ es) once free =
    let parts = and_parts (not (list_any (nat_eq e.0) (keys es))) (are_distinct nat_eq (keys es)) once in
    let more = map.insert m e.0 e.1 in
    later (doubled_area e.1.outline) (area_in es) (area m) (area (with_entries more es)) (area more)
    (entries_add more es parts.1 (still_free m e.0 e.1 es (not-true (list_any (nat_eq e.0) (keys es)) parts.0) free.1)) (insert_adds m e.0 e.1 free.0)

-- a number that is not written is unchanged
pub get-others : (m : Parcels) (es : List (ℕ × ParcelRecord)) (n : ℕ) → lists_number (keys es) n ≡ false → map.get (with_entries m es) n ≡ map.get m n
get-others m [] n apart = refl
get-others m (e ∷ es) n apart =
    let parts = or_parts (nat_eq e.0 n) (lists_number (keys es) n) apart in
    get-others (map.insert m e.0 e.1) es n parts.1
    ∙ map.get-insert nat_cmp_total m e.0 e.1 n
    ∙ ap (λ b. cond b (Some e.1) (map.get m n)) (tied_number n e.0 ∙ turned_number e.0 n parts.0)

-- each written parcel exists
pub entries_stand : (m : Parcels) (es : List (ℕ × ParcelRecord)) → are_distinct nat_eq (keys es) ≡ true → AllByRecursion (λ e. map.get (with_entries m es) e.0 ≡ Some e.1) es
entries_stand m [] once = tt
entries_stand m (e ∷ es) once =
    let parts = and_parts (not (list_any (nat_eq e.0) (keys es))) (are_distinct nat_eq (keys es)) once in
    let more = map.insert m e.0 e.1 in
    (get-others more es e.0 (unlisted e.0 (keys es) (not-true (list_any (nat_eq e.0) (keys es)) parts.0)) ∙ here m e.0 e.1, entries_stand more es parts.1)

-- ---- parcels that replace others

-- if a concatenation is distinct, so is each part
pub once_before : (ks ns : List ℕ) → are_distinct nat_eq (ks ++ ns) ≡ true → are_distinct nat_eq ks ≡ true
once_before [] ns once = refl
once_before (k ∷ ks) ns once =
    let parts = and_parts (not (list_any (nat_eq k) (ks ++ ns))) (are_distinct nat_eq (ks ++ ns)) once in
    ap (λ b. not b && are_distinct nat_eq ks) (fewer ks (not-true (list_any (nat_eq k) (ks ++ ns)) parts.0)) ∙ once_before ks ns parts.1
  where
    fewer : (js : List ℕ) → list_any (nat_eq k) (js ++ ns) ≡ false → list_any (nat_eq k) js ≡ false
    fewer [] h = refl
    fewer (j ∷ js) h =
        let parts = or_parts (nat_eq k j) (list_any (nat_eq k) (js ++ ns)) h in
        ap (λ b. b || list_any (nat_eq k) js) parts.0 ∙ fewer js parts.1

pub once_after : (ks ns : List ℕ) → are_distinct nat_eq (ks ++ ns) ≡ true → are_distinct nat_eq ns ≡ true
once_after [] ns once = once
once_after (k ∷ ks) ns once = once_after ks ns (and_parts (not (list_any (nat_eq k) (ks ++ ns))) (are_distinct nat_eq (ks ++ ns)) once).1

-- a replacement: no number occurs twice, written parcels have new numbers, and parcels that end exist
pub record IsReplacement (m : Parcels) (next : ℕ) (new : List (ℕ × ParcelRecord)) (ended : List ℕ) : Type 0 where
  pub once : are_distinct nat_eq (keys new ++ ended) ≡ true
  pub above : AllByRecursion (λ e. next ≤ e.0) new
  pub below : (n : ℕ) (p : ParcelRecord) → map.get m n ≡ Some p → n < next
  pub stood : (n : ℕ) → lists_number ended n ≡ true → has m n ≡ true

module _ (m : Parcels) (next : ℕ) (new : List (ℕ × ParcelRecord)) (ended : List ℕ) (h : IsReplacement m next new ended) where
  -- no parcel has a new number
  absent : (k : ℕ) → next ≤ k → map.get m k ≡ None
  absent k above = found (map.get m k) refl
    where
      found : (o : Option ParcelRecord) → map.get m k ≡ o → o ≡ None
      found None e = refl
      found (Some p) e = absurd (let less = h.below k p e in omega (arith, less, above))

  free_left : (k : ℕ) → next ≤ k → map.get (without m ended) k ≡ None
  free_left k above = get-without m ended k ∙ ap (cond (lists_number ended k) None) (absent k above) ∙ none (lists_number ended k)
    where
      none : (b : Bool) → cond b None (let nothing : Option ParcelRecord = None in nothing) ≡ None
      none true = refl
      none false = refl

  all_free : (es : List (ℕ × ParcelRecord)) → AllByRecursion (λ e. next ≤ e.0) es → AllByRecursion (λ e. map.get (without m ended) e.0 ≡ None) es
  all_free [] above = tt
  all_free (e ∷ es) above = (free_left e.0 above.0, all_free es above.1)

  -- a used number is not a new one
  not_new : (n : ℕ) → n < next → (es : List (ℕ × ParcelRecord)) → AllByRecursion (λ e. next ≤ e.0) es → lists_number (keys es) n ≡ false
  not_new n less [] above = refl
  not_new n less (e ∷ es) above = ap (λ b. b || lists_number (keys es) n) (other e.0 above.0) ∙ not_new n less es above.1
    where
      other : (k : ℕ) → next ≤ k → nat_eq k n ≡ false
      other k above = grind (arith, nat_tests)

  -- written parcels add their areas, and parcels that end subtract theirs
  pub area_changes : area (with_changes m new ended) + doubled_areas (outlines_in m ended) ≡ area m + area_in new
  area_changes =
      balance (area (with_changes m new ended)) (area m) (area_in new) (doubled_areas (outlines_in m ended)) (area (without m ended))
      (entries_add (without m ended) new (once_before (keys new) ended h.once) (all_free new h.above))
      (without_takes m ended (once_after (keys new) ended h.once))
    where
      balance : (then before put gone left : ℕ) → then ≡ put + left → before ≡ gone + left → then + gone ≡ before + put
      balance then before put gone left is was = omega (arith, is, was)

  pub ended_gone : (n : ℕ) → lists_number ended n ≡ true → map.get (with_changes m new ended) n ≡ None
  ended_gone n listed =
      get-others (without m ended) new n (not_new n (in_use (map.get m n) refl (h.stood n listed)) new h.above)
      ∙ get-without m ended n
      ∙ ap (λ b. cond b None (map.get m n)) listed
    where
      in_use : (o : Option ParcelRecord) → map.get m n ≡ o → is_some o ≡ true → n < next
      in_use None e there = absurd (false≢true there)
      in_use (Some p) e there = h.below n p e

  pub new_stand : AllByRecursion (λ e. (next ≤ e.0) × (map.get (with_changes m new ended) e.0 ≡ Some e.1)) new
  new_stand = both new h.above (entries_stand (without m ended) new (once_before (keys new) ended h.once))
    where
      both : (es : List (ℕ × ParcelRecord)) → AllByRecursion (λ e. next ≤ e.0) es → AllByRecursion (λ e. map.get (with_changes m new ended) e.0 ≡ Some e.1) es
          → AllByRecursion (λ e. (next ≤ e.0) × (map.get (with_changes m new ended) e.0 ≡ Some e.1)) es
      both [] above stand = tt
      both (e ∷ es) above stand = ((above.0, stand.0), both es above.1 stand.1)

  pub others_stay : (n : ℕ) → lists_number ended n ≡ false → lists_number (keys new) n ≡ false → map.get (with_changes m new ended) n ≡ map.get m n
  others_stay n left apart = get-others (without m ended) new n apart ∙ get-without m ended n ∙ ap (λ b. cond b None (map.get m n)) left
