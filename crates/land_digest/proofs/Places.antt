-- No two events of a history have the same place in the order.
use Rattle.std.proofs.Common.{◌≡◌, ◌≢◌, ℕ, suc, ℤ, ◌<ℤ◌, int_le, int_lt, int_eq, Bool, true, false, cond, not}
use Rattle.std.proofs.Common.{◌&&◌, ◌||◌, ◌⊎◌, List, [], ◌∷◌, ◌++◌, filter, inl, inr, refl, sym, ap, ap₂, ◌∙◌}
use Rattle.std.proofs.Common.{arith}
use Rattle.std.proofs.lemmas.Bool.Decides.{nat_tests}
use Rattle.std.proofs.lemmas.Bool.{false≢true, and_parts, not-true}
use Rattle.std.proofs.lemmas.Int.{ints}
use Rattle.std.specs.List.{list_any}
use Rattle.std.specs.Ordering.{int_cmp, is_eq, nat_cmp, ordering_then}
use Rattle.std.specs.Prelude.{⊤}
use Rattle.std.specs.declared.cmp.Ordering.{Ordering}
use Rattle.std.specs.declared.cmp.Ordering.TheVariants.{Less, Equal, Greater}
use Rattle.land_core.specs.Entries.{are_distinct}
use Rattle.land_digest.proofs.AllTables.{AreNumbered, also, joined, table_from}
use Rattle.land_digest.proofs.HistoryTables.{are_numbered, event_lists}
use Rattle.land_digest.proofs.Lifespans.{AllDisjoint, ComparesKeys, all_disjoint, by_pairs}
use Rattle.land_digest.proofs.Membership.{In, from_filter, from_flat_map, from_map, in_either}
use Rattle.land_digest.proofs.OneTable.{AreDisjoint, meets, none_in}
use Rattle.land_digest.specs.Events.{Event, have_distinct_places, is_same_event_place}
use Rattle.land_digest.specs.History.{history_events}
use Rattle.land_digest.specs.Laws.{EventsHaveDistinctPlaces, HasIntervals}
use Rattle.land_digest.specs.Rows.{mandate_row, member_row, mutation_row, naming_row, parcel_row, party_row}
use Rattle.land_digest.specs.Rows.{role_row, rrr_row, source_row, unit_row}
use Rattle.land_digest.specs.Versions.{Row, end_of, moment_event, moment_events, start_of, table_events}
use Rattle.land_digest.specs.Versions.{version_events}
use Rattle.land_tables_history.specs.Intervals.{is_same_grant, is_same_mandate, is_same_member}
use Rattle.land_tables_history.specs.Intervals.{is_same_naming, is_same_number, overlap}
use Rattle.land_tables_history.specs.Pairs.{grants_by_pairs, mandates_by_pairs, members_by_pairs}
use Rattle.land_tables_history.specs.Pairs.{namings_by_pairs, numbers_by_pairs}
use Rattle.land_tables_history.specs.ValidHistory.{is_same_stamp}
use Rattle.land_tables_history.specs.declared.history.History.{History}
use Rattle.land_tables_history.specs.declared.moment.Moment.{Moment}
use Rattle.land_tables_history.specs.declared.version.Version.{Version}

fails : (b : Bool) → (b ≡ true → ⊥) → b ≡ false
fails true h = absurd (h refl)
fails false h = refl

none_any : {X : Type 0} (p : X → Bool) (xs : List X) → ((x : X) → In x xs → p x ≡ false) → list_any p xs
    ≡ false
none_any p [] h = refl
none_any p (x ∷ xs) h = ap₂ (λ a b. a || b) (h x (inl refl)) (none_any p xs (λ y i. h y (inr i)))

-- ---- two events with the same place

eq_then : (r s : Ordering) → is_eq (ordering_then r s) ≡ true → (is_eq r ≡ true) × (is_eq s ≡ true)
eq_then Less s h = absurd (false≢true h)
eq_then Equal s h = (refl, h)
eq_then Greater s h = absurd (false≢true h)

same_nat : (a b : ℕ) → is_eq (nat_cmp a b) ≡ true → a ≡ b
same_nat a b h = grind (arith, nat_tests)

same_int : (a b : ℤ) → is_eq (int_cmp a b) ≡ true → a ≡ b
same_int a b h = grind (arith, ints)

record HaveOnePlace (a b : Event) : Type 0 where
  stamp : a.stamp ≡ b.stamp
  ends : a.ends ≡ b.ends
  table : a.table ≡ b.table
  first : a.first ≡ b.first
  second : a.second ≡ b.second

one_place : (a b : Event) → is_same_event_place a b ≡ true → HaveOnePlace a b
one_place a b h =
    let five = eq_then _ (nat_cmp a.second b.second) h in
    let four = eq_then _ (nat_cmp a.first b.first) five.0 in
    let three = eq_then _ (nat_cmp a.table b.table) four.0 in
    let two = eq_then (int_cmp a.stamp b.stamp) (nat_cmp a.ends b.ends) three.0 in
    record {
      stamp = same_int a.stamp b.stamp two.0;
      ends = same_nat a.ends b.ends two.1;
      table =
          same_nat a.table b.table three.1;
      first = same_nat a.first b.first four.1;
      second =
          same_nat a.second b.second five.1;
    }

-- ---- lists of events with distinct places

either_case : {A B C : Type 0} → A ⊎ B → (A → C) → (B → C) → C
either_case (inl a) f g = f a
either_case (inr b) f g = g b

distinct_append : (xs ys : List Event) → have_distinct_places xs ≡ true → have_distinct_places ys ≡ true
    → ((x y : Event) → In x xs → In y ys → is_same_event_place x y ≡ false) → have_distinct_places (xs ++ ys) ≡ true
distinct_append [] ys a b cross = b
distinct_append (x ∷ xs) ys a b cross =
    let parts = and_parts (not (list_any (is_same_event_place x) xs)) (have_distinct_places xs) a in
    ap₂ (λ p q. not p && q)
    (none_any (is_same_event_place x) (xs ++ ys)
    (λ y i. either_case (in_either y xs ys i)
    (λ j. none_in (is_same_event_place x) y xs (not-true (list_any (is_same_event_place x) xs) parts.0) j)
    (λ j. cross x y (inl refl) j)))
    (distinct_append xs ys parts.1 b (λ z y i j. cross z y (inr i) j))

distinct_filter : (p : Event → Bool) (xs : List Event) → have_distinct_places xs ≡ true
    → have_distinct_places (filter p xs) ≡ true
distinct_filter p [] h = refl
distinct_filter p (x ∷ xs) h =
    let parts = and_parts (not (list_any (is_same_event_place x) xs)) (have_distinct_places xs) h in
    let rest = distinct_filter p xs parts.1 in
    elim (p x) as (λ b. have_distinct_places (cond b (x ∷ filter p xs) (filter p xs)) ≡ true) [
      | true ↦ ap₂ (λ a b. not a && b)
          (none_any (is_same_event_place x) (filter p xs)
          (λ y i. none_in (is_same_event_place x) y xs (not-true (list_any (is_same_event_place x) xs) parts.0)
          (from_filter p y xs i).0)) rest
      | false ↦ rest
    ]

-- ---- one table

module _ {X : Type 0} (same : X → X → Bool) (row : X → Row) (compares : ComparesKeys same row) where
  one_key : (v w : Version X) → (row v.what).first ≡ (row w.what).first
      → (row v.what).second ≡ (row w.what).second → same v.what w.what ≡ true
  one_key v w first second = compares v.what w.what (ap₂ (λ x y. (x, y)) first second)

  ends_meet : (same : Bool) (a b c : ℤ) → same ≡ true → a <ℤ b → c <ℤ b → (same && int_lt a b && int_lt c b)
      ≡ true
  ends_meet same a b c is h g = grind (arith, ints)

  distinct_versions : (vs : List (Version X)) → AreDisjoint same vs
      → have_distinct_places (table_events row vs) ≡ true
  distinct_versions [] disjoint = refl
  distinct_versions (v ∷ vs) disjoint =
      ap₂ (λ p q. not p && q) (none_any (is_same_event_place b) (e ∷ table_events row vs) first)
      (ap₂ (λ p q. not p && q) (none_any (is_same_event_place e) (table_events row vs) second)
      (distinct_versions vs (record { apart = parts.1; positive = λ w i. disjoint.positive w (inr i) })))
    where
      b : Event
      b = start_of (row v.what) v.since

      e : Event
      e = end_of (row v.what) v.until

      parts : (not (list_any (overlap same v) vs) ≡ true) × (are_distinct (overlap same) vs ≡ true)
      parts = and_parts (not (list_any (overlap same v) vs)) (are_distinct (overlap same) vs) disjoint.apart

      none : (w : Version X) → In w vs → overlap same v w ≢ true
      none w i h =
          false≢true (sym (none_in (overlap same v) w vs (not-true (list_any (overlap same v) vs) parts.0) i)
          ∙ h)

      positive_v : v.since <ℤ v.until
      positive_v = disjoint.positive v (inl refl)

      mixed : (x y : Event) → x.ends ≡ 0 → y.ends ≡ 1 → is_same_event_place x y ≡ true → ⊥
      mixed x y a c h = let n = (one_place x y h).ends in omega (arith, a, c, n)

      mixed_back : (x y : Event) → x.ends ≡ 1 → y.ends ≡ 0 → is_same_event_place x y ≡ true → ⊥
      mixed_back x y a c h = let n = (one_place x y h).ends in omega (arith, a, c, n)

      two_starts : (w : Version X) → In w vs → is_same_event_place b (start_of (row w.what) w.since) ≡ true → ⊥
      two_starts w i h =
          let p = one_place b (start_of (row w.what) w.since) h in
          let since : v.since ≡ w.since = p.stamp in
          let positive_w : w.since <ℤ w.until = disjoint.positive w (inr i) in
          none w i (ap (λ t. same v.what w.what && int_lt v.since w.until && int_lt t v.until) (sym since)
          ∙ meets _ v.since v.until w.until (one_key v w p.first p.second) positive_v
          (omega (arith, ints, since, positive_w)))

      two_ends : (w : Version X) → In w vs → is_same_event_place e (end_of (row w.what) w.until) ≡ true → ⊥
      two_ends w i h =
          let p = one_place e (end_of (row w.what) w.until) h in
          let until : v.until ≡ w.until = p.stamp in
          let positive_w : w.since <ℤ w.until = disjoint.positive w (inr i) in
          none w i (ap (λ t. same v.what w.what && int_lt v.since t && int_lt w.since v.until) (sym until)
          ∙ ends_meet _ v.since v.until w.since (one_key v w p.first p.second) positive_v
          (omega (arith, ints, until, positive_w)))

      no_start : (w : Version X) → In w vs → (y : Event) → In y (version_events row w) → is_same_event_place b y
          ≡ true → ⊥
      no_start w i y (inl f) h = two_starts w i (ap (is_same_event_place b) f ∙ h)
      no_start w i y (inr (inl f)) h =
          mixed b (end_of (row w.what) w.until) refl refl (ap (is_same_event_place b) f ∙ h)
      no_start w i y (inr (inr f)) h = elim f [ ]

      no_end : (w : Version X) → In w vs → (y : Event) → In y (version_events row w) → is_same_event_place e y
          ≡ true → ⊥
      no_end w i y (inl f) h =
          mixed_back e (start_of (row w.what) w.since) refl refl (ap (is_same_event_place e) f ∙ h)
      no_end w i y (inr (inl f)) h = two_ends w i (ap (is_same_event_place e) f ∙ h)
      no_end w i y (inr (inr f)) h = elim f [ ]

      first : (y : Event) → In y (e ∷ table_events row vs) → is_same_event_place b y ≡ false
      first y (inl f) = fails (is_same_event_place b y) (λ h. mixed b e refl refl (ap (is_same_event_place b) f ∙ h))
      first y (inr i) = let a = from_flat_map (version_events row) y vs i in
          fails (is_same_event_place b y) (no_start a.0 a.1 y a.2)

      second : (y : Event) → In y (table_events row vs) → is_same_event_place e y ≡ false
      second y i = let a = from_flat_map (version_events row) y vs i in
          fails (is_same_event_place e y) (no_end a.0 a.1 y a.2)

-- ---- moments

distinct_moments : (ms : List Moment) → are_distinct is_same_stamp ms ≡ true
    → have_distinct_places (moment_events ms) ≡ true
distinct_moments [] h = refl
distinct_moments (m ∷ ms) h =
    let parts = and_parts (not (list_any (is_same_stamp m) ms)) (are_distinct is_same_stamp ms) h in
    ap₂ (λ p q. not p && q)
    (none_any (is_same_event_place (moment_event m)) (moment_events ms)
    (λ y i. other y (not-true (list_any (is_same_stamp m) ms) parts.0) (from_map moment_event y ms i)))
    (distinct_moments ms parts.1)
  where
    equal : (a b : ℤ) → a ≡ b → int_eq a b ≡ true
    equal a b e = grind (arith, ints)

    other : (y : Event) → list_any (is_same_stamp m) ms ≡ false → (n : Moment) × In n ms
        × (moment_event n ≡ y) → is_same_event_place (moment_event m) y ≡ false
    other y none a = fails (is_same_event_place (moment_event m) y) λ h.
        let p = one_place (moment_event m) (moment_event a.0) (ap (is_same_event_place (moment_event m)) a.2 ∙ h) in
        false≢true (sym (none_in (is_same_stamp m) a.0 ms none a.1) ∙ equal m.stamp a.0.stamp p.stamp)

-- ---- all tables

abbrev AllDistinct : List (List Event) → Type 0
AllDistinct [] = ⊤
AllDistinct (l ∷ ls) = (have_distinct_places l ≡ true) × AllDistinct ls

joined_distinct : (n : ℕ) (ls : List (List Event)) → AreNumbered n ls → AllDistinct ls
    → have_distinct_places (joined ls) ≡ true
joined_distinct n [] of all = refl
joined_distinct n (l ∷ ls) of all =
    distinct_append l (joined ls) all.0 (joined_distinct (suc n) ls of.1 all.1) λ x y i j.
    fails (is_same_event_place x y) λ h.
    let p = (one_place x y h).table in
    let a = of.0 x i in
    let b = table_from (suc n) ls y of.1 j in
    omega (arith, p, a, b)

history_distinct : (moments : List Moment) (h : History) → HasIntervals moments h
    → have_distinct_places (history_events moments h) ≡ true
history_distinct moments h valid = joined_distinct 0 (event_lists moments h) (are_numbered moments h) all
  where
    in_h : AllDisjoint h
    in_h = all_disjoint moments h valid.lifespans

    all : AllDistinct (event_lists moments h)
    all =
        also (distinct_moments moments valid.stamps)
        (also (distinct_versions is_same_number party_row
        (by_pairs is_same_number party_row numbers_by_pairs) h.parties in_h.parties)
        (also (distinct_versions is_same_grant role_row
        (by_pairs is_same_grant role_row grants_by_pairs) h.roles in_h.roles)
        (also (distinct_versions is_same_member member_row
        (by_pairs is_same_member member_row members_by_pairs) h.members in_h.members)
        (also (distinct_versions is_same_number unit_row
        (by_pairs is_same_number unit_row numbers_by_pairs) h.units in_h.units)
        (also (distinct_versions is_same_number parcel_row
        (by_pairs is_same_number parcel_row numbers_by_pairs) h.parcels in_h.parcels)
        (also (distinct_versions is_same_number rrr_row
        (by_pairs is_same_number rrr_row numbers_by_pairs) h.rrrs in_h.rrrs)
        (also (distinct_versions is_same_number source_row
        (by_pairs is_same_number source_row numbers_by_pairs) h.sources in_h.sources)
        (also (distinct_versions is_same_number mutation_row
        (by_pairs is_same_number mutation_row numbers_by_pairs) h.mutations in_h.mutations)
        (also (distinct_versions is_same_naming naming_row
        (by_pairs is_same_naming naming_row namings_by_pairs) h.namings in_h.namings)
        (also (distinct_versions is_same_mandate mandate_row
        (by_pairs is_same_mandate mandate_row mandates_by_pairs) h.mandates in_h.mandates) tt))))))))))

-- no two of any selected events have the same place
pub selected_distinct : (p : Event → Bool) (moments : List Moment) (h : History) → HasIntervals moments h
    → have_distinct_places (filter p (history_events moments h)) ≡ true
selected_distinct p moments h valid =
    distinct_filter p (history_events moments h) (history_distinct moments h valid)

pub events_have_distinct_places : EventsHaveDistinctPlaces
events_have_distinct_places moments h s valid = selected_distinct (λ e. int_le e.stamp s) moments h valid
