-- The values that are current together under a key, at each moment and at each stamp.
use Rattle.std.proofs.Common.{◌≡◌, ◌↔◌, ◌⊎◌, inl, inr, ℕ, ◌==◌, Bool, true, false, cond, not, ◌&&◌, ◌||◌, List, [], ◌∷◌, ◌++◌, Option, Some, None, filter, map as map_list, refl, sym, ap, ap₂, ◌∙◌, subst, arith}
use Rattle.std.specs.Prelude.{ℤ, int_le, int_lt, nat_eq}
use Rattle.std.proofs.lemmas.Bool.{false≢true, and_from, and_parts, eqb-true, or_parts}
use Rattle.std.proofs.lemmas.List.{map-append}
use Rattle.std.proofs.lemmas.List.Elements.{All-from_recursion, filter-append, recursion_from_All}
use Rattle.std.proofs.lemmas.List.Folds.{list_all-append}
use Rattle.std.proofs.lemmas.List.Sorted.{list_any-IsPermutation}
use Rattle.std.specs.FinMap as map
use Rattle.std.specs.List.{AllByRecursion, cons_option, filter_map, list_all, list_any}
use Rattle.std.proofs.lemmas.Cmp.{nat_eq_equiv}
use Rattle.land_core.specs.ByUnit.{items_of_unit}
use Rattle.land_core.specs.declared.register.Register.{Register}
use Rattle.land_tables_history.proofs.Distinct.{distinct_standing}
use Rattle.land_tables_history.proofs.Entered.{made_part}
use Rattle.land_tables_history.specs.History.{register_of_history}
use Rattle.land_tables_history.specs.Intervals.{AreApart, is_interval, is_same_number}
use Rattle.land_tables_history.specs.Standing.{part_at, current_values, is_current}
use Rattle.land_tables_history.specs.declared.history.History.{History}
use Rattle.land_tables_history.specs.declared.moment.Moment.{Moment}
use Rattle.land_tables_history.specs.declared.version.Version.{Version}
use Rattle.land_tables_validity.specs.LiveSpan.{live_spans_of, live_span, span_values, if_any_marked}
use Rattle.land_tables_validity.specs.Never.{Never}
use Rattle.land_tables_validity.specs.CoverageSpans.{are_in_range}
use Rattle.land_tables_validity.proofs.Latest.{Empty, Matched, matched}
use Rattle.land_tables_history.specs.Sweeps.Sweep.{AreSound, is_at, values_under_key}
use Rattle.land_tables_history.specs.declared.sweeps.sweep.LiveSpan.{LiveSpan}

moved : (a b c : Bool) → (a && b && c) ≡ ((b && c) && a)
moved a b c = grind arith

-- ---- between stamps

module _ {T : Type 0} where
  abbrev version_of : LiveSpan T → Version T
  version_of x = record { what = x.what; since = x.since; until = x.until }

  -- a lifespan starts at a stamp, and ends after that, at a stamp or never
  abbrev is_life : List Moment → LiveSpan T → Bool
  is_life moments x = is_interval moments (version_of x)

  abbrev pub AreLives : List Moment → List (LiveSpan T) → Type 0
  AreLives moments xs = list_all (is_life moments) xs ≡ true

  by_key : (key : ℕ) (t : ℤ) (x : LiveSpan T) → is_at key t x ≡ (is_current t (version_of x) && (x.key == key))
  by_key key t x = moved (x.key == key) (int_le x.since t) (int_lt t x.until)

  same_there : (moments : List Moment) (key : ℕ) (s t : ℤ) → ((v : Version T) → is_interval moments v ≡ true → is_current t v ≡ is_current s v)
      → (xs : List (LiveSpan T)) → AreLives moments xs → filter (is_at key t) xs ≡ filter (is_at key s) xs
  same_there moments key s t same [] all = refl
  same_there moments key s t same (x ∷ xs) all =
      let parts = and_parts (is_life moments x) (list_all (is_life moments) xs) all in
      ap₂ (λ b l. cond b (x ∷ l) l)
      (by_key key t x ∙ ap (λ b. b && (x.key == key)) (same (version_of x) parts.0) ∙ sym (by_key key s x))
      (same_there moments key s t same xs parts.1)

  none_there : (moments : List Moment) (key : ℕ) (t : ℤ) → ((v : Version T) → is_interval moments v ≡ true → is_current t v ≡ false)
      → (xs : List (LiveSpan T)) → AreLives moments xs → filter (is_at key t) xs ≡ []
  none_there moments key t none [] all = refl
  none_there moments key t none (x ∷ xs) all =
      let parts = and_parts (is_life moments x) (list_all (is_life moments) xs) all in
      ap (λ b. cond b (x ∷ filter (is_at key t) xs) (filter (is_at key t) xs))
      (by_key key t x ∙ ap (λ b. b && (x.key == key)) (none (version_of x) parts.0))
      ∙ none_there moments key t none xs parts.1

  -- the values that are current together at a moment are so at one of the stamps, or there are none
  at_any_time : (moments : List Moment) → are_in_range moments ≡ true → (xs : List (LiveSpan T)) → AreLives moments xs
      → (P : List T → Bool) → P [] ≡ true → (key : ℕ) → AllByRecursion (λ m. P (values_under_key xs key m.stamp) ≡ true) moments
      → (t : ℤ) → P (values_under_key xs key t) ≡ true
  at_any_time moments in_time xs all P empty key stamps t = go (matched moments t in_time)
    where
      go : Matched moments t ⊎ Empty moments t → P (values_under_key xs key t) ≡ true
      go (inl m) =
          ap (λ l. P (span_values l)) (same_there moments key m.moment.stamp t (λ v. m.same v) xs all)
          ∙ m.among (λ m. P (values_under_key xs key m.stamp) ≡ true) stamps
      go (inr e) = ap (λ l. P (span_values l)) (none_there moments key t (λ v. e.none v) xs all) ∙ empty

  -- two lists
  pub values_under_key-append : (xs ys : List (LiveSpan T)) (key : ℕ) (t : ℤ) → values_under_key (xs ++ ys) key t ≡ values_under_key xs key t ++ values_under_key ys key t
  values_under_key-append xs ys key t =
      ap span_values (filter-append (is_at key t) xs ys)
      ∙ map-append (λ (x : LiveSpan T). x.what) (filter (is_at key t) xs) (filter (is_at key t) ys)

  pub lives-append : (moments : List Moment) (xs ys : List (LiveSpan T)) → AreLives moments xs → AreLives moments ys
      → AreLives moments (xs ++ ys)
  lives-append moments xs ys p q =
      list_all-append (is_life moments) xs ys ∙ and_from (list_all (is_life moments) xs) (list_all (is_life moments) ys) p q

-- ---- the values of versions

module _ {X T : Type 0} (key : X → ℕ) (what : X → T) where
  pub all_live : (moments : List Moment) (vs : List (Version X)) → list_all (is_interval moments) vs ≡ true
      → AreLives moments (live_spans_of key what vs)
  all_live moments [] all = refl
  all_live moments (v ∷ vs) all =
      let parts = and_parts (is_interval moments v) (list_all (is_interval moments) vs) all in
      and_from (is_interval moments v) (list_all (is_life moments) (live_spans_of key what vs)) parts.0 (all_live moments vs parts.1)

  module _ (n : ℕ) where
    -- the values of records under a number, with one of them in front
    abbrev under : List X → List T
    under xs = items_of_unit key what n xs

    abbrev with : Bool → X → List T → List T
    with b x ts = cons_option (cond b (Some (what x)) None) ts

    -- the values that are current under a number at a moment are those of the versions that are current then
    pub stood : (t : ℤ) (vs : List (Version X)) → values_under_key (live_spans_of key what vs) n t ≡ under (current_values t vs)
    stood t [] = refl
    stood t (v ∷ vs) =
        go (is_at n t (live_span key what v)) (is_current t v) (nat_eq (key v.what) n) refl
        (moved (key v.what == n) (int_le v.since t) (int_lt t v.until)) (stood t vs)
      where
        go : (b c d : Bool) → nat_eq (key v.what) n ≡ d → b ≡ (c && d) → values_under_key (live_spans_of key what vs) n t ≡ under (current_values t vs)
            → span_values (cond b (live_span key what v ∷ filter (is_at n t) (live_spans_of key what vs)) (filter (is_at n t) (live_spans_of key what vs)))
            ≡ under (map_list (λ (v : Version X). v.what) (cond c (v ∷ filter (is_current t) vs) (filter (is_current t) vs)))
        go true true true is e h = ap (λ l. what v.what ∷ l) h ∙ ap (λ k. with k v.what (under (current_values t vs))) (sym is)
        go false true false is e h = h ∙ ap (λ k. with k v.what (under (current_values t vs))) (sym is)
        go false false d is e h = h
        go true true false is e h = absurd (false≢true (sym e))
        go false true true is e h = absurd (false≢true e)
        go true false d is e h = absurd (false≢true (sym e))

    -- none of them passes a test, or is counted, or all are
    pub none_marked : (p : T → Bool) → ((x : X) → p (what x) ≡ false) → (xs : List X) → list_any p (under xs) ≡ false
    none_marked p none [] = refl
    none_marked p none (x ∷ xs) = go (nat_eq (key x) n) (none_marked p none xs)
      where
        go : (b : Bool) → list_any p (under xs) ≡ false → list_any p (with b x (under xs)) ≡ false
        go true h = ap (λ b. b || list_any p (under xs)) (none x) ∙ h
        go false h = h

    pub none_counted : (p : T → Bool) → ((x : X) → p (what x) ≡ false) → (xs : List X) → filter p (under xs) ≡ []
    none_counted p none [] = refl
    none_counted p none (x ∷ xs) = go (nat_eq (key x) n) (none_counted p none xs)
      where
        go : (b : Bool) → filter p (under xs) ≡ [] → filter p (with b x (under xs)) ≡ []
        go true h = ap (λ b. cond b (what x ∷ filter p (under xs)) (filter p (under xs))) (none x) ∙ h
        go false h = h

    pub all_counted : (p : T → Bool) → ((x : X) → p (what x) ≡ true) → (xs : List X) → filter p (under xs) ≡ under xs
    all_counted p each [] = refl
    all_counted p each (x ∷ xs) = go (nat_eq (key x) n) (all_counted p each xs)
      where
        go : (b : Bool) → filter p (under xs) ≡ under xs → filter p (with b x (under xs)) ≡ with b x (under xs)
        go true h = ap₂ (λ b l. cond b (what x ∷ l) l) (each x) h
        go false h = h

    -- no value is found in it
    pub none_taken : {Z : Type 0} (f : T → Option Z) → ((x : X) → f (what x) ≡ None) → (xs : List X) → filter_map f (under xs) ≡ []
    none_taken f none [] = refl
    none_taken f none (x ∷ xs) = go (nat_eq (key x) n) (none_taken f none xs)
      where
        go : (b : Bool) → filter_map f (under xs) ≡ [] → filter_map f (with b x (under xs)) ≡ []
        go true h = ap (λ o. cons_option o (filter_map f (under xs))) (none x) ∙ h
        go false h = h

-- ---- current records

-- a test of some record is one of some current version
pub some_standing : {V : Type 0} (p : ℕ × V → Bool) (t : ℤ) (vs : List (Version (ℕ × V))) → AreApart is_same_number vs
    → list_any p (map.entries (part_at t vs)) ≡ list_any p (current_values t vs)
some_standing p t vs apart =
    let made = made_part (current_values t vs) (distinct_standing is_same_number t vs apart) in
    sym (list_any-IsPermutation p (current_values t vs) (map.entries (part_at t vs)) made)

-- a marked record exists under a number
abbrev pub is_marked : {V : Type 0} → (V → Bool) → ℕ → List (ℕ × V) → Bool
is_marked c n es = list_any (λ e. nat_eq e.0 n && c e.1) es

-- a marked record fails a test of its number
abbrev pub is_at_fault : {V : Type 0} → (V → Bool) → (ℕ → Bool) → ℕ × V → Bool
is_at_fault c W e = c e.1 && not (W e.0)

module _ {V : Type 0} (c : V → Bool) (W : ℕ → Bool) where
  none_at_fault : (es : List (ℕ × V)) → ((n : ℕ) → (not (is_marked c n es) || W n) ≡ true) → list_any (is_at_fault c W) es ≡ false
  none_at_fault [] all = refl
  none_at_fault (e ∷ es) all =
      ap₂ (λ a b. a || b) (one (nat_eq e.0 e.0) (c e.1) (W e.0) (is_marked c e.0 es) (nat_eq_equiv.refl e.0) (all e.0))
      (none_at_fault es (λ n. fewer (nat_eq e.0 n && c e.1) (is_marked c n es) (W n) (all n)))
    where
      one : (b c w r : Bool) → b ≡ true → (not (b && c || r) || w) ≡ true → (c && not w) ≡ false
      one b c w r is h = grind arith

      fewer : (a b w : Bool) → (not (a || b) || w) ≡ true → (not b || w) ≡ true
      fewer a b w h = grind arith

  each_passes : (es : List (ℕ × V)) → list_any (is_at_fault c W) es ≡ false → (n : ℕ) → (not (is_marked c n es) || W n) ≡ true
  each_passes [] none n = refl
  each_passes (e ∷ es) none n = go (nat_eq e.0 n) refl (each_passes es parts.1 n)
    where
      parts : (is_at_fault c W e ≡ false) × (list_any (is_at_fault c W) es ≡ false)
      parts = or_parts (is_at_fault c W e) (list_any (is_at_fault c W) es) none

      with_it : (c w r : Bool) → (c && not w) ≡ false → (not r || w) ≡ true → (not (c || r) || w) ≡ true
      with_it c w r none h = grind arith

      go : (b : Bool) → nat_eq e.0 n ≡ b → (not (is_marked c n es) || W n) ≡ true → (not (b && c e.1 || is_marked c n es) || W n) ≡ true
      go true is h =
          let here = subst (λ (k : ℕ). (c e.1 && not (W k)) ≡ false) (eqb-true e.0 n is) parts.0 in
          with_it (c e.1) (W n) (is_marked c n es) here h
      go false is h = h

-- ---- a fault of records, and the current values under their numbers

module _ {T V : Type 0} (moments : List Moment) (h : History) (fault : Register → Bool) (live_spans : List (LiveSpan T))
    (set_entries : T → Bool) (test : List T → Bool) (vs : List (Version (ℕ × V))) (c : V → Bool) (W : Register → ℕ → Bool) where
  abbrev register_of : Moment → Register
  register_of m = register_of_history m.stamp h m.next

  -- The fault is that a marked record fails a test of its number. It is marked if one of the current values
  -- is, and passes if they do.
  pub record Ties : Type 0 where
    pub faulty : (m : Moment) → fault (register_of m) ≡ list_any (is_at_fault c (W (register_of m))) (current_values m.stamp vs)
    pub marked : (n : ℕ) (t : ℤ) → list_any set_entries (values_under_key live_spans n t) ≡ is_marked c n (current_values t vs)
    pub tested : (m : Moment) (n : ℕ) → test (values_under_key live_spans n m.stamp) ≡ W (register_of m) n

  abbrev AreFaultless : List Moment → Type 0
  AreFaultless ms = AllByRecursion (λ m. fault (register_of m) ≡ false) ms

  module _ (tie : Ties) where
    there : (m : Moment) (n : ℕ)
        → if_any_marked set_entries test (values_under_key live_spans n m.stamp) ≡ (not (is_marked c n (current_values m.stamp vs)) || W (register_of m) n)
    there m n = ap₂ (λ a b. not a || b) (tie.marked n m.stamp) (tie.tested m n)

    at_stamps : AreSound (if_any_marked set_entries test) live_spans → (ms : List Moment) → AreFaultless ms
    at_stamps sound [] = tt
    at_stamps sound (m ∷ ms) = (
      tie.faulty m ∙ none_at_fault c (W (register_of m)) (current_values m.stamp vs) (λ n. sym (there m n) ∙ sound n m.stamp),
      at_stamps sound ms,
    )

    from_stamps : (n : ℕ) (ms : List Moment) → AreFaultless ms
        → AllByRecursion (λ m. if_any_marked set_entries test (values_under_key live_spans n m.stamp) ≡ true) ms
    from_stamps n [] all = tt
    from_stamps n (m ∷ ms) all = (
      there m n ∙ each_passes c (W (register_of m)) (current_values m.stamp vs) (sym (tie.faulty m) ∙ all.0) n,
      from_stamps n ms all.1,
    )

    -- the fault never occurs if and only if the current values always pass
    pub never : are_in_range moments ≡ true → AreLives moments live_spans → AreSound (if_any_marked set_entries test) live_spans ↔ Never fault moments h
    never in_time lives = (
      λ sound. All-from_recursion (λ m. fault (register_of m) ≡ false) moments (at_stamps sound moments),
      λ all n t.
          let faultless = recursion_from_All (λ m. fault (register_of m) ≡ false) moments all in
          at_any_time moments in_time live_spans lives (if_any_marked set_entries test) refl n (from_stamps n moments faultless) t,
    )

-- two tests together
pub both_sound : {T : Type 0} (p q : List T → Bool) (live_spans : List (LiveSpan T)) {A B : Type 0} → AreSound p live_spans ↔ A → AreSound q live_spans ↔ B
    → AreSound (λ xs. p xs && q xs) live_spans ↔ (A × B)
both_sound p q live_spans one other = (
  λ sound. (
    one.0 (λ n t. (and_parts (p (values_under_key live_spans n t)) (q (values_under_key live_spans n t)) (sound n t)).0),
    other.0 (λ n t. (and_parts (p (values_under_key live_spans n t)) (q (values_under_key live_spans n t)) (sound n t)).1),
  ),
  λ h n t. and_from (p (values_under_key live_spans n t)) (q (values_under_key live_spans n t)) (one.1 h.0 n t) (other.1 h.1 n t),
)

-- a result for a list that is built is one for its parts
pub answered : {T : Type 0} (p : List T → Bool) {A : Type 0} (made live_spans : List (LiveSpan T)) → made ≡ live_spans → AreSound p live_spans ↔ A
    → (b : Bool) → (b ≡ true) ↔ AreSound p made → (b ≡ true) ↔ A
answered p made live_spans is law b answer =
    let it = subst (λ l. (b ≡ true) ↔ AreSound p l) is answer in
    (λ e. law.0 (it.0 e), λ a. it.1 (law.1 a))
