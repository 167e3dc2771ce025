-- Ticks in order: checking at each tick checks all values that are ever current together.
use Rattle.std.proofs.Common.{◌≡◌, ◌↔◌, ◌⊎◌, inl, inr, ◌==◌, ℕ, ◌≤◌, Bool, true, false, cond, ◌||◌, ◌&&◌, List, [], ◌∷◌, ◌++◌, filter, map as map_list, refl, sym, ap, ap₂, subst, ◌∙◌, arith, append_assoc, append-nil, IsPermutation}
use Rattle.std.proofs.lemmas.Bool.{false≢true, and_parts, eqb-true}
use Rattle.std.proofs.lemmas.Bool.Decides.{nat_tests}
use Rattle.std.proofs.lemmas.Cmp.{on_total, then_total}
use Rattle.std.proofs.lemmas.Int.{ints}
use Rattle.std.proofs.lemmas.List.Elements.{filter-append}
use Rattle.std.proofs.lemmas.List.Sorted.{IsPermutation-map}
use Rattle.std.specs.Cmp.{IsTotalOrder, int_cmp_total, nat_cmp_total}
use Rattle.std.specs.List.{AllByRecursion, list_all}
use Rattle.std.specs.List.Sorted.{IsSorted}
use Rattle.std.specs.Ordering.{int_cmp, is_lt, nat_cmp, ordering_then}
use Rattle.std.specs.Prelude.{ℤ, ◌≤ℤ◌, int_le, int_lt, nat_eq, nat_lt}
use Rattle.std.specs.declared.cmp.Ordering.{Ordering}
use Rattle.land_core.proofs.Booleans.{conflict}
use Rattle.land_tables_history.proofs.MomentOrder.{le_itself, le_through}
use Rattle.land_tables_history.proofs.SweepOrders.{Rising, no_earlier, no_less, rising_in_order, then_not, tie}
use Rattle.land_tables_history.proofs.Permutations.{all_permuted, filter_permuted}
use Rattle.land_tables_history.specs.Sweeps.Sweep.{AreSound, is_at, values_under_key}
use Rattle.land_tables_history.specs.Sweeps.SweepSteps.{span_start, begun_by, end, is_begun_by, left_by, live_span_cmp, sound_from, tick_cmp, all_ticks}
use Rattle.land_tables_history.specs.declared.sweeps.sweep.LiveSpan.{LiveSpan}
use Rattle.land_tables_history.specs.declared.sweeps.sweep.Tick.{Tick}

-- ---- in plain numbers

not_yet : (k q : ℕ) (since until t : ℤ) → (nat_lt k q || (k == q) && int_le since t) ≡ false → ((k == q) && int_le since t && int_lt t until) ≡ false
not_yet k q since until t h = grind (arith, ints, nat_tests)

earlier : (k l q : ℕ) (since later t : ℤ) → k ≤ l → (nat_eq k l ≡ true → since ≤ℤ later) → (nat_lt l q || (l == q) && int_le later t) ≡ true → (nat_lt k q || (k == q) && int_le since t) ≡ true
earlier k l q since later t p s h = grind (arith, ints, nat_tests)

still_begun : (k q r : ℕ) (since t u : ℤ) → q ≤ r → (nat_eq q r ≡ true → t ≤ℤ u) → (nat_lt k q || (k == q) && int_le since t) ≡ true → (nat_lt k r || (k == r) && int_le since u) ≡ true
still_begun k q r since t u p s h = grind (arith, ints, nat_tests)

stood_before : (k q r : ℕ) (since until t u : ℤ) → q ≤ r → (nat_eq q r ≡ true → t ≤ℤ u) → (nat_lt k q || (k == q) && int_le since t) ≡ true
    → ((k == r) && int_le since u && int_lt u until) ≡ true → ((k == q) && int_le since t && int_lt t until) ≡ true
stood_before k q r since until t u p s h there = grind (arith, ints, nat_tests)

same_since : (k q : ℕ) (since until t best : ℤ) → best ≤ℤ t → (nat_eq k q ≡ true → since ≤ℤ t → since ≤ℤ best) → (nat_eq k q ≡ true → until ≤ℤ t → until ≤ℤ best)
    → ((k == q) && int_le since t && int_lt t until) ≡ ((k == q) && int_le since best && int_lt best until)
same_since k q since until t best p s e = grind (arith, ints, nat_tests)

never_since : (k q : ℕ) (since until t : ℤ) → (nat_eq k q ≡ true → since ≤ℤ t → ⊥) → ((k == q) && int_le since t && int_lt t until) ≡ false
never_since k q since until t none = go (nat_eq k q) (int_le since t) refl refl
  where
    within : int_le since t ≡ true → since ≤ℤ t
    within e = omega (arith, ints, e)

    go : (a b : Bool) → nat_eq k q ≡ a → int_le since t ≡ b → (a && b && int_lt t until) ≡ false
    go false b e f = refl
    go true false e f = refl
    go true true e f = absurd (none e (within f))

-- ---- order

record TickFollows (a b : Tick) : Type 0 where
  key : a.key ≤ b.key
  at : nat_eq a.key b.key ≡ true → a.at ≤ℤ b.at

module _ {T : Type 0} where
  record Follows (x y : LiveSpan T) : Type 0 where
    key : x.key ≤ y.key
    since : nat_eq x.key y.key ≡ true → x.since ≤ℤ y.since

  -- ---- started values, and the remaining ones

  parted : (tick : Tick) (xs : List (LiveSpan T)) → begun_by tick xs ++ left_by tick xs ≡ xs
  parted tick [] = refl
  parted tick (x ∷ xs) = go (is_begun_by tick x) (parted tick xs)
    where
      go : (b : Bool) → begun_by tick xs ++ left_by tick xs ≡ xs → cond b (x ∷ begun_by tick xs) [] ++ cond b (left_by tick xs) (x ∷ xs) ≡ x ∷ xs
      go true h = ap (λ l. x ∷ l) h
      go false h = refl

  abbrev Begun : Tick → LiveSpan T → Type 0
  Begun tick x = is_begun_by tick x ≡ true

  all_begun : (tick : Tick) (xs : List (LiveSpan T)) → AllByRecursion (Begun tick) (begun_by tick xs)
  all_begun tick [] = tt
  all_begun tick (x ∷ xs) = go (is_begun_by tick x) refl (all_begun tick xs)
    where
      go : (b : Bool) → is_begun_by tick x ≡ b → AllByRecursion (Begun tick) (begun_by tick xs) → AllByRecursion (Begun tick) (cond b (x ∷ begun_by tick xs) [])
      go true e h = (e, h)
      go false e h = tt

  none_begun : (tick : Tick) (x : LiveSpan T) (ys : List (LiveSpan T)) → is_begun_by tick x ≡ false → AllByRecursion (Follows x) ys → AllByRecursion (λ y. is_begun_by tick y ≡ false) ys
  none_begun tick x [] e all = tt
  none_begun tick x (y ∷ ys) e all = (go (is_begun_by tick y) refl, none_begun tick x ys e all.1)
    where
      go : (b : Bool) → is_begun_by tick y ≡ b → b ≡ false
      go true f = sym (earlier x.key y.key tick.key x.since y.since tick.at all.0.key all.0.since f) ∙ e
      go false f = refl

  all_left : (tick : Tick) (xs : List (LiveSpan T)) → Rising Follows xs → AllByRecursion (λ y. is_begun_by tick y ≡ false) (left_by tick xs)
  all_left tick [] rising = tt
  all_left tick (x ∷ xs) rising = go (is_begun_by tick x) refl (all_left tick xs rising.1)
    where
      go : (b : Bool) → is_begun_by tick x ≡ b → AllByRecursion (λ y. is_begun_by tick y ≡ false) (left_by tick xs) → AllByRecursion (λ y. is_begun_by tick y ≡ false) (cond b (left_by tick xs) (x ∷ xs))
      go true e h = h
      go false e h = (e, none_begun tick x xs e rising.0)

  rising_left : (tick : Tick) (xs : List (LiveSpan T)) → Rising Follows xs → Rising Follows (left_by tick xs)
  rising_left tick [] rising = tt
  rising_left tick (x ∷ xs) rising = go (is_begun_by tick x) (rising_left tick xs rising.1)
    where
      go : (b : Bool) → Rising Follows (left_by tick xs) → Rising Follows (cond b (left_by tick xs) (x ∷ xs))
      go true h = h
      go false h = rising

  none_stand : (tick : Tick) (xs : List (LiveSpan T)) → AllByRecursion (λ y. is_begun_by tick y ≡ false) xs → filter (is_at tick.key tick.at) xs ≡ []
  none_stand tick [] all = refl
  none_stand tick (x ∷ xs) all =
      ap (λ b. cond b (x ∷ filter (is_at tick.key tick.at) xs) (filter (is_at tick.key tick.at) xs)) (not_yet x.key tick.key x.since x.until tick.at all.0) ∙ none_stand tick xs all.1

  both_parts : (P : LiveSpan T → Type 0) (xs ys : List (LiveSpan T)) → AllByRecursion P xs → AllByRecursion P ys → AllByRecursion P (xs ++ ys)
  both_parts P [] ys a b = b
  both_parts P (x ∷ xs) ys a b = (a.0, both_parts P xs ys a.1 b)

  -- a value that is current at a later tick was current at this one, if it had started
  stood : (a u : Tick) → TickFollows a u → (xs : List (LiveSpan T)) → AllByRecursion (Begun a) xs → filter (is_at u.key u.at) (filter (is_at a.key a.at) xs) ≡ filter (is_at u.key u.at) xs
  stood a u f [] all = refl
  stood a u f (x ∷ xs) all = go (is_at a.key a.at x) (is_at u.key u.at x) refl refl (stood a u f xs all.1)
    where
      one : is_at u.key u.at x ≡ true → is_at a.key a.at x ≡ true
      one there = stood_before x.key a.key u.key x.since x.until a.at u.at f.key f.at all.0 there

      go : (b c : Bool) → is_at a.key a.at x ≡ b → is_at u.key u.at x ≡ c → filter (is_at u.key u.at) (filter (is_at a.key a.at) xs) ≡ filter (is_at u.key u.at) xs
          → filter (is_at u.key u.at) (cond b (x ∷ filter (is_at a.key a.at) xs) (filter (is_at a.key a.at) xs)) ≡ cond c (x ∷ filter (is_at u.key u.at) xs) (filter (is_at u.key u.at) xs)
      go true c e g h = ap (λ c. cond c (x ∷ filter (is_at u.key u.at) (filter (is_at a.key a.at) xs)) (filter (is_at u.key u.at) (filter (is_at a.key a.at) xs))) g ∙ ap (λ l. cond c (x ∷ l) l) h
      go false true e g h = absurd (false≢true (sym e ∙ one g))
      go false false e g h = h

  kept : (a : Tick) (xs : List (LiveSpan T)) (P : LiveSpan T → Type 0) → AllByRecursion P xs → AllByRecursion P (filter (is_at a.key a.at) xs)
  kept a [] P all = tt
  kept a (x ∷ xs) P all = go (is_at a.key a.at x) (kept a xs P all.1)
    where
      go : (b : Bool) → AllByRecursion P (filter (is_at a.key a.at) xs) → AllByRecursion P (cond b (x ∷ filter (is_at a.key a.at) xs) (filter (is_at a.key a.at) xs))
      go true h = (all.0, h)
      go false h = h

  later_begun : (a u : Tick) → TickFollows a u → (xs : List (LiveSpan T)) → AllByRecursion (Begun a) xs → AllByRecursion (Begun u) xs
  later_begun a u f [] all = tt
  later_begun a u f (x ∷ xs) all = (still_begun x.key a.key u.key x.since a.at u.at f.key f.at all.0, later_begun a u f xs all.1)

  all_later : (a : Tick) (us : List Tick) → AllByRecursion (TickFollows a) us → (xs : List (LiveSpan T)) → AllByRecursion (Begun a) xs → AllByRecursion (λ u. AllByRecursion (Begun u) xs) us
  all_later a [] fs xs all = tt
  all_later a (u ∷ us) fs xs all = (later_begun a u fs.0 xs all, all_later a us fs.1 xs all)

  -- ---- from tick to tick

  module _ (is_sound : List T → Bool) where
    abbrev judged : List (LiveSpan T) → Tick → Bool
    judged xs u = is_sound (values_under_key xs u.key u.at)

    alike : (p q : Tick → Bool) (us : List Tick) → AllByRecursion (λ u. p u ≡ q u) us → list_all p us ≡ list_all q us
    alike p q [] all = refl
    alike p q (u ∷ us) all = ap₂ (λ b c. b && c) all.0 (alike p q us all.1)

    swept : (there later : List (LiveSpan T)) (ticks : List Tick) → Rising Follows later → Rising TickFollows ticks → AllByRecursion (λ u. AllByRecursion (Begun u) there) ticks
        → sound_from is_sound there later ticks ≡ list_all (judged (there ++ later)) ticks
    swept there later [] rising ticks ready = refl
    swept there later (a ∷ us) rising ticks ready =
        ap₂ (λ b c. b && c) (ap (λ l. is_sound (map_list (λ x. x.what) l)) (sym now))
        (swept gone left us (rising_left a later rising) ticks.1 (all_later a us ticks.0 gone (kept a add_started (Begun a) opened_version))
        ∙ alike (judged (gone ++ left)) (judged (there ++ later)) us (each us ticks.0))
      where
        add_started : List (LiveSpan T)
        add_started = there ++ begun_by a later

        left : List (LiveSpan T)
        left = left_by a later

        gone : List (LiveSpan T)
        gone = filter (is_at a.key a.at) add_started

        opened_version : AllByRecursion (Begun a) add_started
        opened_version = both_parts (Begun a) there (begun_by a later) ready.0 (all_begun a later)

        whole : add_started ++ left ≡ there ++ later
        whole = append_assoc there (begun_by a later) left ∙ ap (λ l. there ++ l) (parted a later)

        now : filter (is_at a.key a.at) (there ++ later) ≡ gone
        now = ap (filter (is_at a.key a.at)) (sym whole) ∙ filter-append (is_at a.key a.at) add_started left ∙ ap (λ l. gone ++ l) (none_stand a left (all_left a later rising)) ∙ append-nil gone

        then : (u : Tick) → TickFollows a u → filter (is_at u.key u.at) (gone ++ left) ≡ filter (is_at u.key u.at) (there ++ later)
        then u f =
            filter-append (is_at u.key u.at) gone left ∙ ap (λ l. l ++ filter (is_at u.key u.at) left) (stood a u f add_started opened_version)
            ∙ sym (filter-append (is_at u.key u.at) add_started left) ∙ ap (filter (is_at u.key u.at)) whole

        each : (vs : List Tick) → AllByRecursion (TickFollows a) vs → AllByRecursion (λ u. judged (gone ++ left) u ≡ judged (there ++ later) u) vs
        each [] fs = tt
        each (v ∷ vs) fs = (ap (λ l. is_sound (map_list (λ x. x.what) l)) (then v fs.0), each vs fs.1)

-- ---- all keys and moments

-- the latest tick of a key, up to a moment, that passes a test, or none
record Latest (passes : Tick → Bool) (key : ℕ) (t : ℤ) (us : List Tick) : Type 0 where
  best : ℤ
  before : best ≤ℤ t
  holds : passes (record { key = key; at = best }) ≡ true
  least : AllByRecursion (λ u. nat_eq u.key key ≡ true → u.at ≤ℤ t → u.at ≤ℤ best) us

abbrev NoneYet : (key : ℕ) → (t : ℤ) → List Tick → Type 0
NoneYet key t us = AllByRecursion (λ u. nat_eq u.key key ≡ true → u.at ≤ℤ t → ⊥) us

or_later : (a b : ℤ) → (a ≤ℤ b) ⊎ (b ≤ℤ a)
or_later a b = go (int_le a b) refl
  where
    go : (c : Bool) → int_le a b ≡ c → (a ≤ℤ b) ⊎ (b ≤ℤ a)
    go true e = inl (omega (arith, ints, e))
    go false e = inr (omega (arith, ints, e))

reaches : (a t : ℤ) → (a ≤ℤ t) ⊎ (a ≤ℤ t → ⊥)
reaches a t = go (int_le a t) refl
  where
    go : (c : Bool) → int_le a t ≡ c → (a ≤ℤ t) ⊎ (a ≤ℤ t → ⊥)
    go true e = inl (omega (arith, ints, e))
    go false e = inr (λ h. omega (arith, ints, e, h))

module _ (passes : Tick → Bool) (key : ℕ) (t : ℤ) where
  raised : (best more : ℤ) → best ≤ℤ more → (us : List Tick) → AllByRecursion (λ u. nat_eq u.key key ≡ true → u.at ≤ℤ t → u.at ≤ℤ best) us
      → AllByRecursion (λ u. nat_eq u.key key ≡ true → u.at ≤ℤ t → u.at ≤ℤ more) us
  raised best more p [] all = tt
  raised best more p (u ∷ us) all = (λ k h. le_through u.at best more (all.0 k h) p, raised best more p us all.1)

  bounded : (more : ℤ) (us : List Tick) → NoneYet key t us → AllByRecursion (λ u. nat_eq u.key key ≡ true → u.at ≤ℤ t → u.at ≤ℤ more) us
  bounded more [] all = tt
  bounded more (u ∷ us) all = (λ k h. absurd (all.0 k h), bounded more us all.1)

  latest : (us : List Tick) → list_all passes us ≡ true → Latest passes key t us ⊎ NoneYet key t us
  latest [] all = inr tt
  latest (u ∷ us) all = go (nat_eq u.key key) refl (reaches u.at t) (latest us parts.1)
    where
      parts : (passes u ≡ true) × (list_all passes us ≡ true)
      parts = and_parts (passes u) (list_all passes us) all

      this : nat_eq u.key key ≡ true → passes (record { key = key; at = u.at }) ≡ true
      this e = subst (λ (k : ℕ). passes (record { key = k; at = u.at }) ≡ true) (eqb-true u.key key e) parts.0

      go : (b : Bool) → nat_eq u.key key ≡ b → (u.at ≤ℤ t) ⊎ (u.at ≤ℤ t → ⊥) → Latest passes key t us ⊎ NoneYet key t us → Latest passes key t (u ∷ us) ⊎ NoneYet key t (u ∷ us)
      go false e s (inl l) = inl (record { best = l.best; before = l.before; holds = l.holds; least = (λ k h. absurd (conflict k e), l.least) })
      go false e s (inr n) = inr (λ k h. conflict k e, n)
      go true e (inr no_more) (inl l) = inl (record { best = l.best; before = l.before; holds = l.holds; least = (λ k h. absurd (no_more h), l.least) })
      go true e (inr no_more) (inr n) = inr (λ k h. no_more h, n)
      go true e (inl h) (inr n) = inl (record { best = u.at; before = h; holds = this e; least = (λ k h. le_itself u.at, bounded u.at us n) })
      go true e (inl h) (inl l) = elim (or_later u.at l.best) [
        | inl less ↦ inl (record { best = l.best; before = l.before; holds = l.holds; least = (λ k h. less, l.least) })
        | inr more ↦ inl (record { best = u.at; before = h; holds = this e; least = (λ k h. le_itself u.at, raised l.best u.at more us l.least) })
      ]

-- a property of all items of two joined lists holds for both
split_list : {A : Type 0} (P : A → Type 0) (xs ys : List A) → AllByRecursion P (xs ++ ys) → AllByRecursion P xs × AllByRecursion P ys
split_list P [] ys all = (tt, all)
split_list P (x ∷ xs) ys all = let rest = split_list P xs ys all.1 in ((all.0, rest.0), rest.1)

module _ {T : Type 0} (is_sound : List T → Bool) (empty_is_sound : is_sound [] ≡ true) where
  each_sound : (live_spans : List (LiveSpan T)) → list_all (judged is_sound live_spans) (all_ticks live_spans) ≡ true → AreSound is_sound live_spans
  each_sound live_spans all key t = elim (latest (judged is_sound live_spans) key t (all_ticks live_spans) all) [
    | inl l ↦
        let parts = split_list (λ u. nat_eq u.key key ≡ true → u.at ≤ℤ t → u.at ≤ℤ l.best) (map_list span_start live_spans) (map_list end live_spans) l.least in
        ap (λ xs. is_sound (map_list (λ x. x.what) xs)) (alike_at l.best l.before live_spans parts.0 parts.1) ∙ l.holds
    | inr n ↦
        let parts = split_list (λ u. nat_eq u.key key ≡ true → u.at ≤ℤ t → ⊥) (map_list span_start live_spans) (map_list end live_spans) n in
        ap (λ xs. is_sound (map_list (λ x. x.what) xs)) (nothing_at live_spans parts.0) ∙ empty_is_sound
  ]
    where
      alike_at : (best : ℤ) → best ≤ℤ t → (xs : List (LiveSpan T)) → AllByRecursion (λ u. nat_eq u.key key ≡ true → u.at ≤ℤ t → u.at ≤ℤ best) (map_list span_start xs)
          → AllByRecursion (λ u. nat_eq u.key key ≡ true → u.at ≤ℤ t → u.at ≤ℤ best) (map_list end xs) → filter (is_at key t) xs ≡ filter (is_at key best) xs
      alike_at best p [] b e = refl
      alike_at best p (x ∷ xs) b e =
          ap (λ c. cond c (x ∷ filter (is_at key t) xs) (filter (is_at key t) xs)) (same_since x.key key x.since x.until t best p b.0 e.0)
          ∙ ap (λ l. cond (is_at key best x) (x ∷ l) l) (alike_at best p xs b.1 e.1)

      nothing_at : (xs : List (LiveSpan T)) → AllByRecursion (λ u. nat_eq u.key key ≡ true → u.at ≤ℤ t → ⊥) (map_list span_start xs) → filter (is_at key t) xs ≡ []
      nothing_at [] b = refl
      nothing_at (x ∷ xs) b = ap (λ c. cond c (x ∷ filter (is_at key t) xs) (filter (is_at key t) xs)) (never_since x.key key x.since x.until t b.0) ∙ nothing_at xs b.1

  at_ticks : (live_spans : List (LiveSpan T)) (us : List Tick) → AreSound is_sound live_spans → list_all (judged is_sound live_spans) us ≡ true
  at_ticks live_spans [] h = refl
  at_ticks live_spans (u ∷ us) h = ap (λ c. c && list_all (judged is_sound live_spans) us) (h u.key u.at) ∙ at_ticks live_spans us h

  module _ (in_any_order : (xs ys : List T) → IsPermutation xs ys → is_sound xs ≡ is_sound ys) where
    same_judged : (live_spans sorted : List (LiveSpan T)) → IsPermutation live_spans sorted → (us : List Tick) → list_all (judged is_sound sorted) us ≡ list_all (judged is_sound live_spans) us
    same_judged live_spans sorted p [] = refl
    same_judged live_spans sorted p (u ∷ us) =
        ap₂ (λ b c. b && c)
        (sym (in_any_order (values_under_key live_spans u.key u.at) (values_under_key sorted u.key u.at)
        (IsPermutation-map (λ (x : LiveSpan T). x.what) (filter (is_at u.key u.at) live_spans) (filter (is_at u.key u.at) sorted) (filter_permuted (is_at u.key u.at) live_spans sorted p))))
        (same_judged live_spans sorted p us)

    in_order_sound : (live_spans sorted : List (LiveSpan T)) (ticks : List Tick) → IsPermutation live_spans sorted → Rising Follows sorted → IsPermutation (all_ticks live_spans) ticks → Rising TickFollows ticks
        → (sound_from is_sound [] sorted ticks ≡ true) ↔ AreSound is_sound live_spans
    in_order_sound live_spans sorted ticks p rising q in_order =
        let same : sound_from is_sound [] sorted ticks ≡ list_all (judged is_sound live_spans) (all_ticks live_spans) =
        swept is_sound [] sorted ticks rising in_order (ready ticks) ∙ same_judged live_spans sorted p ticks ∙ all_permuted (judged is_sound live_spans) (all_ticks live_spans) ticks q in
        (λ h. each_sound live_spans (sym same ∙ h), λ h. same ∙ at_ticks live_spans (all_ticks live_spans) h)
      where
        ready : (us : List Tick) → AllByRecursion (λ u. AllByRecursion (λ (x : LiveSpan T). is_begun_by u x ≡ true) []) us
        ready [] = tt
        ready (u ∷ us) = (tt, ready us)

-- ---- from a sort

tick_total : IsTotalOrder tick_cmp
tick_total = then_total (on_total (λ (x : Tick). x.key) nat_cmp_total) (on_total (λ (x : Tick). x.at) int_cmp_total)

tick_follows : (a b : Tick) → is_lt (tick_cmp b a) ≡ false → TickFollows a b
tick_follows a b h =
    let one = then_not (nat_cmp b.key a.key) (int_cmp b.at a.at) h in
    record { key = no_less a.key b.key one.0; at = λ same. no_earlier a.at b.at (one.1 (tie a.key b.key same)) }

module _ {T : Type 0} (R : T → T → Ordering) (o : IsTotalOrder R) where
  lived_total : IsTotalOrder (live_span_cmp R)
  lived_total =
      then_total (on_total (λ (x : LiveSpan T). x.key) nat_cmp_total)
      (then_total (on_total (λ (x : LiveSpan T). x.since) int_cmp_total) (then_total (on_total (λ (x : LiveSpan T). x.until) int_cmp_total) (on_total (λ (x : LiveSpan T). x.what) o)))

  lived_follows : (x y : LiveSpan T) → is_lt (live_span_cmp R y x) ≡ false → Follows x y
  lived_follows x y h =
      let ends : Ordering = ordering_then (int_cmp y.until x.until) (R y.what x.what) in
      let one = then_not (nat_cmp y.key x.key) (ordering_then (int_cmp y.since x.since) ends) h in
      record { key = no_less x.key y.key one.0; since = λ same. no_earlier x.since y.since (then_not (int_cmp y.since x.since) ends (one.1 (tie x.key y.key same))).0 }

  -- sorting does not change the result
  pub sound_in_order : (is_sound : List T → Bool) → is_sound [] ≡ true → ((xs ys : List T) → IsPermutation xs ys → is_sound xs ≡ is_sound ys)
      → (live_spans sorted : List (LiveSpan T)) (ticks : List Tick) → IsPermutation live_spans sorted → IsSorted (live_span_cmp R) sorted → IsPermutation (all_ticks live_spans) ticks → IsSorted tick_cmp ticks
      → (sound_from is_sound [] sorted ticks ≡ true) ↔ AreSound is_sound live_spans
  sound_in_order is_sound empty_is_sound in_any_order live_spans sorted ticks p s q r =
      in_order_sound is_sound empty_is_sound in_any_order live_spans sorted ticks p (rising_in_order (live_span_cmp R) lived_total Follows lived_follows sorted s) q (rising_in_order tick_cmp tick_total TickFollows tick_follows ticks r)
