-- References that exist at each stamp of the referring versions exist at each moment.
use Rattle.std.proofs.Common.{◌≡◌, ◌↔◌, inl, inr, ◌==◌, ℕ, Bool, true, false, not, ◌&&◌, ◌||◌, List, [], ◌∷◌, refl, sym, ap, ap₂, subst, ◌∙◌, arith}
use Rattle.std.specs.Prelude.{ℤ, int_le, int_lt}
use Rattle.std.proofs.lemmas.Bool.{false≢true, and_from, and_parts, eqb-true, or_cases, or_left, or_parts, or_right}
use Rattle.std.proofs.lemmas.Bool.Decides.{Decides-int_eq}
use Rattle.std.proofs.lemmas.Int.{ints}
use Rattle.std.proofs.lemmas.List.Elements.{All-from_recursion, recursion_from_All}
use Rattle.std.specs.FinMap as map
use Rattle.std.specs.List.{AllByRecursion, list_all, list_any}
use Rattle.std.proofs.lemmas.Cmp.{nat_eq_equiv}
use Rattle.land_core.specs.declared.register.Register.{Register}
use Rattle.land_tables_history.specs.History.{register_of_history}
use Rattle.land_tables_history.specs.Intervals.{AreApart, is_interval, is_same_number}
use Rattle.land_tables_history.specs.Standing.{part_at, is_current}
use Rattle.land_tables_history.specs.declared.history.History.{History}
use Rattle.land_tables_history.specs.declared.moment.Moment.{Moment}
use Rattle.land_tables_history.specs.declared.version.Version.{Version}
use Rattle.land_tables_validity.proofs.Covers.{any_alike, at_all_moments, nonempty, covered_iff, some_by, stood_by}
use Rattle.land_tables_validity.proofs.Latest.{at_stamp, ends_of}
use Rattle.land_tables_validity.specs.Never.{Never}
use Rattle.land_tables_validity.specs.CoverageSpans.{are_in_range, coverage_spans}
use Rattle.land_tables_history.specs.Sweeps.Cover.{IsCovered}

-- ---- current values that fail a test

-- at a moment some current value fails a test
abbrev pub fails : {Y : Type 0} → (ℤ → Y → Bool) → List (Version Y) → ℤ → Bool
fails test ys t = list_any (λ v. is_current t v && not (test t v.what)) ys

-- at no stamp does a current value fail a test
abbrev pub NeverFails : {Y : Type 0} → (ℤ → Y → Bool) → List (Version Y) → List Moment → Type 0
NeverFails test ys moments = AllByRecursion (λ m. fails test ys m.stamp ≡ false) moments

passed : (s b : Bool) → (s && not b) ≡ false → s ≡ true → b ≡ true
passed s b h e = grind arith

-- the register has a fault at a stamp if and only if a current value fails there
pub failing_at : {V : Type 0} (t : ℤ) (vs : List (Version (ℕ × V))) → AreApart is_same_number vs
    → (test : ℤ → ℕ × V → Bool) (p : ℕ × V → Bool) → ((e : ℕ × V) → p e ≡ test t e)
    → list_any (λ e. not (p e)) (map.entries (part_at t vs)) ≡ fails test vs t
failing_at t vs apart test p same =
    some_by (λ e. not (p e)) t vs apart
    ∙ any_alike (λ v. is_current t v && not (p v.what)) (λ v. is_current t v && not (test t v.what))
    (λ v. ap (λ b. is_current t v && not b) (same v.what)) vs

pub never_by : (fault : Register → Bool) (h : History) {Y : Type 0} (test : ℤ → Y → Bool) (ys : List (Version Y))
    → ((m : Moment) → fault (register_of_history m.stamp h m.next) ≡ fails test ys m.stamp)
    → (moments : List Moment) → NeverFails test ys moments ↔ Never fault moments h
never_by fault h test ys same moments = (
  λ never. All-from_recursion (λ m. fault (register_of_history m.stamp h m.next) ≡ false) moments (there moments never),
  λ all. back moments (recursion_from_All (λ m. fault (register_of_history m.stamp h m.next) ≡ false) moments all),
)
  where
    there : (ms : List Moment) → NeverFails test ys ms → AllByRecursion (λ m. fault (register_of_history m.stamp h m.next) ≡ false) ms
    there [] never = tt
    there (m ∷ ms) never = (same m ∙ never.0, there ms never.1)

    back : (ms : List Moment) → AllByRecursion (λ m. fault (register_of_history m.stamp h m.next) ≡ false) ms → NeverFails test ys ms
    back [] all = tt
    back (m ∷ ms) all = (sym (same m) ∙ all.0, back ms all.1)

-- ---- two tests

regrouped : (s a b x y : Bool) → (s && not (a && b) || (x || y)) ≡ ((s && not a || x) || (s && not b || y))
regrouped s a b x y = grind arith

module _ {Y : Type 0} (p q : ℤ → Y → Bool) where
  -- both conditions
  abbrev pub also : ℤ → Y → Bool
  also t y = p t y && q t y

  one_or_other : (t : ℤ) (vs : List (Version Y)) → fails also vs t ≡ (fails p vs t || fails q vs t)
  one_or_other t [] = refl
  one_or_other t (v ∷ vs) =
      ap (λ b. is_current t v && not (p t v.what && q t v.what) || b) (one_or_other t vs)
      ∙ regrouped (is_current t v) (p t v.what) (q t v.what) (fails p vs t) (fails q vs t)

  pub both_pass : (ys : List (Version Y)) (ms : List Moment) → (NeverFails p ys ms × NeverFails q ys ms) ↔ NeverFails also ys ms
  both_pass ys [] = (λ h. tt, λ h. (tt, tt))
  both_pass ys (m ∷ ms) =
      let rest = both_pass ys ms in (
        λ h. (one_or_other m.stamp ys ∙ ap₂ (λ a b. a || b) h.0.0 h.1.0, rest.0 (h.0.1, h.1.1)),
        λ h.
            let here = or_parts (fails p ys m.stamp) (fails q ys m.stamp) (sym (one_or_other m.stamp ys) ∙ h.0) in
            let later = rest.1 h.1 in ((here.0, later.0), (here.1, later.1)),
      )

-- ---- a reference

module _ {X Y : Type 0} (provided : X → ℕ) (xs : List (Version X)) (required : Y → ℕ) where
  -- the required record exists
  abbrev pub is_there : ℤ → Y → Bool
  is_there t y = stood_by provided xs (required y) t

  asked_are_there : (t : ℤ) (vs : List (Version Y)) → fails is_there vs t ≡ false
      → (a : ℕ) → stood_by required vs a t ≡ true → stood_by provided xs a t ≡ true
  asked_are_there t [] h a s = absurd (false≢true s)
  asked_are_there t (v ∷ vs) h a s =
      let parts = or_parts (is_current t v && not (is_there t v.what)) (fails is_there vs t) h in
      elim (or_cases (is_current t v && (required v.what == a)) (stood_by required vs a t) s) [
        | inl here ↦ let it = and_parts (is_current t v) (required v.what == a) here in
            subst (λ (n : ℕ). stood_by provided xs n t ≡ true) (eqb-true (required v.what) a it.1)
            (passed (is_current t v) (is_there t v.what) parts.0 it.0)
        | inr later ↦ asked_are_there t vs parts.1 a later
      ]

  none_fails : (t : ℤ) (vs : List (Version Y)) → ((a : ℕ) → stood_by required vs a t ≡ true → stood_by provided xs a t ≡ true)
      → fails is_there vs t ≡ false
  none_fails t [] h = refl
  none_fails t (v ∷ vs) h =
      ap₂ (λ b c. b || c) (go (is_current t v) refl)
      (none_fails t vs (λ a s. h a (or_right (is_current t v && (required v.what == a)) (stood_by required vs a t) s)))
    where
      go : (b : Bool) → is_current t v ≡ b → (b && not (is_there t v.what)) ≡ false
      go false e = refl
      go true e =
          let a = required v.what in
          ap not (h a (or_left (is_current t v && (required v.what == a)) (stood_by required vs a t) (and_from (is_current t v) (required v.what == a) e (nat_eq_equiv.refl a))))

  -- required moments are provided if the records exist at the stamps
  pub covered_at_stamps : (moments : List Moment) → are_in_range moments ≡ true → (ys : List (Version Y))
      → list_all (is_interval moments) xs ≡ true → list_all (is_interval moments) ys ≡ true
      → IsCovered (coverage_spans provided xs required ys) ↔ NeverFails is_there ys moments
  covered_at_stamps moments in_time ys p q = (
    λ c. there moments ((covered_iff provided xs required ys).0 c),
    λ never. (covered_iff provided xs required ys).1 (at_all_moments moments in_time provided xs required ys p q (back moments never)),
  )
    where
      there : (ms : List Moment) → ((a : ℕ) (t : ℤ) → stood_by required ys a t ≡ true → stood_by provided xs a t ≡ true)
          → NeverFails is_there ys ms
      there [] h = tt
      there (m ∷ ms) h = (none_fails m.stamp ys (λ a s. h a m.stamp s), there ms h)

      back : (ms : List Moment) → NeverFails is_there ys ms
          → AllByRecursion (λ m. (a : ℕ) → stood_by required ys a m.stamp ≡ true → stood_by provided xs a m.stamp ≡ true) ms
      back [] never = tt
      back (m ∷ ms) never = (asked_are_there m.stamp ys never.0, back ms never.1)

-- ---- a test of each version by itself

fine : (s b : Bool) → b ≡ true → (s && not b) ≡ false
fine s b e = grind arith

at_its_beginning : (since until : ℤ) → int_lt since until ≡ true → (int_le since since && int_lt since until) ≡ true
at_its_beginning since until e = grind (arith, ints)

module _ {Y : Type 0} (test : Y → Bool) where
  abbrev pub alone : ℤ → Y → Bool
  alone t y = test y

  none_fails_alone : (t : ℤ) (vs : List (Version Y)) → list_all (λ v. test v.what) vs ≡ true → fails alone vs t ≡ false
  none_fails_alone t [] h = refl
  none_fails_alone t (v ∷ vs) h =
      let parts = and_parts (test v.what) (list_all (λ w. test w.what) vs) h in
      ap₂ (λ b c. b || c) (fine (is_current t v) (test v.what) parts.0) (none_fails_alone t vs parts.1)

  -- each version is current at a stamp, namely at its start
  pub all_alone : (moments : List Moment) (ys : List (Version Y)) → list_all (is_interval moments) ys ≡ true
      → (list_all (λ v. test v.what) ys ≡ true) ↔ NeverFails alone ys moments
  all_alone moments ys p = (there moments, back ys p)
    where
      there : (ms : List Moment) → list_all (λ v. test v.what) ys ≡ true → NeverFails alone ys ms
      there [] h = tt
      there (m ∷ ms) h = (none_fails_alone m.stamp ys h, there ms h)

      later : (v : Version Y) (vs : List (Version Y)) (ms : List Moment) → NeverFails alone (v ∷ vs) ms → NeverFails alone vs ms
      later v vs [] never = tt
      later v vs (m ∷ ms) never = ((or_parts (is_current m.stamp v && not (test v.what)) (fails alone vs m.stamp) never.0).1, later v vs ms never.1)

      back : (vs : List (Version Y)) → list_all (is_interval moments) vs ≡ true → NeverFails alone vs moments
          → list_all (λ v. test v.what) vs ≡ true
      back [] p never = refl
      back (v ∷ vs) p never =
          let parts = and_parts (is_interval moments v) (list_all (is_interval moments) vs) p in
          let at_first : fails alone (v ∷ vs) v.since ≡ false =
          at_stamp v.since (λ s. fails alone (v ∷ vs) s ≡ false) v.since
          (λ s e h. subst (λ (u : ℤ). fails alone (v ∷ vs) u ≡ false) ((Decides-int_eq s v.since).0 e) h)
          moments (ends_of moments v parts.0).begins never in
          and_from (test v.what) (list_all (λ w. test w.what) vs)
          (passed (is_current v.since v) (test v.what)
          (or_parts (is_current v.since v && not (test v.what)) (fails alone vs v.since) at_first).0 (at_its_beginning v.since v.until (nonempty moments v parts.0)))
          (back vs parts.1 (later v vs moments never))

-- ---- results

-- one condition, then the other
pub by_way_of : {A B C : Type 0} → A ↔ B → B ↔ C → A ↔ C
by_way_of p q = (λ a. q.0 (p.0 a), λ c. p.1 (q.1 c))

pub side_by_side : {A B C D : Type 0} → A ↔ B → C ↔ D → (A × C) ↔ (B × D)
side_by_side p q = (λ h. (p.0 h.0, q.0 h.1), λ h. (p.1 h.0, q.1 h.1))

pub both_true : (a b : Bool) → ((a && b) ≡ true) ↔ ((a ≡ true) × (b ≡ true))
both_true a b = (λ h. and_parts a b h, λ h. and_from a b h.0 h.1)
