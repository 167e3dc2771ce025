-- Coverage at each moment, and at each stamp.
use Rattle.std.proofs.Common.{◌≡◌, ◌↔◌, ◌⊎◌, inl, inr, ◌==◌, ℕ, Bool, true, false, ◌&&◌, ◌||◌, List, [], ◌∷◌, Option, Some, None, is_some, map as map_list, refl, sym, ap₂, subst, ◌∙◌, arith}
use Rattle.std.specs.Prelude.{ℤ, int_le, int_lt}
use Rattle.std.proofs.lemmas.List.Folds.{list_any-append}
use Rattle.std.proofs.lemmas.List.Sorted.{list_any-IsPermutation}
use Rattle.std.specs.Cmp.{nat_cmp_total}
use Rattle.std.specs.FinMap as map
use Rattle.std.specs.FinMap.{FinMap, nat_cmp-IsAntisymmetric}
use Rattle.std.specs.List.{AllByRecursion, list_all, list_any}
use Rattle.std.specs.Ordering.{nat_cmp}
use Rattle.std.proofs.lemmas.Bool.{and_from, and_parts, eqb-true, false_from_ne_true}
use Rattle.std.proofs.lemmas.Cmp.{nat_eq_equiv}
use Rattle.land_core.proofs.Booleans.{conflict, or_nothing}
use Rattle.land_core.proofs.Reflection.{some_at, some_passes}
use Rattle.land_core.specs.Entries.{has}
use Rattle.land_tables_history.proofs.Distinct.{distinct_standing}
use Rattle.land_tables_history.proofs.Entered.{made_part}
use Rattle.land_tables_history.proofs.NamingTests.{any_standing}
use Rattle.land_tables_history.specs.Intervals.{AreApart, is_interval, is_same_number}
use Rattle.land_tables_history.specs.Standing.{part_at, current_values, is_current}
use Rattle.land_tables_history.specs.declared.moment.Moment.{Moment}
use Rattle.land_tables_history.specs.declared.version.Version.{Version}
use Rattle.land_tables_validity.specs.CoverageSpans.{are_in_range, required_span, provided_span, coverage_spans}
use Rattle.land_tables_validity.proofs.Latest.{Empty, Matched, matched}
use Rattle.land_tables_history.specs.Sweeps.Cover.{IsCovered, is_required, is_provided}

-- ---- current values under a key

abbrev pub stood_by : {X : Type 0} → (key : X → ℕ) → List (Version X) → ℕ → ℤ → Bool
stood_by key vs a t = list_any (λ v. is_current t v && (key v.what == a)) vs

and_nothing : (q : Bool) → false ≡ (q && false)
and_nothing true = refl
and_nothing false = refl

shuffled : (p q l u : Bool) → (p && q && l && u) ≡ (q && ((l && u) && p))
shuffled p q l u = grind arith

gathered : (q y z : Bool) → ((q && y) || (q && z)) ≡ (q && (y || z))
gathered q y z = grind arith

module _ {X : Type 0} (key : X → ℕ) (a b : ℕ) (t : ℤ) where
  offered_by : (vs : List (Version X)) → is_provided (map_list (provided_span key) vs) a b t ≡ ((0 == b) && stood_by key vs a t)
  offered_by [] = and_nothing (0 == b)
  offered_by (v ∷ vs) =
      ap₂ (λ c d. c || d) (shuffled (key v.what == a) (0 == b) (int_le v.since t) (int_lt t v.until)) (offered_by vs)
      ∙ gathered (0 == b) (is_current t v && (key v.what == a)) (stood_by key vs a t)

  asked_by : (vs : List (Version X)) → is_required (map_list (required_span key) vs) a b t ≡ ((0 == b) && stood_by key vs a t)
  asked_by [] = and_nothing (0 == b)
  asked_by (v ∷ vs) =
      ap₂ (λ c d. c || d) (shuffled (key v.what == a) (0 == b) (int_le v.since t) (int_lt t v.until)) (asked_by vs)
      ∙ gathered (0 == b) (is_current t v && (key v.what == a)) (stood_by key vs a t)

  none_offered : (vs : List (Version X)) → is_provided (map_list (required_span key) vs) a b t ≡ false
  none_offered [] = refl
  none_offered (v ∷ vs) = none_offered vs

  none_asked : (vs : List (Version X)) → is_required (map_list (provided_span key) vs) a b t ≡ false
  none_asked [] = refl
  none_asked (v ∷ vs) = none_asked vs

module _ {X Y : Type 0} (provided : X → ℕ) (xs : List (Version X)) (required : Y → ℕ) (ys : List (Version Y)) where
  offers_are : (a b : ℕ) (t : ℤ) → is_provided (coverage_spans provided xs required ys) a b t ≡ ((0 == b) && stood_by provided xs a t)
  offers_are a b t =
      list_any-append _ (map_list (provided_span provided) xs) (map_list (required_span required) ys)
      ∙ ap₂ (λ c d. c || d) (offered_by provided a b t xs) (none_offered required a b t ys) ∙ or_nothing ((0 == b) && stood_by provided xs a t)

  asks_are : (a b : ℕ) (t : ℤ) → is_required (coverage_spans provided xs required ys) a b t ≡ ((0 == b) && stood_by required ys a t)
  asks_are a b t =
      list_any-append _ (map_list (provided_span provided) xs) (map_list (required_span required) ys)
      ∙ ap₂ (λ c d. c || d) (none_asked provided a b t xs) (asked_by required a b t ys)

  pub covered_iff : IsCovered (coverage_spans provided xs required ys) ↔ ((a : ℕ) (t : ℤ) → stood_by required ys a t ≡ true → stood_by provided xs a t ≡ true)
  covered_iff = (
    λ h a t s. sym (offers_are a 0 t) ∙ h a 0 t (asks_are a 0 t ∙ s),
    λ h a b t asks.
        let parts = and_parts (0 == b) (stood_by required ys a t) (sym (asks_are a b t) ∙ asks) in
        offers_are a b t ∙ and_from (0 == b) (stood_by provided xs a t) parts.0 (h a t parts.1),
  )

-- ---- the register

none_is_not_some : {V : Type 0} {w : V} → None ≡ Some w → ⊥
none_is_not_some e = cc

has_by : {V : Type 0} (m : FinMap nat_cmp V) (n : ℕ) → has m n ≡ list_any (λ e. e.0 == n) (map.entries m)
has_by {V} m n = go (map.get m n) refl
  where
    go : (x : Option V) → map.get m n ≡ x → is_some x ≡ list_any (λ e. e.0 == n) (map.entries m)
    go (Some v) is = sym (some_at nat_cmp_total nat_cmp-IsAntisymmetric (λ k w. k == n) m n v is (nat_eq_equiv.refl n))
    go None is = sym (false_from_ne_true (list_any (λ e. e.0 == n) (map.entries m)) (λ h.
        let it = some_passes nat_cmp_total nat_cmp-IsAntisymmetric (λ k w. k == n) m h in
        none_is_not_some (sym is ∙ subst (λ (k : ℕ). map.get m k ≡ Some it.value) (eqb-true it.key n it.passes) it.there)))

pub some_by : {V : Type 0} (p : ℕ × V → Bool) (t : ℤ) (vs : List (Version (ℕ × V))) → AreApart is_same_number vs
    → list_any p (map.entries (part_at t vs)) ≡ list_any (λ v. is_current t v && p v.what) vs
some_by p t vs apart =
    sym (list_any-IsPermutation p (current_values t vs) (map.entries (part_at t vs)) (made_part (current_values t vs) (distinct_standing is_same_number t vs apart)))
    ∙ sym (any_standing t p vs)

pub has_at : {V : Type 0} (t : ℤ) (vs : List (Version (ℕ × V))) → AreApart is_same_number vs → (n : ℕ) → has (part_at t vs) n ≡ stood_by (λ e. e.0) vs n t
has_at t vs apart n = has_by (part_at t vs) n ∙ some_by (λ e. e.0 == n) t vs apart

pub any_alike : {A : Type 0} (p q : A → Bool) → ((x : A) → p x ≡ q x) → (xs : List A) → list_any p xs ≡ list_any q xs
any_alike p q same [] = refl
any_alike p q same (x ∷ xs) = ap₂ (λ b c. b || c) (same x) (any_alike p q same xs)

-- ---- between stamps

stood_same : {X : Type 0} (moments : List Moment) (key : X → ℕ) (a : ℕ) (t s : ℤ) → ((v : Version X) → is_interval moments v ≡ true → is_current t v ≡ is_current s v)
    → (vs : List (Version X)) → list_all (is_interval moments) vs ≡ true → stood_by key vs a t ≡ stood_by key vs a s
stood_same moments key a t s same [] h = refl
stood_same moments key a t s same (v ∷ vs) h =
    let parts = and_parts (is_interval moments v) (list_all (is_interval moments) vs) h in
    ap₂ (λ b c. b && (key v.what == a) || c) (same v parts.0) (stood_same moments key a t s same vs parts.1)

stood_never : {X : Type 0} (moments : List Moment) (key : X → ℕ) (a : ℕ) (t : ℤ) → ((v : Version X) → is_interval moments v ≡ true → is_current t v ≡ false)
    → (vs : List (Version X)) → list_all (is_interval moments) vs ≡ true → stood_by key vs a t ≡ false
stood_never moments key a t none [] h = refl
stood_never moments key a t none (v ∷ vs) h =
    let parts = and_parts (is_interval moments v) (list_all (is_interval moments) vs) h in
    ap₂ (λ b c. b && (key v.what == a) || c) (none v parts.0) (stood_never moments key a t none vs parts.1)

-- a key that is provided at each stamp at which it is required is always provided
pub at_all_moments : {X Y : Type 0} (moments : List Moment) → are_in_range moments ≡ true → (provided : X → ℕ) (xs : List (Version X)) (required : Y → ℕ) (ys : List (Version Y))
    → list_all (is_interval moments) xs ≡ true → list_all (is_interval moments) ys ≡ true
    → AllByRecursion (λ m. (a : ℕ) → stood_by required ys a m.stamp ≡ true → stood_by provided xs a m.stamp ≡ true) moments
    → (a : ℕ) (t : ℤ) → stood_by required ys a t ≡ true → stood_by provided xs a t ≡ true
at_all_moments {X} {Y} moments in_time provided xs required ys p q all a t s = go (matched moments t in_time)
  where
    go : Matched moments t ⊎ Empty moments t → stood_by provided xs a t ≡ true
    go (inr e) = absurd (conflict s (stood_never moments required a t (λ v. e.none v) ys q))
    go (inl m) =
        stood_same moments provided a t m.moment.stamp (λ v. m.same v) xs p
        ∙ m.among (λ m. (a : ℕ) → stood_by required ys a m.stamp ≡ true → stood_by provided xs a m.stamp ≡ true) all a
        (sym (stood_same moments required a t m.moment.stamp (λ v. m.same v) ys q) ∙ s)

-- intervals give coverage spans that are not empty
pub nonempty : {X : Type 0} (moments : List Moment) (v : Version X) → is_interval moments v ≡ true → int_lt v.since v.until ≡ true
nonempty moments v h = (and_parts (int_lt v.since v.until) _ (and_parts (int_lt v.since v.until && _) _ h).0).0

all_asked : {Y : Type 0} (moments : List Moment) (required : Y → ℕ) (ys : List (Version Y)) → list_all (is_interval moments) ys ≡ true → list_all (λ x. int_lt x.since x.until) (map_list (required_span required) ys) ≡ true
all_asked moments required [] q = refl
all_asked moments required (w ∷ ws) q =
    let parts = and_parts (is_interval moments w) (list_all (is_interval moments) ws) q in
    and_from (int_lt w.since w.until) (list_all (λ x. int_lt x.since x.until) (map_list (required_span required) ws)) (nonempty moments w parts.0) (all_asked moments required ws parts.1)

pub pieces_begin : {X Y : Type 0} (moments : List Moment) (provided : X → ℕ) (xs : List (Version X)) (required : Y → ℕ) (ys : List (Version Y))
    → list_all (is_interval moments) xs ≡ true → list_all (is_interval moments) ys ≡ true → list_all (λ x. int_lt x.since x.until) (coverage_spans provided xs required ys) ≡ true
pieces_begin moments provided [] required ys p q = all_asked moments required ys q
pieces_begin moments provided (v ∷ vs) required ys p q =
    let parts = and_parts (is_interval moments v) (list_all (is_interval moments) vs) p in
    and_from (int_lt v.since v.until) (list_all (λ x. int_lt x.since x.until) (coverage_spans provided vs required ys)) (nonempty moments v parts.0) (pieces_begin moments provided vs required ys parts.1 q)
