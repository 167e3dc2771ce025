-- Coverage with keys of two numbers, at each moment and at each stamp.
use Rattle.std.proofs.Common.{◌≡◌, ◌↔◌, ◌⊎◌, inl, inr, ◌==◌, ℕ, Bool, true, false, not, ◌&&◌, ◌||◌, List, [], ◌∷◌, flat_map, map as map_list, refl, sym, ap, ap₂, ◌∙◌, arith}
use Rattle.std.specs.Prelude.{ℤ, int_le, int_lt}
use Rattle.std.proofs.lemmas.List.Folds.{list_all-append, list_any-append}
use Rattle.std.specs.List.{AllByRecursion, list_all, list_any}
use Rattle.std.proofs.lemmas.Bool.{and_from, and_parts}
use Rattle.land_core.proofs.Booleans.{conflict, or_nothing}
use Rattle.land_core.proofs.Reflection.{list_any-map}
use Rattle.land_tables_history.specs.Intervals.{is_interval}
use Rattle.land_tables_history.specs.Standing.{is_current}
use Rattle.land_tables_history.specs.declared.moment.Moment.{Moment}
use Rattle.land_tables_history.specs.declared.version.Version.{Version}
use Rattle.land_tables_validity.proofs.Covers.{nonempty}
use Rattle.land_tables_validity.proofs.Latest.{Empty, Matched, matched}
use Rattle.land_tables_validity.specs.KeyPairs.{pair_at, key_spans, key_pairs}
use Rattle.land_tables_validity.specs.CoverageSpans.{are_in_range}
use Rattle.land_tables_history.specs.Sweeps.Cover.{IsCovered, is_required, is_at, is_provided}

-- a current value passes a test
abbrev pub stood : {X : Type 0} → (passes : X → Bool) → List (Version X) → ℤ → Bool
stood passes vs t = list_any (λ v. is_current t v && passes v.what) vs

abbrev pub is_pair : ℕ × ℕ → ℕ × ℕ → Bool
is_pair key k = (k.0 == key.0) && (k.1 == key.1)

-- a key is among those of a value
abbrev pub has_key : {X : Type 0} → (keys : X → List (ℕ × ℕ)) → ℕ × ℕ → X → Bool
has_key keys key x = list_any (is_pair key) (keys x)

-- at a moment each key of the current values of one side is one of the other side
abbrev pub AreAmong : {X Y : Type 0} → (provided : X → List (ℕ × ℕ)) → List (Version X)
    → (required : Y → List (ℕ × ℕ)) → List (Version Y) → ℤ → Type 0
AreAmong provided xs required ys t = (key : ℕ × ℕ) → stood (has_key required key) ys t ≡ true → stood (has_key provided key) xs t ≡ true

-- ---- current values under a key of two numbers

pub any_flat : {X Y : Type 0} (p : Y → Bool) (f : X → List Y) (xs : List X)
    → list_any p (flat_map f xs) ≡ list_any (λ x. list_any p (f x)) xs
any_flat p f [] = refl
any_flat p f (x ∷ xs) = list_any-append p (f x) (flat_map f xs) ∙ ap (λ b. list_any p (f x) || b) (any_flat p f xs)

and_nothing : (q : Bool) → false ≡ (q && false)
and_nothing true = refl
and_nothing false = refl

nothing_stands : (c s : Bool) → false ≡ (c && (s && false))
nothing_stands true true = refl
nothing_stands true false = refl
nothing_stands false s = refl

gathered : (c p q l u r : Bool) → ((c && (p && q && l && u)) || (c && ((l && u) && r))) ≡ (c && ((l && u) && ((p && q) || r)))
gathered c p q l u r = grind arith

shared : (q y z : Bool) → ((q && y) || (q && z)) ≡ (q && (y || z))
shared q y z = grind arith

one_stands : (c l u : Bool) (key : ℕ × ℕ) (ks : List (ℕ × ℕ))
    → list_any (λ k. c && ((k.0 == key.0) && (k.1 == key.1) && l && u)) ks ≡ (c && ((l && u) && list_any (is_pair key) ks))
one_stands c l u key [] = nothing_stands c (l && u)
one_stands c l u key (k ∷ ks) =
    ap (λ b. (c && ((k.0 == key.0) && (k.1 == key.1) && l && u)) || b) (one_stands c l u key ks)
    ∙ gathered c (k.0 == key.0) (k.1 == key.1) l u (list_any (is_pair key) ks)

module _ {X : Type 0} (keys : X → List (ℕ × ℕ)) (required : Bool) (key : ℕ × ℕ) (t : ℤ) where
  offered_in : (vs : List (Version X))
      → is_provided (flat_map (key_spans required keys) vs) key.0 key.1 t ≡ (not required && stood (has_key keys key) vs t)
  offered_in [] = and_nothing (not required)
  offered_in (v ∷ vs) =
      list_any-append (λ x. not x.required && is_at key.0 key.1 t x) (key_spans required keys v) (flat_map (key_spans required keys) vs)
      ∙ ap₂ (λ b c. b || c)
      (list_any-map (λ x. not x.required && is_at key.0 key.1 t x) (λ k. pair_at required k.0 k.1 v.since v.until) (keys v.what)
      ∙ one_stands (not required) (int_le v.since t) (int_lt t v.until) key (keys v.what)) (offered_in vs)
      ∙ shared (not required) (is_current t v && has_key keys key v.what) (stood (has_key keys key) vs t)

  asked_in : (vs : List (Version X)) → is_required (flat_map (key_spans required keys) vs) key.0 key.1 t ≡ (required && stood (has_key keys key) vs t)
  asked_in [] = and_nothing required
  asked_in (v ∷ vs) =
      list_any-append (λ x. x.required && is_at key.0 key.1 t x) (key_spans required keys v) (flat_map (key_spans required keys) vs)
      ∙ ap₂ (λ b c. b || c)
      (list_any-map (λ x. x.required && is_at key.0 key.1 t x) (λ k. pair_at required k.0 k.1 v.since v.until) (keys v.what)
      ∙ one_stands required (int_le v.since t) (int_lt t v.until) key (keys v.what)) (asked_in vs)
      ∙ shared required (is_current t v && has_key keys key v.what) (stood (has_key keys key) vs t)

module _ {X Y : Type 0} (provided : X → List (ℕ × ℕ)) (xs : List (Version X)) (required : Y → List (ℕ × ℕ)) (ys : List (Version Y)) where
  offers_are : (key : ℕ × ℕ) (t : ℤ) → is_provided (key_pairs provided xs required ys) key.0 key.1 t ≡ stood (has_key provided key) xs t
  offers_are key t =
      list_any-append (λ x. not x.required && is_at key.0 key.1 t x) (flat_map (key_spans false provided) xs) (flat_map (key_spans true required) ys)
      ∙ ap₂ (λ b c. b || c) (offered_in provided false key t xs) (offered_in required true key t ys)
      ∙ or_nothing (stood (has_key provided key) xs t)

  asks_are : (key : ℕ × ℕ) (t : ℤ) → is_required (key_pairs provided xs required ys) key.0 key.1 t ≡ stood (has_key required key) ys t
  asks_are key t =
      list_any-append (λ x. x.required && is_at key.0 key.1 t x) (flat_map (key_spans false provided) xs) (flat_map (key_spans true required) ys)
      ∙ ap₂ (λ b c. b || c) (asked_in provided false key t xs) (asked_in required true key t ys)

  -- required moments are provided if and only if each current key of one side is current on the other
  pub pairs_covered_iff : IsCovered (key_pairs provided xs required ys)
      ↔ ((key : ℕ × ℕ) (t : ℤ) → stood (has_key required key) ys t ≡ true → stood (has_key provided key) xs t ≡ true)
  pairs_covered_iff = (
    λ h key t s. sym (offers_are key t) ∙ h key.0 key.1 t (asks_are key t ∙ s),
    λ h a b t asks. offers_are (a, b) t ∙ h (a, b) t (sym (asks_are (a, b) t) ∙ asks),
  )

-- ---- between stamps

stood_same : {X : Type 0} (moments : List Moment) (passes : X → Bool) (t s : ℤ)
    → ((v : Version X) → is_interval moments v ≡ true → is_current t v ≡ is_current s v)
    → (vs : List (Version X)) → list_all (is_interval moments) vs ≡ true → stood passes vs t ≡ stood passes vs s
stood_same moments passes t s same [] h = refl
stood_same moments passes t s same (v ∷ vs) h =
    let parts = and_parts (is_interval moments v) (list_all (is_interval moments) vs) h in
    ap₂ (λ b c. b && passes v.what || c) (same v parts.0) (stood_same moments passes t s same vs parts.1)

stood_never : {X : Type 0} (moments : List Moment) (passes : X → Bool) (t : ℤ)
    → ((v : Version X) → is_interval moments v ≡ true → is_current t v ≡ false)
    → (vs : List (Version X)) → list_all (is_interval moments) vs ≡ true → stood passes vs t ≡ false
stood_never moments passes t none [] h = refl
stood_never moments passes t none (v ∷ vs) h =
    let parts = and_parts (is_interval moments v) (list_all (is_interval moments) vs) h in
    ap₂ (λ b c. b && passes v.what || c) (none v parts.0) (stood_never moments passes t none vs parts.1)

-- for any tests: if a value of one kind is current at each stamp at which one of the other is, it always is
pub stood_at_all_moments : {X Y I : Type 0} (moments : List Moment) → are_in_range moments ≡ true
    → (provided : I → X → Bool) (xs : List (Version X)) (required : I → Y → Bool) (ys : List (Version Y))
    → list_all (is_interval moments) xs ≡ true → list_all (is_interval moments) ys ≡ true
    → AllByRecursion (λ m. (i : I) → stood (required i) ys m.stamp ≡ true → stood (provided i) xs m.stamp ≡ true) moments
    → (i : I) (t : ℤ) → stood (required i) ys t ≡ true → stood (provided i) xs t ≡ true
stood_at_all_moments {X} {Y} {I} moments in_time provided xs required ys p q all i t s = go (matched moments t in_time)
  where
    go : Matched moments t ⊎ Empty moments t → stood (provided i) xs t ≡ true
    go (inr e) = absurd (conflict s (stood_never moments (required i) t (λ v. e.none v) ys q))
    go (inl m) =
        stood_same moments (provided i) t m.moment.stamp (λ v. m.same v) xs p
        ∙ m.among (λ m. (i : I) → stood (required i) ys m.stamp ≡ true → stood (provided i) xs m.stamp ≡ true) all i
        (sym (stood_same moments (required i) t m.moment.stamp (λ v. m.same v) ys q) ∙ s)

-- a key that is provided at each stamp at which it is required is always provided
pub pairs_at_all_moments : {X Y : Type 0} (moments : List Moment) → are_in_range moments ≡ true
    → (provided : X → List (ℕ × ℕ)) (xs : List (Version X)) (required : Y → List (ℕ × ℕ)) (ys : List (Version Y))
    → list_all (is_interval moments) xs ≡ true → list_all (is_interval moments) ys ≡ true
    → AllByRecursion (λ m. AreAmong provided xs required ys m.stamp) moments
    → (key : ℕ × ℕ) (t : ℤ) → stood (has_key required key) ys t ≡ true → stood (has_key provided key) xs t ≡ true
pairs_at_all_moments moments in_time provided xs required ys p q all =
    stood_at_all_moments moments in_time (λ key. has_key provided key) xs (λ key. has_key required key) ys p q all

module _ {X Y : Type 0} (provided : X → List (ℕ × ℕ)) (xs : List (Version X)) (required : Y → List (ℕ × ℕ)) (ys : List (Version Y)) where
  at_each : ((key : ℕ × ℕ) (t : ℤ) → stood (has_key required key) ys t ≡ true → stood (has_key provided key) xs t ≡ true)
      → (ms : List Moment) → AllByRecursion (λ m. AreAmong provided xs required ys m.stamp) ms
  at_each h [] = tt
  at_each h (m ∷ ms) = (λ key s. h key m.stamp s, at_each h ms)

  -- required moments are provided if they are at the stamps
  pub pairs_covered_at_stamps : (moments : List Moment) → are_in_range moments ≡ true
      → list_all (is_interval moments) xs ≡ true → list_all (is_interval moments) ys ≡ true
      → IsCovered (key_pairs provided xs required ys) ↔ AllByRecursion (λ m. AreAmong provided xs required ys m.stamp) moments
  pairs_covered_at_stamps moments in_time p q = (
    λ c. at_each ((pairs_covered_iff provided xs required ys).0 c) moments,
    λ all. (pairs_covered_iff provided xs required ys).1 (pairs_at_all_moments moments in_time provided xs required ys p q all),
  )

-- ---- intervals give spans that are not empty

all_begin : (required : Bool) (since until : ℤ) → int_lt since until ≡ true → (ks : List (ℕ × ℕ))
    → list_all (λ x. int_lt x.since x.until) (map_list (λ k. pair_at required k.0 k.1 since until) ks) ≡ true
all_begin required since until h [] = refl
all_begin required since until h (k ∷ ks) =
    and_from (int_lt since until) (list_all (λ x. int_lt x.since x.until) (map_list (λ k. pair_at required k.0 k.1 since until) ks)) h
    (all_begin required since until h ks)

paired_begin : {X : Type 0} (moments : List Moment) (required : Bool) (keys : X → List (ℕ × ℕ)) (vs : List (Version X))
    → list_all (is_interval moments) vs ≡ true
    → list_all (λ x. int_lt x.since x.until) (flat_map (key_spans required keys) vs) ≡ true
paired_begin moments required keys [] h = refl
paired_begin moments required keys (v ∷ vs) h =
    let parts = and_parts (is_interval moments v) (list_all (is_interval moments) vs) h in
    list_all-append (λ x. int_lt x.since x.until) (key_spans required keys v) (flat_map (key_spans required keys) vs)
    ∙ and_from (list_all (λ x. int_lt x.since x.until) (key_spans required keys v))
    (list_all (λ x. int_lt x.since x.until) (flat_map (key_spans required keys) vs))
    (all_begin required v.since v.until (nonempty moments v parts.0) (keys v.what)) (paired_begin moments required keys vs parts.1)

pub pairs_begin : {X Y : Type 0} (moments : List Moment) (provided : X → List (ℕ × ℕ)) (xs : List (Version X))
    (required : Y → List (ℕ × ℕ)) (ys : List (Version Y))
    → list_all (is_interval moments) xs ≡ true → list_all (is_interval moments) ys ≡ true
    → list_all (λ x. int_lt x.since x.until) (key_pairs provided xs required ys) ≡ true
pairs_begin moments provided xs required ys p q =
    list_all-append (λ x. int_lt x.since x.until) (flat_map (key_spans false provided) xs) (flat_map (key_spans true required) ys)
    ∙ and_from (list_all (λ x. int_lt x.since x.until) (flat_map (key_spans false provided) xs))
    (list_all (λ x. int_lt x.since x.until) (flat_map (key_spans true required) ys))
    (paired_begin moments false provided xs p) (paired_begin moments true required ys q)
