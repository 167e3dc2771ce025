-- Coverage spans in order: the reach of the provided spans determines whether the required ones are covered.
use Rattle.std.proofs.Common.{◌≡◌, ◌↔◌, ◌⊎◌, inl, inr, IsPermutation, ◌==◌, ℕ, ◌≤◌, Bool, true, false, cond, not, ◌||◌, ◌&&◌, List, [], ◌∷◌, Option, Some, None, refl, sym, ap, subst, ◌∙◌, arith}
use Rattle.std.proofs.lemmas.Cmp.{on_total, then_total}
use Rattle.std.proofs.lemmas.List.Sorted.{list_any-IsPermutation}
use Rattle.std.specs.Cmp.{IsTotalOrder, bool_cmp_total, int_cmp_total, nat_cmp_total}
use Rattle.std.specs.List.Sorted.{IsSorted}
use Rattle.std.specs.Option.{option_map_or}
use Rattle.std.specs.Ordering.{bool_cmp, int_cmp, is_eq, is_lt, nat_cmp, ordering_then}
use Rattle.std.specs.declared.cmp.Ordering.{Ordering}
use Rattle.std.specs.Prelude.{ℤ, ◌≤ℤ◌, int_le, int_lt, nat_eq}
use Rattle.std.proofs.lemmas.Bool.{false≢true, and_parts, or_cases, or_left, or_right}
use Rattle.std.proofs.lemmas.Bool.Decides.{nat_tests}
use Rattle.std.proofs.lemmas.Int.{ints}
use Rattle.std.specs.List.{AllByRecursion, list_all, list_any}
use Rattle.land_core.proofs.Booleans.{conflict}
use Rattle.land_tables_history.proofs.MomentOrder.{le_itself}
use Rattle.land_tables_history.proofs.SweepOrders.{Rising, no_earlier, no_less, rising_in_order, then_not, tie}
use Rattle.land_tables_history.proofs.Permutations.{all_permuted}
use Rattle.land_tables_history.specs.Sweeps.Cover.{IsCovered, is_required, is_at, is_provided}
use Rattle.land_tables_history.specs.Sweeps.CoverSteps.{with_required, first_reach, covered_from, is_same_key, later, with_provided, coverage_span_cmp}
use Rattle.land_tables_history.specs.declared.sweeps.cover.CoverageSpan.{CoverageSpan}
use Rattle.land_tables_history.specs.declared.sweeps.cover.Reach.{Reach}

-- ---- one key at one moment, in plain numbers

abbrev at : (f s : ℕ) → (since until : ℤ) → (a b : ℕ) → (t : ℤ) → Bool
at f s since until a b t = (f == a) && (s == b) && int_le since t && int_lt t until

-- a required span that starts within the reach: each of its moments is required, and is reached or was
-- required before
more_asked : (f s fx sx a b : ℕ) (since reach need sincex untilx t : ℤ) → ((f == fx) && (s == sx)) ≡ true → int_lt sincex reach ≡ true
    → at f s since (later need untilx) a b t ≡ true
    → (at f s since need a b t || (at fx sx sincex untilx a b t || at f s since reach a b t)) ≡ true
more_asked f s fx sx a b since reach need sincex untilx t same within h = grind (arith, ints, nat_tests)

-- and conversely
still_asked : (f s fx sx a b : ℕ) (since need sincex untilx t : ℤ) → ((f == fx) && (s == sx)) ≡ true → int_le since sincex ≡ true
    → (at f s since need a b t || at fx sx sincex untilx a b t) ≡ true → at f s since (later need untilx) a b t ≡ true
still_asked f s fx sx a b since need sincex untilx t same order h = grind (arith, ints, nat_tests)

-- each moment of a provided span that starts within the reach is provided or reached
more_offered : (f s fx sx a b : ℕ) (since reach sincex untilx t : ℤ) → ((f == fx) && (s == sx)) ≡ true → int_le since sincex ≡ true → int_le sincex reach ≡ true
    → at f s since (later reach untilx) a b t ≡ (at f s since reach a b t || at fx sx sincex untilx a b t)
more_offered f s fx sx a b since reach sincex untilx t same order within = grind (arith, ints, nat_tests)

-- the required moments beyond the reach
beyond : (f s a b : ℕ) (since reach need t : ℤ) → int_le need reach ≡ true → at f s since need a b t ≡ true → at f s since reach a b t ≡ true
beyond f s a b since reach need t less h = grind (arith, ints, nat_tests)

here : (f s : ℕ) (since reach need : ℤ) → int_lt since reach ≡ true → int_le need reach ≡ false → at f s since need f s reach ≡ true
here f s since reach need some more = grind (arith, ints, nat_tests)

not_here : (f s : ℕ) (since reach : ℤ) → at f s since reach f s reach ≡ false
not_here f s since reach = grind (arith, ints, nat_tests)

nothing : (f s a b : ℕ) (since t : ℤ) → at f s since since a b t ≡ false
nothing f s a b since t = grind (arith, ints, nat_tests)

at_its_beginning : (f s : ℕ) (since until : ℤ) → int_lt since until ≡ true → at f s since until f s since ≡ true
at_its_beginning f s since until opened_version = grind (arith, ints, nat_tests)

not_within : (f s fx sx : ℕ) (since reach sincex : ℤ) → (((f == fx) && (s == sx)) && int_lt sincex reach) ≡ false → at f s since reach fx sx sincex ≡ false
not_within f s fx sx since reach sincex h = grind (arith, ints, nat_tests)

-- ---- in order

-- a span does not come before another
record Follows (x y : CoverageSpan) : Type 0 where
  first : x.first ≤ y.first
  second : nat_eq x.first y.first ≡ true → x.second ≤ y.second
  since : nat_eq x.first y.first ≡ true → nat_eq x.second y.second ≡ true → x.since ≤ℤ y.since
  required : nat_eq x.first y.first ≡ true → nat_eq x.second y.second ≡ true → x.since ≡ y.since → x.required ≡ true → y.required ≡ true

-- a span does not start before the reach
record IsAfter (s : Reach) (y : CoverageSpan) : Type 0 where
  first : s.first ≤ y.first
  second : nat_eq s.first y.first ≡ true → s.second ≤ y.second
  since : nat_eq s.first y.first ≡ true → nat_eq s.second y.second ≡ true → s.since ≤ℤ y.since

abbrev is_begun : CoverageSpan → Bool
is_begun x = int_lt x.since x.until

-- after a gap, no later span provides or requires the key at a moment of the reach
far : (f s fx sx fy sy a b : ℕ) (reach sincex sincey untily t : ℤ) → f ≤ fx → (nat_eq f fx ≡ true → s ≤ sx) → fx ≤ fy → (nat_eq fx fy ≡ true → sx ≤ sy)
    → (nat_eq fx fy ≡ true → nat_eq sx sy ≡ true → sincex ≤ℤ sincey) → (((f == fx) && (s == sx)) && int_le sincex reach) ≡ false
    → ((f == a) && (s == b)) ≡ true → at fy sy sincey untily a b t ≡ true → int_lt reach t ≡ true
far f s fx sx fy sy a b reach sincex sincey untily t p1 p2 q1 q2 q3 gap key h = grind (arith, ints, nat_tests)

-- ---- tests joined

-- ---- one more span

asks_more : (x : CoverageSpan) (xs : List CoverageSpan) (a b : ℕ) (t : ℤ) → x.required ≡ true → is_required (x ∷ xs) a b t ≡ (is_at a b t x || is_required xs a b t)
asks_more x xs a b t e = ap (λ c. c && is_at a b t x || is_required xs a b t) e

offers_as : (x : CoverageSpan) (xs : List CoverageSpan) (a b : ℕ) (t : ℤ) → x.required ≡ true → is_provided (x ∷ xs) a b t ≡ is_provided xs a b t
offers_as x xs a b t e = ap (λ c. not c && is_at a b t x || is_provided xs a b t) e

asks_as : (x : CoverageSpan) (xs : List CoverageSpan) (a b : ℕ) (t : ℤ) → x.required ≡ false → is_required (x ∷ xs) a b t ≡ is_required xs a b t
asks_as x xs a b t e = ap (λ c. c && is_at a b t x || is_required xs a b t) e

offers_more : (x : CoverageSpan) (xs : List CoverageSpan) (a b : ℕ) (t : ℤ) → x.required ≡ false → is_provided (x ∷ xs) a b t ≡ (is_at a b t x || is_provided xs a b t)
offers_more x xs a b t e = ap (λ c. not c && is_at a b t x || is_provided xs a b t) e

-- the reach as spans: the provided one, and the required one
abbrev reached : Reach → CoverageSpan
reached s = record { first = s.first; second = s.second; since = s.since; required = false; until = s.reach }

abbrev needed : Reach → CoverageSpan
needed s = record { first = s.first; second = s.second; since = s.since; required = true; until = s.need }

abbrev after : Reach → List CoverageSpan → List CoverageSpan
after s xs = reached s ∷ needed s ∷ xs

abbrev reaches : Reach → (a b : ℕ) → (t : ℤ) → Bool
reaches s a b t = at s.first s.second s.since s.reach a b t

abbrev needs : Reach → (a b : ℕ) → (t : ℤ) → Bool
needs s a b t = at s.first s.second s.since s.need a b t

-- ---- a span that extends the reach

asked_on : (s : Reach) (x : CoverageSpan) (xs : List CoverageSpan) → x.required ≡ true → is_same_key s x ≡ true → int_lt x.since s.reach ≡ true → int_le s.since x.since ≡ true
    → IsCovered (after s (x ∷ xs)) ↔ IsCovered (after (record s { need = later s.need x.until }) xs)
asked_on s x xs e same within order = (there, back)
  where
    there : IsCovered (after s (x ∷ xs)) → IsCovered (after (record s { need = later s.need x.until }) xs)
    there h a b t asks = elim (or_cases (at s.first s.second s.since (later s.need x.until) a b t) (is_required xs a b t) asks) [
      | inl it ↦ elim (or_cases (needs s a b t) (is_at a b t x || reaches s a b t) (more_asked s.first s.second x.first x.second a b s.since s.reach s.need x.since x.until t same within it)) [
        | inl old ↦ so (or_left (needs s a b t) (is_required (x ∷ xs) a b t) old)
        | inr two ↦ elim (or_cases (is_at a b t x) (reaches s a b t) two) [
          | inl new ↦ so (or_right (needs s a b t) (is_required (x ∷ xs) a b t) (asks_more x xs a b t e ∙ or_left (is_at a b t x) (is_required xs a b t) new))
          | inr had ↦ or_left (reaches s a b t) (is_provided xs a b t) had
        ]
      ]
      | inr more ↦ so (or_right (needs s a b t) (is_required (x ∷ xs) a b t) (asks_more x xs a b t e ∙ or_right (is_at a b t x) (is_required xs a b t) more))
    ]
      where
        so : (needs s a b t || is_required (x ∷ xs) a b t) ≡ true → (reaches s a b t || is_provided xs a b t) ≡ true
        so asks = sym (ap (λ c. reaches s a b t || c) (offers_as x xs a b t e)) ∙ h a b t asks

    back : IsCovered (after (record s { need = later s.need x.until }) xs) → IsCovered (after s (x ∷ xs))
    back h a b t asks = ap (λ c. reaches s a b t || c) (offers_as x xs a b t e) ∙ h a b t (
        elim (or_cases (needs s a b t) (is_required (x ∷ xs) a b t) asks) [
          | inl old ↦ so (or_left (needs s a b t) (is_at a b t x) old)
          | inr two ↦ elim (or_cases (is_at a b t x) (is_required xs a b t) (sym (asks_more x xs a b t e) ∙ two)) [
            | inl new ↦ so (or_right (needs s a b t) (is_at a b t x) new)
            | inr more ↦ or_right (at s.first s.second s.since (later s.need x.until) a b t) (is_required xs a b t) more
          ]
        ])
      where
        so : (needs s a b t || is_at a b t x) ≡ true → (at s.first s.second s.since (later s.need x.until) a b t || is_required xs a b t) ≡ true
        so two = or_left (at s.first s.second s.since (later s.need x.until) a b t) (is_required xs a b t)
            (still_asked s.first s.second x.first x.second a b s.since s.need x.since x.until t same order two)

offered_on : (s : Reach) (x : CoverageSpan) (xs : List CoverageSpan) → x.required ≡ false → is_same_key s x ≡ true → int_le x.since s.reach ≡ true → int_le s.since x.since ≡ true
    → IsCovered (after s (x ∷ xs)) ↔ IsCovered (after (record s { reach = later s.reach x.until }) xs)
offered_on s x xs e same within order = (
  λ h a b t asks. sym (offers a b t) ∙ h a b t (ap (λ c. needs s a b t || c) (asks_as x xs a b t e) ∙ asks),
  λ h a b t asks. offers a b t ∙ h a b t (sym (ap (λ c. needs s a b t || c) (asks_as x xs a b t e)) ∙ asks),
)
  where
    joined : (p x o q : Bool) → q ≡ (p || x) → (p || (x || o)) ≡ (q || o)
    joined true x o q h = ap (λ c. c || o) (sym h)
    joined false x o q h = ap (λ c. c || o) (sym h)

    offers : (a b : ℕ) (t : ℤ) → is_provided (after s (x ∷ xs)) a b t ≡ is_provided (after (record s { reach = later s.reach x.until }) xs) a b t
    offers a b t =
        ap (λ c. reaches s a b t || c) (offers_more x xs a b t e)
        ∙ joined (reaches s a b t) (is_at a b t x) (is_provided xs a b t) (at s.first s.second s.since (later s.reach x.until) a b t)
        (more_offered s.first s.second x.first x.second a b s.since s.reach x.since x.until t same order within)

-- ---- a span after a gap

asks_nothing : (x : CoverageSpan) (xs : List CoverageSpan) (a b : ℕ) (t : ℤ) → is_required (after (first_reach x) xs) a b t ≡ is_required xs a b t
asks_nothing x xs a b t = ap (λ c. c || is_required xs a b t) (nothing x.first x.second a b x.since t)

-- a provided span is not empty
begun_on : (x : CoverageSpan) (xs : List CoverageSpan) → x.required ≡ false → IsCovered (x ∷ xs) ↔ IsCovered (after (first_reach x) xs)
begun_on x xs e = (
  λ h a b t asks. sym (offers_more x xs a b t e) ∙ h a b t (asks_as x xs a b t e ∙ sym (asks_nothing x xs a b t) ∙ asks),
  λ h a b t asks. offers_more x xs a b t e ∙ h a b t (asks_nothing x xs a b t ∙ sym (asks_as x xs a b t e) ∙ asks),
)

-- the key of a reach, in a span after a gap, comes later than the reach
beyond_gap : (s : Reach) (x y : CoverageSpan) (a b : ℕ) (t : ℤ) → IsAfter s x → (Follows x y ⊎ (x ≡ y)) → (is_same_key s x && int_le x.since s.reach) ≡ false
    → ((s.first == a) && (s.second == b)) ≡ true → is_at a b t y ≡ true → int_lt s.reach t ≡ true
beyond_gap s x y a b t p (inl q) gap key h =
    far s.first s.second x.first x.second y.first y.second a b s.reach x.since y.since y.until t p.first p.second q.first q.second q.since gap key h
beyond_gap s x y a b t p (inr same) gap key h =
    far s.first s.second x.first x.second x.first x.second a b s.reach x.since x.since x.until t p.first p.second (omega arith) (λ _. omega arith) (λ _ _. le_itself x.since) gap key
    (subst (λ (z : CoverageSpan). is_at a b t z ≡ true) (sym same) h)

-- no span is of this key at this moment
none_later : (p : CoverageSpan → Bool) (xs : List CoverageSpan) → AllByRecursion (λ y. p y ≡ false) xs → list_any p xs ≡ false
none_later p [] all = refl
none_later p (y ∷ ys) all = ap (λ c. c || list_any p ys) all.0 ∙ none_later p ys all.1

some_later : (p : CoverageSpan → Bool) (P : CoverageSpan → Type 0) (xs : List CoverageSpan) → list_any p xs ≡ true → AllByRecursion P xs → {Q : Type 0} → ((y : CoverageSpan) → p y ≡ true → P y → Q) → Q
some_later p P [] h all k = absurd (false≢true h)
some_later p P (y ∷ ys) h all k = elim (or_cases (p y) (list_any p ys) h) [ inl it ↦ k y it all.0 | inr more ↦ some_later p P ys more all.1 k ]

late : (reach : ℤ) → int_lt reach reach ≡ false
late reach = grind (arith, ints)

key_of : (f s a b : ℕ) (since until t : ℤ) → at f s since until a b t ≡ true → ((f == a) && (s == b)) ≡ true
key_of f s a b since until t h = grind (arith, ints, nat_tests)

not_past : (f s a b : ℕ) (since until t : ℤ) → at f s since until a b t ≡ true → int_lt until t ≡ false
not_past f s a b since until t h = grind (arith, ints, nat_tests)

within : (f s a b : ℕ) (since until t : ℤ) → at f s since until a b t ≡ true → int_lt until t ≡ true → ⊥
within f s a b since until t h past = conflict past (not_past f s a b since until t h)

key_itself : (f s : ℕ) → ((f == f) && (s == s)) ≡ true
key_itself f s = grind (arith, nat_tests)

gap_on : (s : Reach) (x : CoverageSpan) (xs : List CoverageSpan) → x.required ≡ false → IsAfter s x → AllByRecursion (Follows x) xs → (is_same_key s x && int_le x.since s.reach) ≡ false → int_le s.need s.reach ≡ true
    → IsCovered (after s (x ∷ xs)) ↔ IsCovered (x ∷ xs)
gap_on s x xs e p later gap less = (there, back)
  where
    there : IsCovered (after s (x ∷ xs)) → IsCovered (x ∷ xs)
    there h a b t asks = elim (or_cases (reaches s a b t) (is_provided (x ∷ xs) a b t) (h a b t (or_right (needs s a b t) (is_required (x ∷ xs) a b t) asks))) [
      | inl it ↦ absurd (some_later (λ y. y.required && is_at a b t y) (Follows x) xs (sym (asks_as x xs a b t e) ∙ asks) later
          (λ y required q. within s.first s.second a b s.since s.reach t it
          (beyond_gap s x y a b t p (inl q) gap (key_of s.first s.second a b s.since s.reach t it) (and_parts y.required (is_at a b t y) required).1)))
      | inr it ↦ it
    ]

    back : IsCovered (x ∷ xs) → IsCovered (after s (x ∷ xs))
    back h a b t asks = elim (or_cases (needs s a b t) (is_required (x ∷ xs) a b t) asks) [
      | inl it ↦ or_left (reaches s a b t) (is_provided (x ∷ xs) a b t) (beyond s.first s.second a b s.since s.reach s.need t less it)
      | inr it ↦ or_right (reaches s a b t) (is_provided (x ∷ xs) a b t) (h a b t it)
    ]

-- a moment that was required beyond the gap is not covered
gap_fails : (s : Reach) (x : CoverageSpan) (xs : List CoverageSpan) → int_lt s.since s.reach ≡ true → IsAfter s x → AllByRecursion (Follows x) xs → (is_same_key s x && int_le x.since s.reach) ≡ false → int_le s.need s.reach ≡ false
    → IsCovered (after s (x ∷ xs)) → ⊥
gap_fails s x xs some p later gap more h =
    elim (or_cases (reaches s s.first s.second s.reach) (is_provided (x ∷ xs) s.first s.second s.reach)
    (h s.first s.second s.reach (or_left (needs s s.first s.second s.reach) (is_required (x ∷ xs) s.first s.second s.reach) (here s.first s.second s.since s.reach s.need some more)))) [
      | inl it ↦ conflict it (not_here s.first s.second s.since s.reach)
      | inr it ↦ elim (or_cases (not x.required && is_at s.first s.second s.reach x) (is_provided xs s.first s.second s.reach) it) [
        | inl new ↦ conflict (beyond_gap s x x s.first s.second s.reach p (inr refl) gap (key_itself s.first s.second) (and_parts (not x.required) (is_at s.first s.second s.reach x) new).1) (late s.reach)
        | inr later_one ↦ some_later (λ y. not y.required && is_at s.first s.second s.reach y) (Follows x) xs later_one later
            (λ y provided q. conflict (beyond_gap s x y s.first s.second s.reach p (inl q) gap (key_itself s.first s.second) (and_parts (not y.required) (is_at s.first s.second s.reach y) provided).1) (late s.reach))
      ]
    ]

-- ---- a required span that is not provided

same_beginning : (fx sx fy sy : ℕ) (sincex sincey untily : ℤ) → (nat_eq fx fy ≡ true → nat_eq sx sy ≡ true → sincex ≤ℤ sincey) → at fy sy sincey untily fx sx sincex ≡ true
    → (nat_eq fx fy ≡ true) × (nat_eq sx sy ≡ true) × (sincex ≡ sincey)
same_beginning fx sx fy sy sincex sincey untily q h =
    let one : nat_eq fx fy ≡ true = grind (arith, ints, nat_tests) in
    let two : nat_eq sx sy ≡ true = grind (arith, ints, nat_tests) in
    (one, two, last (q one two))
  where
    last : sincex ≤ℤ sincey → sincex ≡ sincey
    last less = let le : int_le sincey sincex ≡ true = grind (arith, ints, nat_tests) in omega (arith, ints)

-- no later span provides the key at the start of this one
not_offered : (x : CoverageSpan) (xs : List CoverageSpan) → x.required ≡ true → AllByRecursion (Follows x) xs → is_provided xs x.first x.second x.since ≡ true → ⊥
not_offered x xs e later h = some_later (λ y. not y.required && is_at x.first x.second x.since y) (Follows x) xs h later
    (λ y provided q.
    let parts = and_parts (not y.required) (is_at x.first x.second x.since y) provided in
    let same = same_beginning x.first x.second y.first y.second x.since y.since y.until q.since parts.1 in
    conflict parts.0 (ap not (q.required same.0 same.1 same.2 e)))

asked_first_fails : (x : CoverageSpan) (xs : List CoverageSpan) → x.required ≡ true → int_lt x.since x.until ≡ true → AllByRecursion (Follows x) xs → IsCovered (x ∷ xs) → ⊥
asked_first_fails x xs e some later h =
    not_offered x xs e later (sym (offers_as x xs x.first x.second x.since e)
    ∙ h x.first x.second x.since (asks_more x xs x.first x.second x.since e ∙ or_left (is_at x.first x.second x.since x) (is_required xs x.first x.second x.since) (at_its_beginning x.first x.second x.since x.until some)))

asked_fails : (s : Reach) (x : CoverageSpan) (xs : List CoverageSpan) → x.required ≡ true → int_lt x.since x.until ≡ true → AllByRecursion (Follows x) xs → (is_same_key s x && int_lt x.since s.reach) ≡ false
    → IsCovered (after s (x ∷ xs)) → ⊥
asked_fails s x xs e some later gap h =
    elim (or_cases (reaches s x.first x.second x.since) (is_provided (x ∷ xs) x.first x.second x.since)
    (h x.first x.second x.since (or_right (needs s x.first x.second x.since) (is_required (x ∷ xs) x.first x.second x.since)
    (asks_more x xs x.first x.second x.since e ∙ or_left (is_at x.first x.second x.since x) (is_required xs x.first x.second x.since) (at_its_beginning x.first x.second x.since x.until some))))) [
      | inl it ↦ conflict it (not_within s.first s.second x.first x.second s.since s.reach x.since gap)
      | inr it ↦ not_offered x xs e later (sym (offers_as x xs x.first x.second x.since e) ∙ it)
    ]

-- ---- all spans

never : {A : Type 0} (b : Bool) → b ≡ false → (A → ⊥) → (b ≡ true) ↔ A
never b e no_more = (λ h. absurd (conflict h e), λ it. absurd (no_more it))

through : {A B C : Type 0} → A ↔ B → B ↔ C → A ↔ C
through p q = (λ a. q.0 (p.0 a), λ c. p.1 (q.1 c))

turned : {A B : Type 0} → A ↔ B → B ↔ A
turned p = (p.1, p.0)

by : {b c : Bool} {A : Type 0} → b ≡ c → (c ≡ true) ↔ A → (b ≡ true) ↔ A
by e p = (λ h. p.0 (sym e ∙ h), λ a. e ∙ p.1 a)

-- no span is left
ends : (s : Reach) → int_lt s.since s.reach ≡ true → (int_le s.need s.reach ≡ true) ↔ IsCovered (after s [])
ends s some = (
  λ less a b t asks. elim (or_cases (needs s a b t) false asks) [
    | inl it ↦ or_left (reaches s a b t) false (beyond s.first s.second a b s.since s.reach s.need t less it)
    | inr no_more ↦ absurd (false≢true no_more)
  ],
  λ h. go (int_le s.need s.reach) refl h,
)
  where
    go : (c : Bool) → int_le s.need s.reach ≡ c → IsCovered (after s []) → c ≡ true
    go true e h = refl
    go false e h = elim (or_cases (reaches s s.first s.second s.reach) false (h s.first s.second s.reach (or_left (needs s s.first s.second s.reach) false (here s.first s.second s.since s.reach s.need some e)))) [
      | inl it ↦ absurd (conflict it (not_here s.first s.second s.since s.reach))
      | inr no_more ↦ absurd (false≢true no_more)
    ]

follows_on : (x : CoverageSpan) (xs : List CoverageSpan) → AllByRecursion (Follows x) xs → AllByRecursion (IsAfter (first_reach x)) xs
follows_on x [] all = tt
follows_on x (y ∷ ys) all = (record { first = all.0.first; second = all.0.second; since = all.0.since }, follows_on x ys all.1)

still_after : (s u : Reach) → u.first ≡ s.first → u.second ≡ s.second → u.since ≡ s.since → (xs : List CoverageSpan) → AllByRecursion (IsAfter s) xs → AllByRecursion (IsAfter u) xs
still_after s u e f g [] all = tt
still_after s u e f g (y ∷ ys) all = (one, still_after s u e f g ys all.1)
  where
    one : IsAfter u y
    one = record {
      first = subst (λ (n : ℕ). n ≤ y.first) (sym e) all.0.first;
      second = λ same. subst (λ (n : ℕ). n ≤ y.second) (sym f) (all.0.second (subst (λ (n : ℕ). nat_eq n y.first ≡ true) e same));
      since = λ same too. subst (λ (n : ℤ). n ≤ℤ y.since) (sym g) (all.0.since (subst (λ (n : ℕ). nat_eq n y.first ≡ true) e same) (subst (λ (n : ℕ). nat_eq n y.second ≡ true) f too));
    }

lasts : (since reach until : ℤ) → int_lt since reach ≡ true → int_lt since (later reach until) ≡ true
lasts since reach until h = grind (arith, ints)

ordered : (s : Reach) (x : CoverageSpan) → IsAfter s x → is_same_key s x ≡ true → int_le s.since x.since ≡ true
ordered s x p same = let parts = and_parts (s.first == x.first) (s.second == x.second) same in told (p.since parts.0 parts.1)
  where
    told : s.since ≤ℤ x.since → int_le s.since x.since ≡ true
    told h = grind (arith, ints)

-- from each reach that the spans follow, they determine what is covered
abbrev Rest : List CoverageSpan → Type 0
Rest xs = (u : Reach) → int_lt u.since u.reach ≡ true → AllByRecursion (IsAfter u) xs → (covered_from (Some u) xs ≡ true) ↔ IsCovered (after u xs)

abbrev stepped : List CoverageSpan → Option Reach → Bool
stepped xs r = option_map_or (λ u. covered_from (Some u) xs) r false

covers : (s : Reach) (xs : List CoverageSpan) → int_lt s.since s.reach ≡ true → AllByRecursion (IsAfter s) xs → Rising Follows xs → list_all is_begun xs ≡ true → (covered_from (Some s) xs ≡ true) ↔ IsCovered (after s xs)
covers s [] some p rising begins = ends s some
covers s (x ∷ xs) some p rising begins = by_kind (λ u a b. covers u xs a b rising.1 (and_parts (is_begun x) (list_all is_begun xs) begins).1) x.required refl
  where
    parts : (is_begun x ≡ true) × (list_all is_begun xs ≡ true)
    parts = and_parts (is_begun x) (list_all is_begun xs) begins

    if_asked : Rest xs → x.required ≡ true → (c : Bool) → (is_same_key s x && int_lt x.since s.reach) ≡ c → (stepped xs (cond c (Some (record s { need = later s.need x.until })) None) ≡ true) ↔ IsCovered (after s (x ∷ xs))
    if_asked rest e true h =
        let both_hold = and_parts (is_same_key s x) (int_lt x.since s.reach) h in
        through (rest (record s { need = later s.need x.until }) some (still_after s (record s { need = later s.need x.until }) refl refl refl xs p.1))
        (turned (asked_on s x xs e both_hold.0 both_hold.1 (ordered s x p.0 both_hold.0)))
    if_asked rest e false h = never false refl (asked_fails s x xs e parts.0 rising.0 h)

    anew : Rest xs → x.required ≡ false → (is_same_key s x && int_le x.since s.reach) ≡ false → (c : Bool) → int_le s.need s.reach ≡ c → (stepped xs (cond c (Some (first_reach x)) None) ≡ true) ↔ IsCovered (after s (x ∷ xs))
    anew rest e gap true less =
        through (rest (first_reach x) parts.0 (follows_on x xs rising.0))
        (through (turned (begun_on x xs e)) (turned (gap_on s x xs e p.0 rising.0 gap less)))
    anew rest e gap false more = never false refl (gap_fails s x xs some p.0 rising.0 gap more)

    if_offered : Rest xs → x.required ≡ false → (c : Bool) → (is_same_key s x && int_le x.since s.reach) ≡ c
        → (stepped xs (cond c (Some (record s { reach = later s.reach x.until })) (cond (int_le s.need s.reach) (Some (first_reach x)) None)) ≡ true) ↔ IsCovered (after s (x ∷ xs))
    if_offered rest e true h =
        let both_hold = and_parts (is_same_key s x) (int_le x.since s.reach) h in
        through (rest (record s { reach = later s.reach x.until }) (lasts s.since s.reach x.until some) (still_after s (record s { reach = later s.reach x.until }) refl refl refl xs p.1))
        (turned (offered_on s x xs e both_hold.0 both_hold.1 (ordered s x p.0 both_hold.0)))
    if_offered rest e false h = anew rest e h (int_le s.need s.reach) refl

    by_kind : Rest xs → (c : Bool) → x.required ≡ c → (covered_from (Some s) (x ∷ xs) ≡ true) ↔ IsCovered (after s (x ∷ xs))
    by_kind rest true e = by (ap (λ c. stepped xs (cond c (with_required s x) (with_provided s x))) e) (if_asked rest e (is_same_key s x && int_lt x.since s.reach) refl)
    by_kind rest false e = by (ap (λ c. stepped xs (cond c (with_required s x) (with_provided s x))) e) (if_offered rest e (is_same_key s x && int_le x.since s.reach) refl)

covers_all : (xs : List CoverageSpan) → Rising Follows xs → list_all is_begun xs ≡ true → (covered_from None xs ≡ true) ↔ IsCovered xs
covers_all [] rising begins = (λ h a b t asks. absurd (false≢true asks), λ h. refl)
covers_all (x ∷ xs) rising begins = by_kind x.required refl
  where
    parts : (is_begun x ≡ true) × (list_all is_begun xs ≡ true)
    parts = and_parts (is_begun x) (list_all is_begun xs) begins

    by_kind : (c : Bool) → x.required ≡ c → (covered_from None (x ∷ xs) ≡ true) ↔ IsCovered (x ∷ xs)
    by_kind true e = by (ap (λ c. stepped xs (cond c None (Some (first_reach x)))) e) (never false refl (asked_first_fails x xs e parts.0 rising.0))
    by_kind false e = by (ap (λ c. stepped xs (cond c None (Some (first_reach x)))) e)
        (through (covers (first_reach x) xs parts.0 (follows_on x xs rising.0) rising.1 parts.1) (turned (begun_on x xs e)))

-- ---- from a sort

piece_total : IsTotalOrder coverage_span_cmp
piece_total =
    then_total (on_total (λ (x : CoverageSpan). x.first) nat_cmp_total)
    (then_total (on_total (λ (x : CoverageSpan). x.second) nat_cmp_total)
    (then_total (on_total (λ (x : CoverageSpan). x.since) int_cmp_total) (then_total (on_total (λ (x : CoverageSpan). x.required) bool_cmp_total) (on_total (λ (x : CoverageSpan). x.until) int_cmp_total))))

tied : (s t : ℤ) → s ≡ t → is_eq (int_cmp t s) ≡ true
tied s t h = grind (arith, ints)

no_sooner : (a b : Bool) → is_lt (bool_cmp b a) ≡ false → a ≡ true → b ≡ true
no_sooner a true h e = refl
no_sooner true false h e = absurd (false≢true (sym h))
no_sooner false false h e = e

follows : (x y : CoverageSpan) → is_lt (coverage_span_cmp y x) ≡ false → Follows x y
follows x y h =
    let kinds : Ordering = ordering_then (bool_cmp y.required x.required) (int_cmp y.until x.until) in
    let ends : Ordering = ordering_then (int_cmp y.since x.since) kinds in
    let one = then_not (nat_cmp y.first x.first) (ordering_then (nat_cmp y.second x.second) ends) h in
    record {
      first = no_less x.first y.first one.0;
      second = λ same. no_less x.second y.second (then_not (nat_cmp y.second x.second) ends (one.1 (tie x.first y.first same))).0;
      since = λ same too.
          let two = then_not (nat_cmp y.second x.second) ends (one.1 (tie x.first y.first same)) in
          no_earlier x.since y.since (then_not (int_cmp y.since x.since) kinds (two.1 (tie x.second y.second too))).0;
      required = λ same too alike.
          let two = then_not (nat_cmp y.second x.second) ends (one.1 (tie x.first y.first same)) in
          let three = then_not (int_cmp y.since x.since) kinds (two.1 (tie x.second y.second too)) in
          no_sooner x.required y.required (then_not (bool_cmp y.required x.required) (int_cmp y.until x.until) (three.1 (tied x.since y.since alike))).0;
    }

-- the order of the spans does not matter
covered_anyhow : (xs ys : List CoverageSpan) → IsPermutation xs ys → IsCovered ys → IsCovered xs
covered_anyhow xs ys p h a b t asks =
    list_any-IsPermutation (λ x. not x.required && is_at a b t x) xs ys p ∙ h a b t (sym (list_any-IsPermutation (λ x. x.required && is_at a b t x) xs ys p) ∙ asks)

covered_still : (xs ys : List CoverageSpan) → IsPermutation xs ys → IsCovered xs → IsCovered ys
covered_still xs ys p h a b t asks =
    sym (list_any-IsPermutation (λ x. not x.required && is_at a b t x) xs ys p) ∙ h a b t (list_any-IsPermutation (λ x. x.required && is_at a b t x) xs ys p ∙ asks)

pub covered_in_order : (coverage_spans sorted : List CoverageSpan) → list_all is_begun coverage_spans ≡ true → IsPermutation coverage_spans sorted → IsSorted coverage_span_cmp sorted → (covered_from None sorted ≡ true) ↔ IsCovered coverage_spans
covered_in_order coverage_spans sorted begins p in_order =
    through (covers_all sorted (rising_in_order coverage_span_cmp piece_total Follows follows sorted in_order)
    (all_permuted is_begun coverage_spans sorted p ∙ begins))
    (covered_anyhow coverage_spans sorted p, covered_still coverage_spans sorted p)
