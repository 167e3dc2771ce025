-- Versions that represent a sound timeline are a valid history.
use Rattle.std.proofs.Common.{◌≡◌, ℕ, suc, ◌≤◌, Bool, true, false, not, ◌||◌, ◌&&◌, List, [], ◌∷◌, length, map as map_list, refl, sym, ap, ap₂, ◌∙◌, subst, arith, IsPermutation}
use Rattle.std.specs.Prelude.{ℤ, ◌<ℤ◌, int_lt, nat_eq, nat_lt}
use Rattle.std.proofs.lemmas.Bool.Decides.{nat_tests}
use Rattle.std.proofs.lemmas.Int.{ints}
use Rattle.std.proofs.lemmas.List.Elements.{All-from_recursion}
use Rattle.std.proofs.lemmas.List.Sorted.{All-permutation, IsPermutation-sym, length_permutation}
use Rattle.std.specs.List.{AllByRecursion, list_all}
use Rattle.std.proofs.lemmas.Bool.{and_from, and_parts}
use Rattle.std.proofs.lemmas.Cmp.{int_eq_equiv, nat_eq_equiv}
use Rattle.land_core.proofs.Booleans.{or_true}
use Rattle.land_core.specs.Entries.{are_distinct}
use Rattle.land_core.specs.Laws.{SoundnessByNumber}
use Rattle.land_core.specs.Numbers.{IsMoment}
use Rattle.land_core.specs.Soundness.{IsSound}
use Rattle.land_core.specs.declared.register.Register.{Register}
use Rattle.land_keep.specs.Timeline.{IsIncreasing, IsSoundTimeline, IncreasesFrom, Timeline}
use Rattle.land_keep.specs.declared.timeline.Version.{Version}
use Rattle.land_tables.proofs.IntervalOrders.{all_alike}
use Rattle.land_tables.proofs.One.{reads, stands_for_one}
use Rattle.land_tables.proofs.Rising.{in_order_permuted}
use Rattle.land_tables.proofs.Sorting.{distinct}
use Rattle.land_tables.specs.Timelines.{RepresentsTimeline, sorted_moments, version_moment, version_of}
use Rattle.land_tables.specs.Timelines.Judging.{SoundTimelinesAreValid}
use Rattle.land_tables_history.proofs.Distinct.{distinct_permuted}
use Rattle.land_tables_history.proofs.MomentOrder.{lt_through}
use Rattle.land_tables_history.proofs.Permutations.{all_permuted}
use Rattle.land_tables_history.specs.History.{namings_of, register_of_history}
use Rattle.land_tables_history.specs.Intervals.{is_same_naming}
use Rattle.land_tables_history.specs.ValidHistory.{IsValidAt, are_moments, are_same_namings, decreases, is_naming_among, is_same_stamp, never_decreases}
use Rattle.land_tables_history.specs.Standing.{current_values}
use Rattle.land_tables_history.specs.declared.history.History.{History}
use Rattle.land_tables_history.specs.declared.moment.Moment.{Moment}
use Rattle.land_tables_history.specs.declared.naming.Naming.{Naming}

-- ---- the moments

stamps_turn : (a b : Moment) → is_same_stamp a b ≡ is_same_stamp b a
stamps_turn a b = int_eq_equiv.symm a.stamp b.stamp

-- a test of all pairs, with one element more
pairs : {X : Type 0} (p : X → X → Bool) (x : X) (xs : List X) → p x x ≡ true → list_all (p x) xs ≡ true → list_all (λ a. p a x) xs ≡ true → list_all (λ a. list_all (p a) xs) xs ≡ true
    → list_all (λ a. list_all (p a) (x ∷ xs)) (x ∷ xs) ≡ true
pairs {X} p x xs itself after before rest =
    and_from (p x x && list_all (p x) xs) (list_all (λ a. p a x && list_all (p a) xs) xs) (and_from (p x x) (list_all (p x) xs) itself after) (each xs before rest)
  where
    each : (ys : List X) → list_all (λ a. p a x) ys ≡ true → list_all (λ a. list_all (p a) xs) ys ≡ true → list_all (λ a. p a x && list_all (p a) xs) ys ≡ true
    each [] g h = refl
    each (y ∷ ys) g h =
        let one = and_parts (p y x) (list_all (λ a. p a x) ys) g in
        let two = and_parts (list_all (p y) xs) (list_all (λ a. list_all (p a) xs) ys) h in
        and_from (p y x && list_all (p y) xs) (list_all (λ a. p a x && list_all (p a) xs) ys) (and_from (p y x) (list_all (p y) xs) one.0 two.0) (each ys one.1 two.1)

abbrev keeps : Moment → Moment → Bool
keeps a b = not (decreases a b)

keeps_itself : (s : ℤ) (n : ℕ) → not (int_lt s s && nat_lt n n) ≡ true
keeps_itself s n = grind (arith, ints, nat_tests)

keeps_after : (s t : ℤ) (m n : ℕ) → s <ℤ t → m ≤ n → not (int_lt s t && nat_lt n m) ≡ true
keeps_after s t m n less more = grind (arith, ints, nat_tests)

keeps_before : (s t : ℤ) (m n : ℕ) → s <ℤ t → not (int_lt t s && nat_lt m n) ≡ true
keeps_before s t m n less = grind (arith, ints, nat_tests)

-- a version, compared with the later ones
module _ (u : Version) where
  all_after : (v : Version) (vs : Timeline) → u.stamp <ℤ v.stamp → u.register.next ≤ v.register.next → IncreasesFrom v vs → list_all (keeps (version_moment u)) (map_list version_moment (v ∷ vs)) ≡ true
  all_after v [] before no_fewer rises = and_from (keeps (version_moment u) (version_moment v)) true (keeps_after u.stamp v.stamp u.register.next v.register.next before no_fewer) refl
  all_after v (w ∷ ws) before no_fewer rises =
      and_from (keeps (version_moment u) (version_moment v)) (list_all (keeps (version_moment u)) (map_list version_moment (w ∷ ws))) (keeps_after u.stamp v.stamp u.register.next v.register.next before no_fewer)
      (all_after w ws (lt_through u.stamp v.stamp w.stamp before rises.0) (omega (arith, no_fewer, rises.1)) rises.2)

  all_before : (v : Version) (vs : Timeline) → u.stamp <ℤ v.stamp → IncreasesFrom v vs → list_all (λ m. keeps m (version_moment u)) (map_list version_moment (v ∷ vs)) ≡ true
  all_before v [] before rises = and_from (keeps (version_moment v) (version_moment u)) true (keeps_before u.stamp v.stamp u.register.next v.register.next before) refl
  all_before v (w ∷ ws) before rises =
      and_from (keeps (version_moment v) (version_moment u)) (list_all (λ m. keeps m (version_moment u)) (map_list version_moment (w ∷ ws))) (keeps_before u.stamp v.stamp u.register.next v.register.next before)
      (all_before w ws (lt_through u.stamp v.stamp w.stamp before rises.0) rises.2)

never_fall : (v : Version) (vs : Timeline) → IncreasesFrom v vs → never_decreases (map_list version_moment (v ∷ vs)) ≡ true
never_fall v [] rises = pairs keeps (version_moment v) [] (keeps_itself v.stamp v.register.next) refl refl refl
never_fall v (w ∷ ws) rises =
    pairs keeps (version_moment v) (map_list version_moment (w ∷ ws)) (keeps_itself v.stamp v.register.next)
    (all_after v w ws rises.0 rises.1 rises.2) (all_before v w ws rises.0 rises.2) (never_fall w ws rises.2)

never_falls_anyhow : (ms ns : List Moment) → IsPermutation ms ns → never_decreases ns ≡ never_decreases ms
never_falls_anyhow ms ns p =
    all_alike (λ a. list_all (keeps a) ns) (λ a. list_all (keeps a) ms) (λ a. all_permuted (keeps a) ms ns p) ns ∙ all_permuted (λ a. list_all (keeps a) ms) ms ns p

moments_of : (tl : Timeline) (ms : List Moment) → IsIncreasing tl → IsPermutation (map_list version_moment tl) ms → are_moments ms ≡ true
moments_of [] ms rises p = absurd rises
moments_of (v ∷ vs) ms rises p =
    let ns = map_list version_moment (v ∷ vs) in
    and_from (nat_lt 0 (length ms) && are_distinct is_same_stamp ms) (never_decreases ms)
    (and_from (nat_lt 0 (length ms)) (are_distinct is_same_stamp ms)
    (ap (nat_lt 0) (length_permutation ns ms p) ∙ some (length (map_list version_moment vs)))
    (distinct_permuted is_same_stamp stamps_turn ns ms p ∙ distinct (v ∷ vs) rises))
    (never_falls_anyhow ns ms p ∙ never_fall v vs rises)
  where
    some : (n : ℕ) → nat_lt 0 (suc n) ≡ true
    some n = grind (arith, nat_tests)

-- ---- links of mutations to units

naming_itself : (n : Naming) → is_same_naming n n ≡ true
naming_itself n = and_from (nat_eq n.mutation n.mutation) (nat_eq n.unit n.unit) (nat_eq_equiv.refl n.mutation) (nat_eq_equiv.refl n.unit)

among_more : (y : Naming) (ys xs : List Naming) → list_all (is_naming_among ys) xs ≡ true → list_all (is_naming_among (y ∷ ys)) xs ≡ true
among_more y ys [] h = refl
among_more y ys (x ∷ xs) h = go (is_same_naming x y) (is_naming_among ys x) (list_all (is_naming_among ys) xs) (list_all (is_naming_among (y ∷ ys)) xs) h (among_more y ys xs)
  where
    go : (a b c d : Bool) → (b && c) ≡ true → (c ≡ true → d ≡ true) → ((a || b) && d) ≡ true
    go a true true d h next = ap₂ (λ s t. s && t) (or_true a) (next refl)
    go a true false d h next = absurd (let e = h in cc)
    go a false c d h next = absurd (let e = h in cc)

all_among : (xs : List Naming) → list_all (is_naming_among xs) xs ≡ true
all_among [] = refl
all_among (x ∷ xs) = and_from (is_naming_among (x ∷ xs) x) (list_all (is_naming_among (x ∷ xs)) xs) (ap (λ b. b || is_naming_among xs x) (naming_itself x)) (among_more x xs xs (all_among xs))

among_other : (xs ys : List Naming) → IsPermutation xs ys → list_all (is_naming_among xs) ys ≡ true
among_other xs ys p = all_permuted (is_naming_among xs) xs ys p ∙ all_among xs

same_if_permuted : (xs ys : List Naming) → IsPermutation xs ys → are_same_namings xs ys ≡ true
same_if_permuted xs ys p = and_from (list_all (is_naming_among ys) xs) (list_all (is_naming_among xs) ys) (among_other ys xs (IsPermutation-sym xs ys p)) (among_other xs ys p)

-- ---- at each moment

-- a property of each version is one of the moments at which versions begin
at_moments : (h : History) (P : Moment → Type 0) (Q : Version → Type 0) → ((m : Moment) → Q (version_of h m) → P m) → (ms : List Moment) → AllByRecursion Q (map_list (version_of h) ms) → AllByRecursion P ms
at_moments h P Q to [] all = tt
at_moments h P Q to (m ∷ ms) all = (to m all.0, at_moments h P Q to ms all.1)

joined : {X : Type 0} (P Q R : X → Type 0) → ((x : X) → P x → Q x → R x) → (xs : List X) → AllByRecursion P xs → AllByRecursion Q xs → AllByRecursion R xs
joined P Q R to [] g h = tt
joined P Q R to (x ∷ xs) g h = (to x g.0 h.0, joined P Q R to xs g.1 h.1)

lawful_at : SoundnessByNumber → (ms : List Moment) (h : History) (tl : Timeline) → RepresentsTimeline ms h tl → IsSoundTimeline tl → (m : Moment)
    → IsMoment m.stamp → IsSound (register_of_history m.stamp h m.next) → IsValidAt h m
lawful_at look_ups ms h tl stands sound m is its =
    let there = reads look_ups ms h tl m.stamp stands sound is in
    let mutations = ap (λ (r : Register). r.mutations) there in
    record {
      sound = its;
      named = same_if_permuted (current_values m.stamp h.namings) (namings_of (register_of_history m.stamp h m.next).mutations)
          (subst (λ k. IsPermutation (current_values m.stamp h.namings) (namings_of k)) (sym mutations) (stands.stands m.stamp is).namings);
    }

pub sound_is_lawful : SoundnessByNumber → SoundTimelinesAreValid
sound_is_lawful look_ups ms h tl stands sound =
    let one = stands_for_one look_ups ms h tl stands sound in
    let sorted = sorted_moments ms in
    let registers = at_moments h (λ m. IsSound (register_of_history m.stamp h m.next)) (λ v. IsSound v.register) (λ m s. s) sorted (subst (AllByRecursion (λ v. IsSound v.register)) (sym one) sound.sound) in
    let stamps = at_moments h (λ m. IsMoment m.stamp) (λ v. IsMoment v.stamp) (λ m s. s) sorted (subst (AllByRecursion (λ v. IsMoment v.stamp)) (sym one) sound.moments) in
    let each = joined (λ m. IsMoment m.stamp) (λ m. IsSound (register_of_history m.stamp h m.next)) (IsValidAt h) (lawful_at look_ups ms h tl stands sound) sorted stamps registers in
    record {
      moments = moments_of tl ms sound.rising stands.moments;
      each = All-permutation (IsValidAt h) sorted ms (in_order_permuted ms) (All-from_recursion (IsValidAt h) sorted each);
    }
