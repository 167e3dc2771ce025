-- Numbers are in range at each commit if they are when their versions start.
use Rattle.std.proofs.Common.{◌≡◌, ◌↔◌, ℕ, Bool, true, false, not, ◌||◌, ◌&&◌, List, [], ◌∷◌, Option, Some, None, if◌then◌else◌, refl, sym, ap, ap₂, subst, ◌∙◌, arith, IsPermutation}
use Rattle.std.specs.Prelude.{ℤ, pos, int_le, int_lt, nat_le, nat_lt}
use Rattle.std.proofs.lemmas.Bool.{false≢true, and_from, and_parts, not-true, or_parts}
use Rattle.std.proofs.lemmas.Bool.Decides.{nat_tests}
use Rattle.std.proofs.lemmas.Int.{ints}
use Rattle.std.proofs.lemmas.List.Elements.{All-from_recursion, recursion_from_All}
use Rattle.std.proofs.lemmas.List.Sorted.{All-permutation, IsPermutation-sym}
use Rattle.std.specs.FinMap as map
use Rattle.std.specs.List.{AllByRecursion, list_all, list_any}
use Rattle.std.specs.List.Sorted.{IsSorted}
use Rattle.std.specs.Ordering.{int_eq}
use Rattle.land_core.specs.Numbers.{last_next}
use Rattle.land_core.specs.Soundness.{has_rank_out_of_range, has_unused_number, is_rank_out_of_range, exceeds_last_number}
use Rattle.land_core.specs.Units.{rank_of}
use Rattle.land_core.specs.declared.register.Register.{Register}
use Rattle.land_tables_history.proofs.NamingTests.{all_alike}
use Rattle.land_tables_history.proofs.Permutations.{any_permuted}
use Rattle.land_tables_history.proofs.Proper.{Proper, all_proper}
use Rattle.land_tables_history.specs.History.{register_of_history}
use Rattle.land_tables_history.specs.Intervals.{has_intervals, is_interval, is_same_number, is_stamp}
use Rattle.land_tables_history.specs.Open.{never}
use Rattle.land_tables_history.specs.ValidHistory.{are_moments}
use Rattle.land_tables_history.specs.Standing.{part_at, is_current}
use Rattle.land_tables_history.specs.declared.history.History.{History}
use Rattle.land_tables_history.specs.declared.moment.Moment.{Moment}
use Rattle.land_tables_history.specs.declared.version.Version.{Version}
use Rattle.land_tables_validity.proofs.Covers.{any_alike, nonempty, some_by}
use Rattle.land_tables_validity.proofs.Latest.{ends_of}
use Rattle.land_tables_validity.proofs.MomentOrders.{all_go_up, goes_up_in_order, neighbours}
use Rattle.land_tables_validity.specs.Chains.{precedes, stamp_cmp}
use Rattle.land_tables_validity.specs.Never.{Never}
use Rattle.land_tables_validity.specs.NumbersInUse.{are_all_in_range, are_numbers_left, has_number_in_range, has_rank_in_range, is_rank_in_range, next_since, passes_since}

-- ---- the next number does not decrease

-- the next number of a commit is not less than that of an earlier one
abbrev Grows : Moment → Moment → Type 0
Grows b a = int_le a.stamp b.stamp ≡ true → nat_le a.next b.next ≡ true

no_way : (a b : ℤ) (x y : ℕ) → (int_lt a b && nat_le x y) ≡ true → int_le b a ≡ true → nat_le y x ≡ true
no_way a b x y h p = grind (arith, ints, nat_tests)

no_less : (a : ℕ) → nat_le a a ≡ true
no_less a = grind (arith, nat_tests)

heads : (m : Moment) (ns : List Moment) → list_all (precedes m) ns ≡ true → AllByRecursion (Grows m) ns
heads m [] h = tt
heads m (n ∷ ns) h =
    let parts = and_parts (precedes m n) (list_all (precedes m) ns) h in
    (λ p. no_way m.stamp n.stamp m.next n.next parts.0 p, heads m ns parts.1)

tails : (m : Moment) (ms ns : List Moment) → list_all (precedes m) ns ≡ true → AllByRecursion (λ b. AllByRecursion (Grows b) ms) ns
    → AllByRecursion (λ b. AllByRecursion (Grows b) (m ∷ ms)) ns
tails m ms [] h all = tt
tails m ms (n ∷ ns) h all =
    let parts = and_parts (precedes m n) (list_all (precedes m) ns) h in
    ((λ p. (and_parts (int_lt m.stamp n.stamp) (nat_le m.next n.next) parts.0).1, all.0), tails m ms ns parts.1 all.1)

all_grow : (ms : List Moment) → all_go_up ms ≡ true → AllByRecursion (λ b. AllByRecursion (Grows b) ms) ms
all_grow [] up = tt
all_grow (m ∷ ms) up =
    let parts = and_parts (list_all (precedes m) ms) (all_go_up ms) up in
    ((λ p. no_less m.next, heads m ms parts.0), tails m ms ms parts.0 (all_grow ms parts.1))

-- ---- the moment of a stamp

-- a commit with this stamp, its next number, and a property of all commits
record Found (ms : List Moment) (P : Moment → Type 0) (t : ℤ) : Type 0 where
  moment : Moment
  stamp : int_eq moment.stamp t ≡ true
  next : next_since ms t ≡ moment.next
  holds : P moment

found : (P : Moment → Type 0) (t : ℤ) (ms : List Moment) → is_stamp ms t ≡ true → AllByRecursion P ms → Found ms P t
found P t [] h all = absurd (false≢true h)
found P t (m ∷ ms) h all = go (int_eq m.stamp t) refl h (λ later. found P t ms later all.1)
  where
    go : (b : Bool) → int_eq m.stamp t ≡ b → (b || is_stamp ms t) ≡ true → (is_stamp ms t ≡ true → Found ms P t) → Found (m ∷ ms) P t
    go true e h rest = record { moment = m; stamp = e; next = ap (λ b. if b then m.next else next_since ms t) e; holds = all.0 }
    go false e h rest =
        let it = rest h in
        record {
          moment = it.moment;
          stamp = it.stamp;
          next = ap (λ b. if b then m.next else next_since ms t) e ∙ it.next;
          holds = it.holds;
        }

begun_by : (a b since until : ℤ) → (int_le since b && int_lt b until) ≡ true → int_eq a since ≡ true → int_le a b ≡ true
begun_by a b since until h e = grind (arith, ints)

at_its_own : (a since until : ℤ) → int_lt since until ≡ true → int_eq a since ≡ true → (int_le since a && int_lt a until) ≡ true
at_its_own a since until h e = grind (arith, ints)

must : (a b : Bool) → a ≡ true → (a && not b) ≡ false → b ≡ true
must true true e h = refl
must true false e h = absurd (false≢true (sym h))
must false b e h = absurd (false≢true e)

-- ---- one list of versions

-- at no commit
abbrev None_of : (Moment → Bool) → List Moment → Type 0
None_of fault ms = AllByRecursion (λ m. fault m ≡ false) ms

module _ {X : Type 0} (test : X → ℕ → Bool) (kept : (x : X) (a b : ℕ) → nat_le a b ≡ true → test x a ≡ true → test x b ≡ true)
    (ms : List Moment) where
  abbrev fails : Moment → Version X → Bool
  fails m v = is_current m.stamp v && not (test v.what m.next)

  one_stays : (m : Moment) → AllByRecursion (Grows m) ms → (v : Version X) → is_interval ms v ≡ true → passes_since test ms v ≡ true
      → fails m v ≡ false
  one_stays m grows v interval passes = go (is_current m.stamp v) refl
    where
      go : (b : Bool) → is_current m.stamp v ≡ b → (b && not (test v.what m.next)) ≡ false
      go false e = refl
      go true e =
          let it = found (Grows m) v.since ms (ends_of ms v interval).begins grows in
          ap not (kept v.what it.moment.next m.next (it.holds (begun_by it.moment.stamp m.stamp v.since v.until e it.stamp))
          (subst (λ (n : ℕ). test v.what n ≡ true) it.next passes))

  all_stay : (m : Moment) → AllByRecursion (Grows m) ms → (vs : List (Version X)) → list_all (is_interval ms) vs ≡ true
      → list_all (passes_since test ms) vs ≡ true → list_any (fails m) vs ≡ false
  all_stay m grows [] intervals passes = refl
  all_stay m grows (v ∷ vs) intervals passes =
      let is = and_parts (is_interval ms v) (list_all (is_interval ms) vs) intervals in
      let parts = and_parts (passes_since test ms v) (list_all (passes_since test ms) vs) passes in
      ap₂ (λ a b. a || b) (one_stays m grows v is.0 parts.0) (all_stay m grows vs is.1 parts.1)

  at_each : (vs : List (Version X)) → list_all (is_interval ms) vs ≡ true → list_all (passes_since test ms) vs ≡ true
      → (ns : List Moment) → AllByRecursion (λ b. AllByRecursion (Grows b) ms) ns → None_of (λ m. list_any (fails m) vs) ns
  at_each vs intervals passes [] grows = tt
  at_each vs intervals passes (n ∷ ns) grows = (all_stay n grows.0 vs intervals passes, at_each vs intervals passes ns grows.1)

  one_began : (v : Version X) → is_interval ms v ≡ true → None_of (λ m. fails m v) ms → passes_since test ms v ≡ true
  one_began v interval none =
      let it = found (λ m. fails m v ≡ false) v.since ms (ends_of ms v interval).begins none in
      subst (λ (n : ℕ). test v.what n ≡ true) (sym it.next)
      (must (is_current it.moment.stamp v) (test v.what it.moment.next)
      (at_its_own it.moment.stamp v.since v.until (nonempty ms v interval) it.stamp) it.holds)

  first_of : (v : Version X) (vs : List (Version X)) (ns : List Moment) → None_of (λ m. list_any (fails m) (v ∷ vs)) ns
      → None_of (λ m. fails m v) ns × None_of (λ m. list_any (fails m) vs) ns
  first_of v vs [] none = (tt, tt)
  first_of v vs (n ∷ ns) none =
      let parts = or_parts (fails n v) (list_any (fails n) vs) none.0 in
      let rest = first_of v vs ns none.1 in
      ((parts.0, rest.0), (parts.1, rest.1))

  all_began : (vs : List (Version X)) → list_all (is_interval ms) vs ≡ true → None_of (λ m. list_any (fails m) vs) ms
      → list_all (passes_since test ms) vs ≡ true
  all_began [] intervals none = refl
  all_began (v ∷ vs) intervals none =
      let is = and_parts (is_interval ms v) (list_all (is_interval ms) vs) intervals in
      let parts = first_of v vs ms none in
      and_from (passes_since test ms v) (list_all (passes_since test ms) vs) (one_began v is.0 parts.0) (all_began vs is.1 parts.1)

  since_and_at : all_go_up ms ≡ true → (vs : List (Version X)) → list_all (is_interval ms) vs ≡ true
      → (list_all (passes_since test ms) vs ≡ true) ↔ None_of (λ m. list_any (fails m) vs) ms
  since_and_at up vs intervals = (λ passes. at_each vs intervals passes ms (all_grow ms up), all_began vs intervals)

-- ---- faults

none_alike : (f g : Moment → Bool) → ((m : Moment) → f m ≡ g m) → (ms : List Moment) → None_of f ms ↔ None_of g ms
none_alike f g same [] = (λ h. tt, λ h. tt)
none_alike f g same (m ∷ ms) =
    let rest = none_alike f g same ms in
    (λ h. (sym (same m) ∙ h.0, rest.0 h.1), λ h. (same m ∙ h.0, rest.1 h.1))

none_either : (f g : Moment → Bool) (ms : List Moment) → None_of (λ m. f m || g m) ms ↔ (None_of f ms × None_of g ms)
none_either f g [] = (λ h. (tt, tt), λ h. tt)
none_either f g (m ∷ ms) =
    let rest = none_either f g ms in (
      λ h. let parts = or_parts (f m) (g m) h.0 in let more = rest.0 h.1 in ((parts.0, more.0), (parts.1, more.1)),
      λ h. (ap₂ (λ a b. a || b) h.0.0 h.1.0, rest.1 (h.0.1, h.1.1)),
    )

-- two tests decide two faults
joined : (a b : Bool) (f g : Moment → Bool) (ms : List Moment) → (a ≡ true) ↔ None_of f ms → (b ≡ true) ↔ None_of g ms
    → ((a && b) ≡ true) ↔ None_of (λ m. f m || g m) ms
joined a b f g ms p q = (
  λ h. let parts = and_parts a b h in (none_either f g ms).1 (p.0 parts.0, q.0 parts.1),
  λ h. let parts = (none_either f g ms).0 h in and_from a b (p.1 parts.0) (q.1 parts.1),
)

none_left : (f : Moment → Bool) (ms : List Moment) → (list_all (λ m. not (f m)) ms ≡ true) ↔ None_of f ms
none_left f [] = (λ h. tt, λ h. refl)
none_left f (m ∷ ms) =
    let rest = none_left f ms in (
      λ h. let parts = and_parts (not (f m)) (list_all (λ m. not (f m)) ms) h in (not-true (f m) parts.0, rest.0 parts.1),
      λ h. and_from (not (f m)) (list_all (λ m. not (f m)) ms) (ap not h.0) (rest.1 h.1),
    )

all_both : {X : Type 0} (p q : X → Bool) (xs : List X) → list_all (λ x. p x && q x) xs ≡ (list_all p xs && list_all q xs)
all_both p q [] = refl
all_both p q (x ∷ xs) = ap (λ c. (p x && q x) && c) (all_both p q xs) ∙ mixed (p x) (q x) (list_all p xs) (list_all q xs)
  where
    mixed : (a b c d : Bool) → ((a && b) && (c && d)) ≡ ((a && c) && (b && d))
    mixed a b c d = grind arith

-- ---- numbers and ranks

number_kept : (n a b : ℕ) → nat_le a b ≡ true → (nat_lt 0 n && nat_lt n a) ≡ true → (nat_lt 0 n && nat_lt n b) ≡ true
number_kept n a b p h = grind (arith, nat_tests)

rank_kept : (o : Option ℕ) (a b : ℕ) → nat_le a b ≡ true → is_rank_in_range o a ≡ true → is_rank_in_range o b ≡ true
rank_kept None a b p h = refl
rank_kept (Some rank) a b p h = number_kept rank a b p h

intervals_too : {X : Type 0} (moments ms : List Moment) → IsPermutation moments ms → (vs : List (Version X))
    → list_all (is_interval moments) vs ≡ true → list_all (is_interval ms) vs ≡ true
intervals_too moments ms p vs intervals =
    all_alike (is_interval ms) (is_interval moments)
    (λ v. ap₂ (λ a b. int_lt v.since v.until && a && (int_eq v.until never || b))
    (any_permuted (λ m. int_eq m.stamp v.since) moments ms p) (any_permuted (λ m. int_eq m.stamp v.until) moments ms p)) vs
    ∙ intervals

module _ (moments ms : List Moment) (p : IsPermutation moments ms) (up : all_go_up ms ≡ true) where
  -- a record has a number that is not in range
  abbrev is_unused : {V : Type 0} → List (Version (ℕ × V)) → Moment → Bool
  is_unused vs m = list_any (λ e. not (has_number_in_range e m.next)) (map.entries (part_at m.stamp vs))

  number_range : {V : Type 0} (vs : List (Version (ℕ × V))) → Proper is_same_number moments vs
      → (list_all (passes_since has_number_in_range ms) vs ≡ true) ↔ None_of (is_unused vs) ms
  number_range {V} vs proper =
      let law = since_and_at (has_number_in_range {V = V}) (λ e. number_kept e.0) ms up vs (intervals_too moments ms p vs proper.intervals) in
      let same = none_alike (is_unused vs) (λ m. list_any (fails (has_number_in_range {V = V}) (λ e. number_kept e.0) ms m) vs)
      (λ m. some_by (λ e. not (has_number_in_range e m.next)) m.stamp vs proper.apart) ms in
      (λ h. same.1 (law.0 h), λ h. law.1 (same.0 h))

  module _ (h : History) where
    loose : (m : Moment) (o : Option ℕ) → is_rank_out_of_range (register_of_history m.stamp h m.next) o ≡ not (is_rank_in_range o m.next)
    loose m None = refl
    loose m (Some rank) = refl

    ranks : Proper is_same_number moments h.rrrs
        → (list_all (passes_since has_rank_in_range ms) h.rrrs ≡ true) ↔ None_of (λ m. has_rank_out_of_range (register_of_history m.stamp h m.next)) ms
    ranks proper =
        let law = since_and_at has_rank_in_range (λ e. rank_kept (rank_of e.1.class)) ms up h.rrrs
        (intervals_too moments ms p h.rrrs proper.intervals) in
        let same = none_alike (λ m. has_rank_out_of_range (register_of_history m.stamp h m.next))
        (λ m. list_any (fails has_rank_in_range (λ e. rank_kept (rank_of e.1.class)) ms m) h.rrrs)
        (λ m. some_by (λ e. is_rank_out_of_range (register_of_history m.stamp h m.next) (rank_of e.1.class)) m.stamp h.rrrs proper.apart
        ∙ any_alike (λ v. is_current m.stamp v && is_rank_out_of_range (register_of_history m.stamp h m.next) (rank_of v.what.1.class))
        (λ v. is_current m.stamp v && not (has_rank_in_range v.what m.next))
        (λ v. ap (λ b. is_current m.stamp v && b) (loose m (rank_of v.what.1.class))) h.rrrs) ms in
        (λ h. same.1 (law.0 h), λ h. law.1 (same.0 h))

    -- at none of the sorted commits, and so at no commit
    never_at : (fault : Register → Bool) → None_of (λ m. fault (register_of_history m.stamp h m.next)) ms ↔ Never fault moments h
    never_at fault = (
      λ none. All-permutation (λ m. fault (register_of_history m.stamp h m.next) ≡ false) ms moments (IsPermutation-sym moments ms p)
          (All-from_recursion (λ m. fault (register_of_history m.stamp h m.next) ≡ false) ms none),
      λ all. recursion_from_All (λ m. fault (register_of_history m.stamp h m.next) ≡ false) ms
          (All-permutation (λ m. fault (register_of_history m.stamp h m.next) ≡ false) moments ms p all),
    )

    -- the numbers of these versions are in range
    abbrev used : {V : Type 0} → List (Version (ℕ × V)) → Bool
    used vs = list_all (passes_since has_number_in_range ms) vs

    abbrev parts_used : Bool
    parts_used = used h.parties && used h.units && used h.parcels && used h.rrrs && used h.sources && used h.mutations

    abbrev ranks_used : Bool
    ranks_used = list_all (passes_since has_rank_in_range ms) h.rrrs

    all_numbers : has_intervals moments h ≡ true → (parts_used ≡ true) ↔ None_of (λ m. has_unused_number (register_of_history m.stamp h m.next)) ms
    all_numbers intervals =
        let proper = all_proper moments h intervals in
        let two = joined _ _ _ _ ms (number_range h.parties proper.parties) (number_range h.units proper.units) in
        let four = joined _ _ _ _ ms (joined _ _ _ _ ms two (number_range h.parcels proper.parcels)) (number_range h.rrrs proper.rrrs) in
        joined _ _ _ _ ms (joined _ _ _ _ ms four (number_range h.sources proper.sources)) (number_range h.mutations proper.mutations)

    gathered : (l a b c n r d e : Bool) → (l && a && b && c && (n && r) && d && e) ≡ (l && (a && b && c && n && d && e) && r)
    gathered l a b c n r d e = grind arith

    in_parts : are_all_in_range ms h ≡ (are_numbers_left ms && parts_used && ranks_used)
    in_parts =
        ap (λ x. are_numbers_left ms && used h.parties && used h.units && used h.parcels && x && used h.sources && used h.mutations)
        (all_both (passes_since has_number_in_range ms) (passes_since has_rank_in_range ms) h.rrrs)
        ∙ gathered (are_numbers_left ms) (used h.parties) (used h.units) (used h.parcels) (used h.rrrs) ranks_used (used h.sources)
        (used h.mutations)

    three : has_intervals moments h ≡ true
        → (are_all_in_range ms h ≡ true)
        ↔ (Never exceeds_last_number moments h × Never has_unused_number moments h × Never has_rank_out_of_range moments h)
    three intervals =
        let past = none_left (λ m. nat_lt last_next m.next) ms in
        let unused = all_numbers intervals in
        let rank = ranks (all_proper moments h intervals).rrrs in (
          λ e.
              let last = and_parts (are_numbers_left ms && parts_used) ranks_used (sym in_parts ∙ e) in
              let first = and_parts (are_numbers_left ms) parts_used last.0 in (
                (never_at exceeds_last_number).0 (past.0 first.0),
                (never_at has_unused_number).0 (unused.0 first.1),
                (never_at has_rank_out_of_range).0 (rank.0 last.1),
              ),
          λ all.
              in_parts ∙ and_from (are_numbers_left ms && parts_used) ranks_used
              (and_from (are_numbers_left ms) parts_used (past.1 ((never_at exceeds_last_number).1 all.0))
              (unused.1 ((never_at has_unused_number).1 all.1)))
              (rank.1 ((never_at has_rank_out_of_range).1 all.2)),
        )

-- numbers are in range at all commits if they are, by the sorted commits, when their versions start
pub all_used : (moments sorted : List Moment) (h : History) → IsPermutation moments sorted → IsSorted stamp_cmp sorted
    → has_intervals moments h ≡ true → are_moments moments ≡ true
    → (are_all_in_range sorted h ≡ true)
    ↔ (Never exceeds_last_number moments h × Never has_unused_number moments h × Never has_rank_out_of_range moments h)
all_used moments sorted h p in_order intervals are =
    three moments sorted p (sym (neighbours sorted) ∙ goes_up_in_order moments sorted p in_order are) h intervals
