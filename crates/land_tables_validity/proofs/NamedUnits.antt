-- The rows of `names` are the references of mutations, over time.
use Rattle.std.proofs.Common.{◌≡◌, ◌↔◌, inl, inr, ◌==◌, ℕ, Bool, true, false, ◌&&◌, ◌||◌, List, [], ◌∷◌, map as map_list, refl, sym, ap, ap₂, subst, ◌∙◌, arith}
use Rattle.std.specs.Prelude.{ℤ}
use Rattle.std.proofs.lemmas.Bool.{false≢true, and_from, and_parts, eqb-true, or_cases, or_left, or_right}
use Rattle.std.proofs.lemmas.Bool.Decides.{nat_tests}
use Rattle.std.proofs.lemmas.List.Elements.{All-from_recursion, recursion_from_All}
use Rattle.std.specs.FinMap as map
use Rattle.std.specs.List.{AllByRecursion, list_all, list_any}
use Rattle.std.proofs.lemmas.Cmp.{nat_eq_equiv}
use Rattle.land_core.specs.declared.mutation.MutationRecord.{MutationRecord}
use Rattle.land_tables_history.proofs.NamingTests.{any_standing, named_by}
use Rattle.land_tables_history.proofs.Proper.{AllProper, all_proper}
use Rattle.land_tables_history.specs.History.{named_units, namings_of, register_of_history}
use Rattle.land_tables_history.specs.Intervals.{AreApart, has_intervals, is_same_naming, is_same_number}
use Rattle.land_tables_history.specs.ValidHistory.{are_same_namings, is_naming_among}
use Rattle.land_tables_history.specs.Standing.{part_at, current_values, is_current}
use Rattle.land_tables_history.specs.declared.history.History.{History}
use Rattle.land_tables_history.specs.declared.moment.Moment.{Moment}
use Rattle.land_tables_history.specs.declared.naming.Naming.{Naming}
use Rattle.land_tables_history.specs.declared.version.Version.{Version}
use Rattle.land_tables_validity.proofs.Covers.{any_alike, some_by}
use Rattle.land_tables_validity.proofs.PairCovers.{AreAmong, any_flat, has_key, is_pair, pairs_covered_at_stamps, stood}
use Rattle.land_tables_validity.proofs.References.{both_true, by_way_of, side_by_side}
use Rattle.land_tables_validity.specs.KeyPairs.{key_pairs}
use Rattle.land_tables_validity.specs.NamedUnits.{NamingsAgree, named_pairs, naming_pair, with_units}
use Rattle.land_tables_validity.specs.CoverageSpans.{are_in_range}
use Rattle.land_tables_history.specs.Sweeps.Cover.{IsCovered}

abbrev naming_of : ℕ × ℕ → Naming
naming_of key = record { mutation = key.0; unit = key.1 }

-- ---- lists of references

same_naming : (key : ℕ × ℕ) (n : Naming) → is_same_naming (naming_of key) n ≡ true → naming_of key ≡ n
same_naming key n h =
    let parts = and_parts (key.0 == n.mutation) (key.1 == n.unit) h in
    ap₂ (λ (m u : ℕ). naming_of (m, u)) (eqb-true key.0 n.mutation parts.0) (eqb-true key.1 n.unit parts.1)

naming_itself : (n : Naming) → is_same_naming n n ≡ true
naming_itself n = and_from (n.mutation == n.mutation) (n.unit == n.unit) (nat_eq_equiv.refl n.mutation) (nat_eq_equiv.refl n.unit)

among_too : (xs ys : List Naming) → list_all (is_naming_among ys) xs ≡ true
    → (key : ℕ × ℕ) → is_naming_among xs (naming_of key) ≡ true → is_naming_among ys (naming_of key) ≡ true
among_too [] ys h key s = absurd (false≢true s)
among_too (x ∷ xs) ys h key s =
    let parts = and_parts (is_naming_among ys x) (list_all (is_naming_among ys) xs) h in
    elim (or_cases (is_same_naming (naming_of key) x) (is_naming_among xs (naming_of key)) s) [
      | inl here ↦ subst (λ (n : Naming). is_naming_among ys n ≡ true) (sym (same_naming key x here)) parts.0
      | inr later ↦ among_too xs ys parts.1 key later
    ]

all_among : (xs ys : List Naming) → ((key : ℕ × ℕ) → is_naming_among xs (naming_of key) ≡ true → is_naming_among ys (naming_of key) ≡ true)
    → list_all (is_naming_among ys) xs ≡ true
all_among [] ys h = refl
all_among (x ∷ xs) ys h =
    and_from (is_naming_among ys x) (list_all (is_naming_among ys) xs)
    (h (x.mutation, x.unit) (or_left (is_same_naming x x) (is_naming_among xs x) (naming_itself x)))
    (all_among xs ys (λ key s. h key (or_right (is_same_naming (naming_of key) x) (is_naming_among xs (naming_of key)) s)))

-- ---- current values under a mutation and a unit

other_way : (a b : ℕ) → (a == b) ≡ (b == a)
other_way a b = grind (arith, nat_tests)

as_key : (a b c d : ℕ) → ((a == b) && (c == d)) ≡ ((b == a) && (d == c))
as_key a b c d = ap₂ (λ x y. x && y) (other_way a b) (other_way c d)

or_nothing : (q : Bool) → q ≡ (q || false)
or_nothing true = refl
or_nothing false = refl

namings_under : (t : ℤ) (vs : List (Version Naming)) (key : ℕ × ℕ)
    → is_naming_among (current_values t vs) (naming_of key) ≡ stood (has_key naming_pair key) vs t
namings_under t vs key =
    sym (any_standing t (is_same_naming (naming_of key)) vs)
    ∙ any_alike (λ v. is_current t v && is_same_naming (naming_of key) v.what) (λ v. is_current t v && has_key naming_pair key v.what)
    (λ v. ap (λ b. is_current t v && b)
    (as_key key.0 v.what.mutation key.1 v.what.unit ∙ or_nothing ((v.what.mutation == key.0) && (v.what.unit == key.1)))) vs

units_under : (key : ℕ × ℕ) (mutation : ℕ) (units : List ℕ)
    → list_any (is_same_naming (naming_of key)) (map_list (λ unit. let n : Naming = record { mutation = mutation; unit = unit } in n) units)
    ≡ list_any (is_pair key) (with_units mutation units)
units_under key mutation [] = refl
units_under key mutation (u ∷ us) = ap₂ (λ b c. b || c) (as_key key.0 mutation key.1 u) (units_under key mutation us)

mutations_under : (t : ℤ) (vs : List (Version (ℕ × MutationRecord))) → AreApart is_same_number vs → (key : ℕ × ℕ)
    → is_naming_among (namings_of (part_at t vs)) (naming_of key) ≡ stood (has_key named_pairs key) vs t
mutations_under t vs apart key =
    any_flat (is_same_naming (naming_of key)) named_by (map.entries (part_at t vs))
    ∙ some_by (λ e. list_any (is_same_naming (naming_of key)) (named_by e)) t vs apart
    ∙ any_alike (λ v. is_current t v && list_any (is_same_naming (naming_of key)) (named_by v.what))
    (λ v. is_current t v && has_key named_pairs key v.what)
    (λ v. ap (λ b. is_current t v && b) (units_under key v.what.0 (named_units v.what.1.content))) vs

-- ---- namings and mutations

module _ (moments : List Moment) (h : History) (p : AllProper moments h) (in_time : are_in_range moments ≡ true) where
  -- current mutations have the references of `names`, and `names` has theirs
  abbrev AreTold : Moment → Type 0
  AreTold m = AreAmong named_pairs h.mutations naming_pair h.namings m.stamp

  abbrev AreListed : Moment → Type 0
  AreListed m = AreAmong naming_pair h.namings named_pairs h.mutations m.stamp

  abbrev is_same_at : Moment → Bool
  is_same_at m = are_same_namings (current_values m.stamp h.namings) (namings_of (register_of_history m.stamp h m.next).mutations)

  same_at : (m : Moment) → (AreTold m × AreListed m) ↔ (is_same_at m ≡ true)
  same_at m =
      let there = current_values m.stamp h.namings in
      let named = namings_of (part_at m.stamp h.mutations) in
      let of_naming = namings_under m.stamp h.namings in
      let of_mutation = mutations_under m.stamp h.mutations p.mutations.apart in (
        λ h. and_from (list_all (is_naming_among named) there) (list_all (is_naming_among there) named)
            (all_among there named (λ key s. of_mutation key ∙ h.0 key (sym (of_naming key) ∙ s)))
            (all_among named there (λ key s. of_naming key ∙ h.1 key (sym (of_mutation key) ∙ s))),
        λ same.
            let parts = and_parts (list_all (is_naming_among named) there) (list_all (is_naming_among there) named) same in (
              λ key s. sym (of_mutation key) ∙ among_too there named parts.0 key (of_naming key ∙ s),
              λ key s. sym (of_naming key) ∙ among_too named there parts.1 key (of_mutation key ∙ s),
            ),
      )

  each_same : (ms : List Moment) → (AllByRecursion AreTold ms × AllByRecursion AreListed ms) ↔ AllByRecursion (λ m. is_same_at m ≡ true) ms
  each_same [] = (λ h. tt, λ h. (tt, tt))
  each_same (m ∷ ms) =
      let rest = each_same ms in (
        λ h. ((same_at m).0 (h.0.0, h.1.0), rest.0 (h.0.1, h.1.1)),
        λ h. let here = (same_at m).1 h.0 in let later = rest.1 h.1 in ((here.0, later.0), (here.1, later.1)),
      )

  all_same : (IsCovered (key_pairs named_pairs h.mutations naming_pair h.namings)
      × IsCovered (key_pairs naming_pair h.namings named_pairs h.mutations))
      ↔ NamingsAgree moments h
  all_same =
      by_way_of
      (side_by_side
      (pairs_covered_at_stamps named_pairs h.mutations naming_pair h.namings moments in_time p.mutations.intervals p.namings.intervals)
      (pairs_covered_at_stamps naming_pair h.namings named_pairs h.mutations moments in_time p.namings.intervals p.mutations.intervals))
      (by_way_of (each_same moments)
      (All-from_recursion (λ m. is_same_at m ≡ true) moments, recursion_from_All (λ m. is_same_at m ≡ true) moments))

-- both results together
pub namings_agree : (moments : List Moment) (h : History) → has_intervals moments h ≡ true → are_in_range moments ≡ true → (a b : Bool)
    → (a ≡ true) ↔ IsCovered (key_pairs named_pairs h.mutations naming_pair h.namings)
    → (b ≡ true) ↔ IsCovered (key_pairs naming_pair h.namings named_pairs h.mutations)
    → ((a && b) ≡ true) ↔ NamingsAgree moments h
namings_agree moments h intervals in_time a b computes listed =
    by_way_of (both_true a b) (by_way_of (side_by_side computes listed) (all_same moments h (all_proper moments h intervals) in_time))
