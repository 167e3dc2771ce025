-- No two conflicting records are current at a stamp if and only if no two of them overlap.
use Rattle.std.proofs.Common.{◌≡◌, ◌↔◌, ℕ, ◌==◌, Bool, true, false, not, ◌&&◌, ◌||◌, List, [], ◌∷◌, refl, sym, ap, ap₂, ◌∙◌, arith, IsPermutation}
use Rattle.std.specs.Prelude.{nat_lt}
use Rattle.std.proofs.lemmas.Bool.Decides.{nat_tests}
use Rattle.std.proofs.lemmas.List.Elements.{All-from_recursion, recursion_from_All}
use Rattle.std.proofs.lemmas.List.Sorted.{list_any-IsPermutation}
use Rattle.std.specs.FinMap as map
use Rattle.std.specs.List.{All, AllByRecursion, list_all, list_any}
use Rattle.std.proofs.lemmas.Bool.{and_parts, not-false, not-true, or_parts}
use Rattle.land_core.proofs.Booleans.{or_four}
use Rattle.land_core.specs.Entries.{are_distinct}
use Rattle.land_tables_history.proofs.Distinct.{distinct_standing}
use Rattle.land_tables_history.proofs.Entered.{made_part}
use Rattle.land_tables_history.specs.Intervals.{is_interval, is_same_number, overlap}
use Rattle.land_tables_history.specs.Standing.{part_at, current_values}
use Rattle.land_tables_history.specs.declared.moment.Moment.{Moment}
use Rattle.land_tables_history.specs.declared.version.Version.{Version}
use Rattle.land_tables_validity.proofs.Covers.{any_alike}
use Rattle.land_tables_validity.proofs.StampsApart.{apart_at_stamps}

either : {A : Type 0} (p q : A → Bool) (xs : List A) → list_any (λ x. p x || q x) xs ≡ (list_any p xs || list_any q xs)
either p q [] = refl
either p q (x ∷ xs) = ap (λ c. (p x || q x) || c) (either p q xs) ∙ or_four (p x) (q x) (list_any p xs) (list_any q xs)

not_before : (a : ℕ) → nat_lt a a ≡ false
not_before a = grind (arith, nat_tests)

one_way : (a b : ℕ) (c : Bool) → (a == b) ≡ false → ((nat_lt a b && c) || (nat_lt b a && c)) ≡ c
one_way a b true apart = grind (arith, nat_tests)
one_way a b false apart = grind (arith, nat_tests)

module _ {V : Type 0} (clash : V → V → Bool) (flips : (a b : V) → clash a b ≡ clash b a) where
  abbrev pub do_clash : ℕ × V → ℕ × V → Bool
  do_clash e f = clash e.1 f.1

  -- an entry does not conflict with one of a greater number
  abbrev pub later_clash : ℕ × V → ℕ × V → Bool
  later_clash e f = nat_lt e.0 f.0 && clash e.1 f.1

  abbrev pub any_pair : List (ℕ × V) → Bool
  any_pair es = list_any (λ e. list_any (later_clash e) es) es

  pairs_permuted : (es fs : List (ℕ × V)) → IsPermutation es fs → any_pair es ≡ any_pair fs
  pairs_permuted es fs p =
      any_alike (λ e. list_any (later_clash e) es) (λ e. list_any (later_clash e) fs)
      (λ e. list_any-IsPermutation (later_clash e) es fs p) es
      ∙ list_any-IsPermutation (λ e. list_any (later_clash e) fs) es fs p

  -- one record against the others, regardless of the order of their numbers
  against : (x : ℕ × V) (xs : List (ℕ × V)) → list_any (is_same_number x) xs ≡ false
      → (list_any (later_clash x) xs || list_any (λ e. later_clash e x) xs) ≡ list_any (do_clash x) xs
  against x xs once = sym (either (later_clash x) (λ e. later_clash e x) xs) ∙ go xs once
    where
      go : (ys : List (ℕ × V)) → list_any (is_same_number x) ys ≡ false
          → list_any (λ e. later_clash x e || later_clash e x) ys ≡ list_any (do_clash x) ys
      go [] h = refl
      go (y ∷ ys) h =
          let parts = or_parts (is_same_number x y) (list_any (is_same_number x) ys) h in
          ap₂ (λ b c. b || c) (ap (λ c. (nat_lt x.0 y.0 && clash x.1 y.1) || (nat_lt y.0 x.0 && c)) (flips y.1 x.1) ∙ one_way x.0 y.0
          (clash x.1 y.1) parts.0) (go ys parts.1)

  pairs_are : (es : List (ℕ × V)) → are_distinct is_same_number es ≡ true → any_pair es ≡ not (are_distinct do_clash es)
  pairs_are [] once = refl
  pairs_are (x ∷ xs) once =
      let parts = and_parts (not (list_any (is_same_number x) xs)) (are_distinct is_same_number xs) once in
      ap₂ (λ b c. b || c) (ap (λ c. c && clash x.1 x.1 || list_any (later_clash x) xs) (not_before x.0))
      (either (λ e. later_clash e x) (λ e. list_any (later_clash e) xs) xs)
      ∙ regrouped (list_any (later_clash x) xs) (list_any (λ e. later_clash e x) xs) (any_pair xs)
      ∙ ap₂ (λ b c. b || c) (against x xs (not-true (list_any (is_same_number x) xs) parts.0)) (pairs_are xs parts.1)
      ∙ turned (list_any (do_clash x) xs) (are_distinct do_clash xs)
    where
      regrouped : (a b c : Bool) → (a || (b || c)) ≡ ((a || b) || c)
      regrouped a b c = grind arith

      turned : (a b : Bool) → (a || not b) ≡ not (not a && b)
      turned true b = refl
      turned false b = refl

  -- ---- at each stamp

  module _ (vs : List (Version (ℕ × V))) (once : are_distinct (overlap is_same_number) vs ≡ true) where
    at_stamp : (m : Moment) → any_pair (map.entries (part_at m.stamp vs)) ≡ not (are_distinct do_clash (current_values m.stamp vs))
    at_stamp m =
        let one = distinct_standing is_same_number m.stamp vs once in
        sym (pairs_permuted (current_values m.stamp vs) (map.entries (part_at m.stamp vs)) (made_part (current_values m.stamp vs) one))
        ∙ pairs_are (current_values m.stamp vs) one

    abbrev NoPair : Moment → Type 0
    NoPair m = any_pair (map.entries (part_at m.stamp vs)) ≡ false

    abbrev Distinct : Moment → Type 0
    Distinct m = are_distinct do_clash (current_values m.stamp vs) ≡ true

    there : (ms : List Moment) → AllByRecursion Distinct ms → AllByRecursion NoPair ms
    there [] all = tt
    there (m ∷ ms) all = (at_stamp m ∙ ap not all.0, there ms all.1)

    back : (ms : List Moment) → AllByRecursion NoPair ms → AllByRecursion Distinct ms
    back [] all = tt
    back (m ∷ ms) all = (not-false (are_distinct do_clash (current_values m.stamp vs)) (sym (at_stamp m) ∙ all.0), back ms all.1)

    pub never_pair : (moments : List Moment) → list_all (is_interval moments) vs ≡ true
        → (are_distinct (overlap do_clash) vs ≡ true) ↔ All (λ m. any_pair (map.entries (part_at m.stamp vs)) ≡ false) moments
    never_pair moments intervals =
        let law = apart_at_stamps do_clash moments vs intervals in (
          λ apart. All-from_recursion NoPair moments (there moments (law.0 apart)),
          λ all. law.1 (back moments (recursion_from_All NoPair moments all)),
        )
