-- If the latest moment is at most the last representable one, all moments are before the open end.
use Rattle.std.proofs.Common.{◌≡◌, Bool, true, false, cond, ◌&&◌, List, [], ◌∷◌, Some, refl, ap, ap₂, subst, arith}
use Rattle.std.specs.Prelude.{ℤ, pos, ◌≤ℤ◌, int_le, int_lt}
use Rattle.std.proofs.lemmas.Int.{ints}
use Rattle.std.specs.List.{list_all}
use Rattle.std.proofs.lemmas.Bool.{and_parts}
use Rattle.land_core.specs.Numbers.{last_moment}
use Rattle.land_tables_history.specs.Moments.{follows, last, latest_from}
use Rattle.land_tables_history.specs.Open.{never}
use Rattle.land_tables_history.specs.declared.moment.Moment.{Moment}
use Rattle.land_tables_validity.specs.CoverageSpans.{are_in_range}

abbrev are_upto : ℤ → List Moment → Bool
are_upto t ms = list_all (λ m. int_le m.stamp t) ms

itself : (t : ℤ) → int_le t t ≡ true
itself t = grind (arith, ints)

upto : (a b c : ℤ) → int_le a b ≡ true → int_le b c ≡ true → int_le a c ≡ true
upto a b c p q = grind (arith, ints)

later_upto : (a b c : ℤ) → int_le a b ≡ false → int_le a c ≡ true → int_le b c ≡ true
later_upto a b c p q = grind (arith, ints)

same_stamp : (k latest : Moment) → Some k ≡ Some latest → int_le k.stamp latest.stamp ≡ true
same_stamp k latest e = subst (λ (m : Moment). int_le k.stamp m.stamp ≡ true) (some_inj e) (itself k.stamp)
  where
    some_inj : Some k ≡ Some latest → k ≡ latest
    some_inj e = cc

three : {a b c : Bool} → a ≡ true → b ≡ true → c ≡ true → (a && (b && c)) ≡ true
three p q r = ap₂ (λ s t. s && t) p (ap₂ (λ s t. s && t) q r)

-- the latest of one moment and others is at least each of them
none_later : (k latest : Moment) (ms : List Moment) → latest_from (λ m. true) (Some k) ms ≡ Some latest → (int_le k.stamp latest.stamp && are_upto latest.stamp ms) ≡ true
none_later k latest [] is = ap (λ b. b && true) (same_stamp k latest is)
none_later k latest (n ∷ ns) is = go (follows (Some k) n) refl is (λ j. none_later j latest ns)
  where
    go : (b : Bool) → int_le k.stamp n.stamp ≡ b → latest_from (λ m. true) (cond b (Some n) (Some k)) ns ≡ Some latest
        → ((j : Moment) → latest_from (λ m. true) (Some j) ns ≡ Some latest → (int_le j.stamp latest.stamp && are_upto latest.stamp ns) ≡ true)
        → (int_le k.stamp latest.stamp && (int_le n.stamp latest.stamp && are_upto latest.stamp ns)) ≡ true
    go true e is rest =
        let parts = and_parts (int_le n.stamp latest.stamp) (are_upto latest.stamp ns) (rest n is) in
        three (upto k.stamp n.stamp latest.stamp e parts.0) parts.0 parts.1
    go false e is rest =
        let parts = and_parts (int_le k.stamp latest.stamp) (are_upto latest.stamp ns) (rest k is) in
        three parts.0 (later_upto k.stamp n.stamp latest.stamp e parts.0) parts.1

none_after : (latest : Moment) (ms : List Moment) → last ms ≡ Some latest → are_upto latest.stamp ms ≡ true
none_after latest [] is = refl
none_after latest (m ∷ ms) is = none_later m latest ms is

before_the_end : (s t : ℤ) → int_le s t ≡ true → t ≤ℤ last_moment → int_lt s never ≡ true
before_the_end s t p q = grind (arith, ints)

all_before : (t : ℤ) → t ≤ℤ last_moment → (ms : List Moment) → are_upto t ms ≡ true → are_in_range ms ≡ true
all_before t h [] all = refl
all_before t h (m ∷ ms) all =
    let parts = and_parts (int_le m.stamp t) (are_upto t ms) all in
    ap₂ (λ a b. a && b) (before_the_end m.stamp t parts.0 h) (all_before t h ms parts.1)

pub in_time : (latest : Moment) (ms : List Moment) → last ms ≡ Some latest → latest.stamp ≤ℤ last_moment → are_in_range ms ≡ true
in_time latest ms is h = all_before latest.stamp h ms (none_after latest ms is)
