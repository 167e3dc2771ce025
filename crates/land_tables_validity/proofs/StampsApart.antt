-- No two conflicting values are current at a stamp if and only if no two of them overlap.
use Rattle.std.proofs.Common.{◌≡◌, ◌↔◌, Bool, true, false, cond, not, ◌&&◌, ◌||◌, List, [], ◌∷◌, filter, map as map_list, refl, sym, ap, ap₂, subst, ◌∙◌, arith}
use Rattle.std.specs.Prelude.{ℤ, int_le, int_lt}
use Rattle.std.proofs.lemmas.Bool.Decides.{Decides-int_eq}
use Rattle.std.proofs.lemmas.Int.{ints}
use Rattle.std.specs.List.{AllByRecursion, list_all, list_any}
use Rattle.std.specs.Ordering.{int_eq}
use Rattle.std.proofs.lemmas.Bool.{and_from, and_parts, false_from_ne_true, not-true, or_parts}
use Rattle.land_core.proofs.Booleans.{conflict}
use Rattle.land_core.specs.Entries.{are_distinct}
use Rattle.land_tables_history.proofs.Distinct.{distinct_standing}
use Rattle.land_tables_history.proofs.NamingTests.{any_standing}
use Rattle.land_tables_history.specs.Intervals.{is_interval, is_stamp, overlap}
use Rattle.land_tables_history.specs.Standing.{current_values, is_current}
use Rattle.land_tables_history.specs.declared.moment.Moment.{Moment}
use Rattle.land_tables_history.specs.declared.version.Version.{Version}
use Rattle.land_tables_validity.proofs.Covers.{nonempty}
use Rattle.land_tables_validity.proofs.Latest.{at_stamp, ends_of}

-- if two lifespans overlap, both include the later of their starts
at_the_later : (since until since' until' : ℤ) → (int_lt since until' && int_lt since' until) ≡ true → int_le since since' ≡ true
    → int_lt since' until' ≡ true
    → ((int_le since since' && int_lt since' until) ≡ true) × ((int_le since' since' && int_lt since' until') ≡ true)
at_the_later since until since' until' meet order nonempty = (grind (arith, ints), grind (arith, ints))

at_the_first : (since until since' until' : ℤ) → (int_lt since until' && int_lt since' until) ≡ true → int_le since since' ≡ false
    → int_lt since until ≡ true
    → ((int_le since since && int_lt since until) ≡ true) × ((int_le since' since && int_lt since until') ≡ true)
at_the_first since until since' until' meet order nonempty = (grind (arith, ints), grind (arith, ints))

module _ {X : Type 0} (same : X → X → Bool) (moments : List Moment) where
  none_beside : (t : ℤ) (v : Version X) (vs : List (Version X)) → is_current t v ≡ true → are_distinct same (current_values t (v ∷ vs)) ≡ true
      → list_any (λ w. is_current t w && same v.what w.what) vs ≡ false
  none_beside t v vs here distinct =
      any_standing t (same v.what) vs
      ∙ not-true (list_any (same v.what) (current_values t vs))
      (and_parts (not (list_any (same v.what) (current_values t vs))) (are_distinct same (current_values t vs)) opened).0
    where
      opened : (not (list_any (same v.what) (current_values t vs)) && are_distinct same (current_values t vs)) ≡ true
      opened =
          sym (ap (λ b. are_distinct same
          (map_list (λ (v : Version X). v.what) (cond b (v ∷ filter (is_current t) vs) (filter (is_current t) vs)))) here) ∙ distinct

  rest_distinct : (t : ℤ) (v : Version X) (vs : List (Version X)) → are_distinct same (current_values t (v ∷ vs)) ≡ true
      → are_distinct same (current_values t vs) ≡ true
  rest_distinct t v vs distinct = go (is_current t v) distinct
    where
      go : (b : Bool)
          → are_distinct same (map_list (λ (v : Version X). v.what) (cond b (v ∷ filter (is_current t) vs) (filter (is_current t) vs))) ≡ true
          → are_distinct same (current_values t vs) ≡ true
      go true h = (and_parts (not (list_any (same v.what) (current_values t vs))) (are_distinct same (current_values t vs)) h).1
      go false h = h

  parted : (a b c : Bool) → (a && b && c) ≡ true → (a ≡ true) × ((b && c) ≡ true)
  parted a b c h = (grind arith, grind arith)

  none_meets : (v : Version X) → is_interval moments v ≡ true → (ws : List (Version X)) → list_all (is_interval moments) ws ≡ true
      → ((u : ℤ) → is_stamp moments u ≡ true → is_current u v ≡ true → list_any (λ w. is_current u w && same v.what w.what) ws ≡ false)
      → list_any (overlap same v) ws ≡ false
  none_meets v i [] all h = refl
  none_meets v i (w ∷ ws) all h =
      let parts = and_parts (is_interval moments w) (list_all (is_interval moments) ws) all in
      ap₂ (λ b c. b || c) (false_from_ne_true (overlap same v w)
      (λ meet. apart (nonempty moments w parts.0) (ends_of moments w parts.0).begins
      (parted (same v.what w.what) (int_lt v.since w.until) (int_lt w.since v.until) meet) (int_le v.since w.since) refl))
      (none_meets v i ws parts.1
      (λ u is here. (or_parts (is_current u w && same v.what w.what) (list_any (λ w. is_current u w && same v.what w.what) ws) (h u is here)).1))
    where
      apart : int_lt w.since w.until ≡ true → is_stamp moments w.since ≡ true
          → (same v.what w.what ≡ true) × ((int_lt v.since w.until && int_lt w.since v.until) ≡ true) → (b : Bool)
          → int_le v.since w.since ≡ b → ⊥
      apart first stamp m true e =
          let it = at_the_later v.since v.until w.since w.until m.1 e first in
          conflict (and_from (is_current w.since w) (same v.what w.what) it.1 m.0)
          (or_parts (is_current w.since w && same v.what w.what) (list_any (λ w2. is_current w.since w2 && same v.what w2.what) ws)
          (h w.since stamp it.0)).0
      apart first stamp m false e =
          let it = at_the_first v.since v.until w.since w.until m.1 e (nonempty moments v i) in
          conflict (and_from (is_current v.since w) (same v.what w.what) it.1 m.0)
          (or_parts (is_current v.since w && same v.what w.what) (list_any (λ w2. is_current v.since w2 && same v.what w2.what) ws)
          (h v.since (ends_of moments v i).begins it.0)).0

  apart_from : (vs : List (Version X)) → list_all (is_interval moments) vs ≡ true
      → ((u : ℤ) → is_stamp moments u ≡ true → are_distinct same (current_values u vs) ≡ true) → are_distinct (overlap same) vs ≡ true
  apart_from [] all h = refl
  apart_from (v ∷ vs) all h =
      let parts = and_parts (is_interval moments v) (list_all (is_interval moments) vs) all in
      and_from (not (list_any (overlap same v) vs)) (are_distinct (overlap same) vs)
      (ap not (none_meets v parts.0 vs parts.1 (λ u is here. none_beside u v vs here (h u is))))
      (apart_from vs parts.1 (λ u is. rest_distinct u v vs (h u is)))

  exact_stamp : (vs : List (Version X)) (u s : ℤ) → int_eq s u ≡ true → are_distinct same (current_values s vs) ≡ true
      → are_distinct same (current_values u vs) ≡ true
  exact_stamp vs u s e h = subst (λ (t : ℤ). are_distinct same (current_values t vs) ≡ true) ((Decides-int_eq s u).0 e) h

  each_apart : (vs : List (Version X)) → are_distinct (overlap same) vs ≡ true → (ms : List Moment)
      → AllByRecursion (λ m. are_distinct same (current_values m.stamp vs) ≡ true) ms
  each_apart vs h [] = tt
  each_apart vs h (m ∷ ms) = (distinct_standing same m.stamp vs h, each_apart vs h ms)

  -- no two conflicting values overlap if and only if no two are current at a stamp
  pub apart_at_stamps : (vs : List (Version X)) → list_all (is_interval moments) vs ≡ true
      → (are_distinct (overlap same) vs ≡ true) ↔ AllByRecursion (λ m. are_distinct same (current_values m.stamp vs) ≡ true) moments
  apart_at_stamps vs all = (
    λ h. each_apart vs h moments,
    λ each. apart_from vs all (λ u is. at_stamp u (λ t. are_distinct same (current_values t vs) ≡ true) u (exact_stamp vs u) moments is each),
  )
