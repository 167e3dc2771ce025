-- Disjoint lifespans of one key, as spans and as versions.
use Rattle.std.proofs.Common.{◌≡◌, ℕ, Bool, true, not, ◌&&◌, List, [], ◌∷◌, map as map_list, refl, sym, ap, ◌∙◌}
use Rattle.std.specs.Prelude.{ℤ, int_lt}
use Rattle.std.specs.List.{list_all, list_any}
use Rattle.std.specs.Ordering.{nat_cmp, ordering_then}
use Rattle.std.specs.declared.cmp.Ordering.{Ordering}
use Rattle.std.proofs.lemmas.Bool.{and_from, and_parts}
use Rattle.land_core.specs.Entries.{are_distinct}
use Rattle.land_tables_history.proofs.Entered.{distinct-map, distinct_alike}
use Rattle.land_tables_history.specs.Intervals.{is_interval_of, overlap}
use Rattle.land_tables_history.specs.Pairs.{is_same_pair, pairs_by_order}
use Rattle.land_tables_history.specs.Spans.{span_of}
use Rattle.land_tables_history.specs.Sweeps.Apart as sweep
use Rattle.land_tables_history.specs.declared.sweeps.apart.Span.{Span}
use Rattle.land_tables_history.specs.declared.version.Version.{Version}

apart_is_distinct : {K : Type 0} (R : K → K → Ordering) (spans : List (Span K)) → sweep.are_apart R spans ≡ are_distinct (sweep.overlap R) spans
apart_is_distinct R [] = refl
apart_is_distinct R (x ∷ xs) = ap (λ b. not (list_any (sweep.overlap R x) xs) && b) (apart_is_distinct R xs)

abbrev pub pair_cmp : ℕ × ℕ → ℕ × ℕ → Ordering
pair_cmp a b = ordering_then (nat_cmp a.0 b.0) (nat_cmp a.1 b.1)

-- no two versions of one key overlap if and only if no two of their spans do
pub apart_by_spans : {X : Type 0} (same : X → X → Bool) (key_of : X → ℕ × ℕ) (by_pairs : (a b : X) → same a b ≡ is_same_pair (key_of a) (key_of b)) (versions : List (Version X))
    → sweep.are_apart pair_cmp (map_list (span_of key_of) versions) ≡ are_distinct (overlap same) versions
apart_by_spans same key_of by_pairs versions =
    apart_is_distinct pair_cmp (map_list (span_of key_of) versions) ∙ distinct-map (sweep.overlap pair_cmp) (span_of key_of) versions
    ∙ distinct_alike (λ v w. sweep.overlap pair_cmp (span_of key_of v) (span_of key_of w)) (overlap same)
    (λ v w. ap (λ b. b && int_lt v.since w.until && int_lt w.since v.until) (pairs_by_order (key_of v.what) (key_of w.what) ∙ sym (by_pairs v.what w.what))) versions

pub spans_begin : {X : Type 0} (key_of : X → ℕ × ℕ) (versions : List (Version X)) → list_all (λ v. int_lt v.since v.until) versions ≡ true
    → list_all (λ x. int_lt x.since x.until) (map_list (span_of key_of) versions) ≡ true
spans_begin key_of [] all = refl
spans_begin key_of (v ∷ vs) all =
    let parts = and_parts (int_lt v.since v.until) (list_all (λ v. int_lt v.since v.until) vs) all in
    and_from (int_lt v.since v.until) (list_all (λ x. int_lt x.since x.until) (map_list (span_of key_of) vs)) parts.0 (spans_begin key_of vs parts.1)

-- valid intervals are not empty
pub all_begun : {X : Type 0} (stamps : List ℤ) (versions : List (Version X)) → list_all (is_interval_of stamps) versions ≡ true → list_all (λ v. int_lt v.since v.until) versions ≡ true
all_begun stamps [] all = refl
all_begun stamps (v ∷ vs) all =
    let parts = and_parts (is_interval_of stamps v) (list_all (is_interval_of stamps) vs) all in
    and_from (int_lt v.since v.until) (list_all (λ v. int_lt v.since v.until) vs) (and_parts (int_lt v.since v.until) _ (and_parts _ _ parts.0).0).0 (all_begun stamps vs parts.1)
