-- Spans of versions are disjoint if no two versions of one key overlap.
use Rattle.std.proofs.Common.{◌≡◌, Bool, true, false, not, ◌||◌, ◌&&◌, List, [], ◌∷◌, Option, Some, None, refl, sym, ap, ap₂, ◌∙◌}
use Rattle.std.specs.Prelude.{int_lt}
use Rattle.std.specs.List.{cons_option, list_all, list_any}
use Rattle.std.specs.Option.{option_map}
use Rattle.std.specs.Ordering.{eq_by_cmp, is_eq, ordering_then}
use Rattle.std.specs.declared.cmp.Ordering.{Ordering}
use Rattle.std.specs.declared.cmp.Ordering.TheVariants.{Less, Equal, Greater}
use Rattle.std.proofs.lemmas.Bool.{and_from, and_parts}
use Rattle.land_core.specs.Entries.{are_distinct}
use Rattle.land_tables_history.proofs.Entered.{distinct_alike}
use Rattle.land_tables_history.specs.Intervals.{is_interval, overlap}
use Rattle.land_tables_history.specs.declared.moment.Moment.{Moment}
use Rattle.land_tables_history.specs.declared.version.Version.{Version}
use Rattle.land_tables_validity.proofs.Covers.{nonempty}
use Rattle.land_tables_validity.specs.ApartSpans.{span_at, spans_where}
use Rattle.land_tables_history.specs.Sweeps.Apart.{are_apart, overlap as overlap_by}
use Rattle.land_tables_history.specs.declared.sweeps.apart.Span.{Span}

-- ---- keys

-- values that are equal in two orders, one after the other
pub eq_then : (r s : Ordering) → is_eq (ordering_then r s) ≡ (is_eq r && is_eq s)
eq_then Less s = refl
eq_then Equal s = refl
eq_then Greater s = refl

-- ---- lists of spans

pub apart_is_distinct : {K : Type 0} (R : K → K → Ordering) (spans : List (Span K)) → are_apart R spans ≡ are_distinct (overlap_by R) spans
apart_is_distinct R [] = refl
apart_is_distinct R (x ∷ xs) = ap (λ b. not (list_any (overlap_by R x) xs) && b) (apart_is_distinct R xs)

-- ---- of values with a key

-- two keys are equal
abbrev pub is_one : {K : Type 0} → (K → K → Ordering) → Option K → Option K → Bool
is_one R (Some a) (Some b) = eq_by_cmp R a b
is_one R (Some a) None = false
is_one R None b = false

module _ {X K : Type 0} (R : K → K → Ordering) (key_of : X → Option K) where
  abbrev meets : Option K → Version X → Version X → Bool
  meets o v w = is_one R o (key_of w.what) && int_lt v.since w.until && int_lt w.since v.until

  any_met : (v : Version X) (key : K) (ws : List (Version X))
      → list_any (overlap_by R (span_at v key)) (spans_where key_of ws) ≡ list_any (meets (Some key) v) ws
  any_met v key [] = refl
  any_met v key (w ∷ ws) = go (key_of w.what) (any_met v key ws)
    where
      go : (o : Option K) → list_any (overlap_by R (span_at v key)) (spans_where key_of ws) ≡ list_any (meets (Some key) v) ws
          → list_any (overlap_by R (span_at v key)) (cons_option (option_map (span_at w) o) (spans_where key_of ws))
          ≡ (is_one R (Some key) o && int_lt v.since w.until && int_lt w.since v.until || list_any (meets (Some key) v) ws)
      go None rest = rest
      go (Some k) rest = ap (λ b. eq_by_cmp R key k && int_lt v.since w.until && int_lt w.since v.until || b) rest

  none_met : (v : Version X) (ws : List (Version X)) → list_any (meets None v) ws ≡ false
  none_met v [] = refl
  none_met v (w ∷ ws) = none_met v ws

  spans_met : (vs : List (Version X)) → are_apart R (spans_where key_of vs) ≡ are_distinct (λ v w. meets (key_of v.what) v w) vs
  spans_met [] = refl
  spans_met (v ∷ vs) = go (key_of v.what) (spans_met vs)
    where
      go : (o : Option K) → are_apart R (spans_where key_of vs) ≡ are_distinct (λ v w. meets (key_of v.what) v w) vs
          → are_apart R (cons_option (option_map (span_at v) o) (spans_where key_of vs))
          ≡ (not (list_any (meets o v) vs) && are_distinct (λ v w. meets (key_of v.what) v w) vs)
      go None rest = rest ∙ ap (λ b. not b && are_distinct (λ v w. meets (key_of v.what) v w) vs) (sym (none_met v vs))
      go (Some k) rest = ap₂ (λ a b. not a && b) (any_met v k vs) rest

  pub where_apart : (same : X → X → Bool) → ((a b : X) → is_one R (key_of a) (key_of b) ≡ same a b) → (vs : List (Version X))
      → are_apart R (spans_where key_of vs) ≡ are_distinct (overlap same) vs
  where_apart same by_keys vs =
      spans_met vs
      ∙ distinct_alike (λ v w. meets (key_of v.what) v w) (overlap same)
      (λ v w. ap (λ b. b && int_lt v.since w.until && int_lt w.since v.until) (by_keys v.what w.what)) vs

-- intervals are not empty
pub where_begun : {X K : Type 0} (moments : List Moment) (key_of : X → Option K) (vs : List (Version X))
    → list_all (is_interval moments) vs ≡ true
    → list_all (λ x. int_lt x.since x.until) (spans_where key_of vs) ≡ true
where_begun moments key_of [] h = refl
where_begun {X} {K} moments key_of (v ∷ vs) h =
    let parts = and_parts (is_interval moments v) (list_all (is_interval moments) vs) h in
    go (key_of v.what) (nonempty moments v parts.0) (where_begun moments key_of vs parts.1)
  where
    go : (o : Option K) → int_lt v.since v.until ≡ true → list_all (λ x. int_lt x.since x.until) (spans_where key_of vs) ≡ true
        → list_all (λ x. int_lt x.since x.until) (cons_option (option_map (span_at v) o) (spans_where key_of vs)) ≡ true
    go None first rest = rest
    go (Some k) first rest = and_from (int_lt v.since v.until) (list_all (λ x. int_lt x.since x.until) (spans_where key_of vs)) first rest
