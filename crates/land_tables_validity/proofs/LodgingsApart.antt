-- Mutations of one lodger and reference, over time.
use Rattle.std.proofs.Common.{◌≡◌, ◌↔◌, ℕ, Bool, true, ◌&&◌, List, [], ◌∷◌, map as map_list, refl, sym, ap, ap₂, subst, ◌∙◌}
use Rattle.std.specs.Prelude.{int_lt}
use Rattle.std.proofs.lemmas.Cmp.{eq_by_cmp_equiv, nat_list_cmp_total, nat_eq_equiv}
use Rattle.std.proofs.lemmas.List.Folds.{list_all-map}
use Rattle.std.proofs.lemmas.Map.Text.{is_eq-slice_cmp}
use Rattle.std.specs.Borrow.{Bor}
use Rattle.std.specs.Cmp.Lexicographic.{slice_cmp}
use Rattle.std.specs.List.{list_all}
use Rattle.std.specs.Ordering.{eq_by_cmp, nat_cmp, ordering_then}
use Rattle.std.specs.Str.{bytes_eq}
use Rattle.std.specs.declared.cmp.Ordering.{Ordering}
use Rattle.std.proofs.lemmas.Bool.{and_from, and_parts}
use Rattle.land_core.specs.Entries.{are_distinct}
use Rattle.land_core.specs.Mutations.{have_same_reference}
use Rattle.land_core.specs.Soundness.{has_reused_reference}
use Rattle.land_core.specs.declared.mutation.MutationRecord.{MutationRecord}
use Rattle.land_tables_history.proofs.Entered.{distinct-map, distinct_alike, same_numbers}
use Rattle.land_tables_history.proofs.Proper.{all_proper}
use Rattle.land_tables_history.specs.Intervals.{has_intervals, is_interval, overlap}
use Rattle.land_tables_history.specs.declared.history.History.{History}
use Rattle.land_tables_history.specs.declared.moment.Moment.{Moment}
use Rattle.land_tables_history.specs.declared.version.Version.{Version}
use Rattle.land_tables_validity.proofs.Covers.{nonempty}
use Rattle.land_tables_validity.proofs.PairsApart.{never_pair}
use Rattle.land_tables_validity.proofs.VersionsApart.{apart_is_distinct, eq_then}
use Rattle.land_tables_validity.specs.Lodgings.{lodging_span, lodging_key, owned_span}
use Rattle.land_tables_validity.specs.Never.{Never}
use Rattle.land_tables_history.specs.Sweeps.Apart.{are_apart, overlap as overlap_by}
use Rattle.land_tables_history.specs.declared.sweeps.apart.Span.{Span}

-- ---- lodgers and references

-- by lodger, then by reference
abbrev pub lodging_cmp : ℕ × List ℕ → ℕ × List ℕ → Ordering
lodging_cmp a b = ordering_then (nat_cmp a.0 b.0) (slice_cmp nat_cmp a.1 b.1)

-- likewise for borrowed references
abbrev pub lent_cmp : ℕ × Bor (List ℕ) → ℕ × Bor (List ℕ) → Ordering
lent_cmp a b = ordering_then (nat_cmp a.0 b.0) (slice_cmp nat_cmp a.1.now b.1.now)

by_lodgings : (a b : MutationRecord) → eq_by_cmp lodging_cmp (lodging_key a) (lodging_key b) ≡ have_same_reference a b
by_lodgings a b =
    eq_then (nat_cmp a.lodger b.lodger) (slice_cmp nat_cmp a.reference b.reference)
    ∙ ap₂ (λ x y. x && y) (same_numbers a.lodger b.lodger) (is_eq-slice_cmp a.reference b.reference)

texts_turned : (a b : List ℕ) → bytes_eq a b ≡ bytes_eq b a
texts_turned a b = sym (is_eq-slice_cmp a b) ∙ (eq_by_cmp_equiv nat_list_cmp_total).symm a b ∙ is_eq-slice_cmp b a

sharing_turned : (a b : MutationRecord) → have_same_reference a b ≡ have_same_reference b a
sharing_turned a b = ap₂ (λ x y. x && y) (nat_eq_equiv.symm a.lodger b.lodger) (texts_turned a.reference b.reference)

-- ---- spans

shown_apart : (spans : List (Span (ℕ × Bor (List ℕ))))
    → are_apart lent_cmp spans ≡ are_distinct (overlap_by lodging_cmp) (map_list owned_span spans)
shown_apart spans = apart_is_distinct lent_cmp spans ∙ sym (distinct-map (overlap_by lodging_cmp) owned_span spans)

lodged_apart : (vs : List (Version (ℕ × MutationRecord)))
    → are_distinct (overlap_by lodging_cmp) (map_list lodging_span vs) ≡ are_distinct (overlap (λ a b. have_same_reference a.1 b.1)) vs
lodged_apart vs =
    distinct-map (overlap_by lodging_cmp) lodging_span vs
    ∙ distinct_alike (λ v w. overlap_by lodging_cmp (lodging_span v) (lodging_span w)) (overlap (λ a b. have_same_reference a.1 b.1))
    (λ v w. ap (λ b. b && int_lt v.since w.until && int_lt w.since v.until) (by_lodgings v.what.1 w.what.1)) vs

begun_all : (moments : List Moment) (vs : List (Version (ℕ × MutationRecord))) → list_all (is_interval moments) vs ≡ true
    → list_all (λ v. int_lt v.since v.until) vs ≡ true
begun_all moments [] all = refl
begun_all moments (v ∷ vs) all =
    let parts = and_parts (is_interval moments v) (list_all (is_interval moments) vs) all in
    and_from (int_lt v.since v.until) (list_all (λ v. int_lt v.since v.until) vs) (nonempty moments v parts.0) (begun_all moments vs parts.1)

module _ (moments : List Moment) (h : History) (intervals : has_intervals moments h ≡ true) (spans : List (Span (ℕ × Bor (List ℕ))))
    (made : map_list owned_span spans ≡ map_list lodging_span h.mutations) where
  pub all_lodged_begin : list_all (λ x. int_lt x.since x.until) spans ≡ true
  all_lodged_begin =
      sym (list_all-map (λ (x : Span (ℕ × List ℕ)). int_lt x.since x.until) owned_span spans)
      ∙ ap (list_all (λ x. int_lt x.since x.until)) made
      ∙ list_all-map (λ (x : Span (ℕ × List ℕ)). int_lt x.since x.until) lodging_span h.mutations
      ∙ begun_all moments h.mutations (all_proper moments h intervals).mutations.intervals

  pub references_apart : (are_apart lent_cmp spans ≡ true) ↔ Never has_reused_reference moments h
  references_apart =
      let p = all_proper moments h intervals in
      subst (λ (b : Bool). (b ≡ true) ↔ Never has_reused_reference moments h)
      (sym (shown_apart spans ∙ ap (are_distinct (overlap_by lodging_cmp)) made ∙ lodged_apart h.mutations))
      (never_pair have_same_reference sharing_turned h.mutations p.mutations.apart moments p.mutations.intervals)
