-- References of mutations to lodgers and sources, and the limits of their contents.
use Rattle.std.proofs.Common.{◌≡◌, ◌↔◌, ℕ, Bool, true, ◌&&◌, List, ap, ap₂, sym, ◌∙◌}
use Rattle.std.specs.Prelude.{ℤ}
use Rattle.std.specs.List.{list_all}
use Rattle.land_core.specs.Contents.{is_well_formed_content}
use Rattle.land_core.specs.Entries.{has}
use Rattle.land_core.specs.Soundness.{has_dangling_mutation}
use Rattle.land_core.specs.declared.mutation.MutationRecord.{MutationRecord}
use Rattle.land_tables_history.proofs.Proper.{AllProper, all_proper}
use Rattle.land_tables_history.specs.History.{register_of_history}
use Rattle.land_tables_history.specs.Intervals.{has_intervals}
use Rattle.land_tables_history.specs.Standing.{part_at}
use Rattle.land_tables_history.specs.declared.history.History.{History}
use Rattle.land_tables_history.specs.declared.moment.Moment.{Moment}
use Rattle.land_tables_validity.proofs.Covers.{has_at}
use Rattle.land_tables_validity.proofs.References.{all_alone, alone, also, both_pass, both_true, by_way_of}
use Rattle.land_tables_validity.proofs.References.{covered_at_stamps, failing_at, fails, is_there, never_by, side_by_side}
use Rattle.land_tables_validity.specs.Never.{Never}
use Rattle.land_tables_validity.specs.CoverageSpans.{are_in_range, coverage_spans}
use Rattle.land_tables_history.specs.Sweeps.Cover.{IsCovered}

module _ (moments : List Moment) (h : History) (p : AllProper moments h) (in_time : are_in_range moments ≡ true) where
  abbrev lodger_of : ℕ × MutationRecord → ℕ
  lodger_of e = e.1.lodger

  abbrev source_of : ℕ × MutationRecord → ℕ
  source_of e = e.1.source

  abbrev by_lodger : ℤ → ℕ × MutationRecord → Bool
  by_lodger t e = is_there (λ p. p.0) h.parties lodger_of t e

  abbrev from_source : ℤ → ℕ × MutationRecord → Bool
  from_source t e = is_there (λ s. s.0) h.sources source_of t e

  abbrev within_limits : ℤ → ℕ × MutationRecord → Bool
  within_limits t e = alone (λ (e : ℕ × MutationRecord). is_well_formed_content e.1.content) t e

  loose_at : (m : Moment) → has_dangling_mutation (register_of_history m.stamp h m.next)
      ≡ fails (also (also by_lodger from_source) within_limits) h.mutations m.stamp
  loose_at m =
      failing_at m.stamp h.mutations p.mutations.apart (also (also by_lodger from_source) within_limits)
      (λ e. has (part_at m.stamp h.parties) e.1.lodger && has (part_at m.stamp h.sources) e.1.source && is_well_formed_content e.1.content)
      (λ e.
      ap (λ b. b && is_well_formed_content e.1.content)
      (ap₂ (λ b c. b && c) (has_at m.stamp h.parties p.parties.apart e.1.lodger) (has_at m.stamp h.sources p.sources.apart e.1.source)))

  refer :
      ((IsCovered (coverage_spans (λ p. p.0) h.parties lodger_of h.mutations) × IsCovered (coverage_spans (λ s. s.0) h.sources source_of h.mutations))
      × (list_all (λ v. is_well_formed_content v.what.1.content) h.mutations ≡ true))
      ↔ Never has_dangling_mutation moments h
  refer =
      by_way_of
      (side_by_side
      (by_way_of
      (side_by_side
      (covered_at_stamps (λ p. p.0) h.parties lodger_of moments in_time h.mutations p.parties.intervals p.mutations.intervals)
      (covered_at_stamps (λ s. s.0) h.sources source_of moments in_time h.mutations p.sources.intervals p.mutations.intervals))
      (both_pass by_lodger from_source h.mutations moments))
      (all_alone (λ (e : ℕ × MutationRecord). is_well_formed_content e.1.content) moments h.mutations p.mutations.intervals))
      (by_way_of
      (both_pass (also by_lodger from_source) within_limits h.mutations moments)
      (never_by has_dangling_mutation h (also (also by_lodger from_source) within_limits) h.mutations loose_at moments))

pub mutations_refer : (moments : List Moment) (h : History) → has_intervals moments h ≡ true → are_in_range moments ≡ true
    → (a b c : Bool)
    → (a ≡ true) ↔ IsCovered (coverage_spans (λ p. p.0) h.parties (λ (e : ℕ × MutationRecord). e.1.lodger) h.mutations)
    → (b ≡ true) ↔ IsCovered (coverage_spans (λ s. s.0) h.sources (λ (e : ℕ × MutationRecord). e.1.source) h.mutations)
    → c ≡ list_all (λ v. is_well_formed_content v.what.1.content) h.mutations
    → ((a && b && c) ≡ true) ↔ Never has_dangling_mutation moments h
mutations_refer moments h intervals in_time a b c lodgers sources contents =
    by_way_of (both_true (a && b) c)
    (by_way_of (side_by_side (by_way_of (both_true a b) (side_by_side lodgers sources)) (λ e. sym contents ∙ e, λ e. contents ∙ e))
    (refer moments h (all_proper moments h intervals) in_time))
