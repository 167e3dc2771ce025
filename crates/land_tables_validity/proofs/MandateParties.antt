-- Mandates are between two single parties, over time.
use Rattle.std.proofs.Common.{◌≡◌, ◌↔◌, ℕ, Bool, true, not, ◌&&◌, nat_eq, List, sym, ap₂, ◌∙◌}
use Rattle.std.specs.Prelude.{ℤ, int_lt}
use Rattle.std.proofs.lemmas.List.Sorted.{list_any-IsPermutation}
use Rattle.std.specs.List.{list_all, list_any}
use Rattle.land_core.specs.Mandates.{mandates_in}
use Rattle.land_core.specs.Soundness.{has_dangling_mandate, is_dangling_mandate}
use Rattle.land_core.specs.declared.mandates.Mandate.{Mandate}
use Rattle.land_tables_history.proofs.Distinct.{distinct_standing}
use Rattle.land_tables_history.proofs.Entered.{made_mandates}
use Rattle.land_tables_history.proofs.NamingTests.{any_standing}
use Rattle.land_tables_history.proofs.Proper.{AllProper, all_proper}
use Rattle.land_tables_history.specs.History.{register_of_history}
use Rattle.land_tables_history.specs.Intervals.{AreApart, has_intervals, is_same_mandate}
use Rattle.land_tables_history.specs.Standing.{mandates_at, current_values, is_current}
use Rattle.land_tables_history.specs.Sweeps.Cover.{IsCovered}
use Rattle.land_tables_history.specs.declared.history.History.{History}
use Rattle.land_tables_history.specs.declared.moment.Moment.{Moment}
use Rattle.land_tables_history.specs.declared.sweeps.cover.CoverageSpan.{CoverageSpan}
use Rattle.land_tables_history.specs.declared.version.Version.{Version}
use Rattle.land_tables_validity.proofs.Covers.{any_alike, pieces_begin}
use Rattle.land_tables_validity.proofs.References.{all_alone, alone, also, both_pass, both_true, by_way_of}
use Rattle.land_tables_validity.proofs.References.{covered_at_stamps, fails, is_there, never_by, side_by_side}
use Rattle.land_tables_validity.proofs.RoleHolders.{single_at, singles_are_intervals}
use Rattle.land_tables_validity.specs.Never.{Never}
use Rattle.land_tables_validity.specs.CoverageSpans.{are_in_range, coverage_spans}
use Rattle.land_tables_validity.specs.Roles.{single_parties}

-- some current mandate passes a test
some_mandate : (p : Mandate → Bool) (t : ℤ) (vs : List (Version Mandate)) → AreApart is_same_mandate vs
    → list_any p (mandates_in (mandates_at t vs)) ≡ list_any (λ v. is_current t v && p v.what) vs
some_mandate p t vs apart =
    let entered = made_mandates (current_values t vs) (distinct_standing is_same_mandate t vs apart) in
    sym (list_any-IsPermutation p (current_values t vs) (mandates_in (mandates_at t vs)) entered) ∙ sym (any_standing t p vs)

abbrev principal_of : Mandate → ℕ
principal_of m = m.principal

abbrev agent_of : Mandate → ℕ
agent_of m = m.agent

-- single parties are provided, and principals or agents are required
abbrev principal_pieces : History → List CoverageSpan
principal_pieces h = coverage_spans (λ e. e.0) (single_parties h.parties) principal_of h.mandates

abbrev agent_pieces : History → List CoverageSpan
agent_pieces h = coverage_spans (λ e. e.0) (single_parties h.parties) agent_of h.mandates

abbrev is_of_others : Mandate → Bool
is_of_others m = not (nat_eq m.principal m.agent)

module _ (moments : List Moment) (h : History) (p : AllProper moments h) (in_time : are_in_range moments ≡ true) where
  abbrev of_principal : ℤ → Mandate → Bool
  of_principal t m = is_there (λ e. e.0) (single_parties h.parties) principal_of t m

  abbrev of_agent : ℤ → Mandate → Bool
  of_agent t m = is_there (λ e. e.0) (single_parties h.parties) agent_of t m

  abbrev of_others : ℤ → Mandate → Bool
  of_others t m = alone is_of_others t m

  loose_at : (at : Moment) → has_dangling_mandate (register_of_history at.stamp h at.next) ≡ fails (also (also of_principal of_agent) of_others) h.mandates at.stamp
  loose_at at =
      some_mandate (λ m. is_dangling_mandate (register_of_history at.stamp h at.next) m) at.stamp h.mandates p.mandates.apart
      ∙ any_alike (λ v. is_current at.stamp v && is_dangling_mandate (register_of_history at.stamp h at.next) v.what)
      (λ v. is_current at.stamp v && not (also (also of_principal of_agent) of_others at.stamp v.what))
      (λ v. ap₂ (λ a b. is_current at.stamp v && not (a && b && is_of_others v.what)) (single_at moments h p at v.what.principal) (single_at moments h p at v.what.agent))
      h.mandates

  refer : ((IsCovered (principal_pieces h) × IsCovered (agent_pieces h)) × (list_all (λ v. is_of_others v.what) h.mandates ≡ true)) ↔ Never has_dangling_mandate moments h
  refer =
      by_way_of
      (side_by_side
      (by_way_of
      (side_by_side
      (covered_at_stamps (λ e. e.0) (single_parties h.parties) principal_of moments in_time h.mandates (singles_are_intervals moments h p) p.mandates.intervals)
      (covered_at_stamps (λ e. e.0) (single_parties h.parties) agent_of moments in_time h.mandates (singles_are_intervals moments h p) p.mandates.intervals))
      (both_pass of_principal of_agent h.mandates moments))
      (all_alone is_of_others moments h.mandates p.mandates.intervals))
      (by_way_of
      (both_pass (also of_principal of_agent) of_others h.mandates moments)
      (never_by has_dangling_mandate h (also (also of_principal of_agent) of_others) h.mandates loose_at moments))

-- principals and agents are single parties throughout their mandates, and differ, if and only if it is so at
-- each stamp
pub mandates_refer : (moments : List Moment) (h : History) → has_intervals moments h ≡ true → are_in_range moments ≡ true
    → (a b c : Bool)
    → (a ≡ true) ↔ IsCovered (coverage_spans (λ e. e.0) (single_parties h.parties) (λ (m : Mandate). m.principal) h.mandates)
    → (b ≡ true) ↔ IsCovered (coverage_spans (λ e. e.0) (single_parties h.parties) (λ (m : Mandate). m.agent) h.mandates)
    → c ≡ list_all (λ v. not (nat_eq v.what.principal v.what.agent)) h.mandates
    → ((a && b && c) ≡ true) ↔ Never has_dangling_mandate moments h
mandates_refer moments h intervals in_time a b c principals agents others =
    by_way_of (both_true (a && b) c)
    (by_way_of (side_by_side (by_way_of (both_true a b) (side_by_side principals agents)) (λ e. sym others ∙ e, λ e. others ∙ e))
    (refer moments h (all_proper moments h intervals) in_time))

begin : (moments : List Moment) (h : History) → has_intervals moments h ≡ true → (required : Mandate → ℕ)
    → list_all (λ x. int_lt x.since x.until) (coverage_spans (λ e. e.0) (single_parties h.parties) required h.mandates) ≡ true
begin moments h intervals required =
    let p = all_proper moments h intervals in
    pieces_begin moments (λ e. e.0) (single_parties h.parties) required h.mandates (singles_are_intervals moments h p) p.mandates.intervals

pub principals_begin : (moments : List Moment) (h : History) → has_intervals moments h ≡ true
    → list_all (λ x. int_lt x.since x.until) (coverage_spans (λ e. e.0) (single_parties h.parties) (λ (m : Mandate). m.principal) h.mandates) ≡ true
principals_begin moments h intervals = begin moments h intervals principal_of

pub agents_begin : (moments : List Moment) (h : History) → has_intervals moments h ≡ true
    → list_all (λ x. int_lt x.since x.until) (coverage_spans (λ e. e.0) (single_parties h.parties) (λ (m : Mandate). m.agent) h.mandates) ≡ true
agents_begin moments h intervals = begin moments h intervals agent_of
