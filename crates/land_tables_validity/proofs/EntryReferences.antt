-- References of entries to units, parties and sources.
use Rattle.std.proofs.Common.{◌≡◌, ◌↔◌, ℕ, Bool, true, ◌&&◌, List, ap₂}
use Rattle.std.specs.Prelude.{ℤ}
use Rattle.land_core.specs.Entries.{has}
use Rattle.land_core.specs.Soundness.{has_dangling_rrr}
use Rattle.land_core.specs.declared.rrr.RrrRecord.{RrrRecord}
use Rattle.land_tables_history.proofs.Proper.{AllProper, all_proper}
use Rattle.land_tables_history.specs.History.{register_of_history}
use Rattle.land_tables_history.specs.Intervals.{has_intervals}
use Rattle.land_tables_history.specs.Standing.{part_at}
use Rattle.land_tables_history.specs.declared.history.History.{History}
use Rattle.land_tables_history.specs.declared.moment.Moment.{Moment}
use Rattle.land_tables_validity.proofs.Covers.{has_at}
use Rattle.land_tables_validity.proofs.References.{also, both_pass, both_true, by_way_of, covered_at_stamps}
use Rattle.land_tables_validity.proofs.References.{failing_at, fails, is_there, never_by, side_by_side}
use Rattle.land_tables_validity.specs.Never.{Never}
use Rattle.land_tables_validity.specs.CoverageSpans.{are_in_range, coverage_spans}
use Rattle.land_tables_history.specs.Sweeps.Cover.{IsCovered}

module _ (moments : List Moment) (h : History) (p : AllProper moments h) (in_time : are_in_range moments ≡ true) where
  abbrev unit_of : ℕ × RrrRecord → ℕ
  unit_of e = e.1.unit

  abbrev party_of : ℕ × RrrRecord → ℕ
  party_of e = e.1.party

  abbrev source_of : ℕ × RrrRecord → ℕ
  source_of e = e.1.source

  abbrev in_unit : ℤ → ℕ × RrrRecord → Bool
  in_unit t e = is_there (λ u. u.0) h.units unit_of t e

  abbrev of_party : ℤ → ℕ × RrrRecord → Bool
  of_party t e = is_there (λ p. p.0) h.parties party_of t e

  abbrev from_source : ℤ → ℕ × RrrRecord → Bool
  from_source t e = is_there (λ s. s.0) h.sources source_of t e

  loose_at : (m : Moment) → has_dangling_rrr (register_of_history m.stamp h m.next) ≡ fails (also (also in_unit of_party) from_source) h.rrrs m.stamp
  loose_at m =
      failing_at m.stamp h.rrrs p.rrrs.apart (also (also in_unit of_party) from_source)
      (λ e. has (part_at m.stamp h.units) e.1.unit && has (part_at m.stamp h.parties) e.1.party && has (part_at m.stamp h.sources) e.1.source)
      (λ e.
      ap₂ (λ b c. b && c)
      (ap₂ (λ b c. b && c) (has_at m.stamp h.units p.units.apart e.1.unit) (has_at m.stamp h.parties p.parties.apart e.1.party))
      (has_at m.stamp h.sources p.sources.apart e.1.source))

  refer :
      ((IsCovered (coverage_spans (λ u. u.0) h.units unit_of h.rrrs) × IsCovered (coverage_spans (λ p. p.0) h.parties party_of h.rrrs))
      × IsCovered (coverage_spans (λ s. s.0) h.sources source_of h.rrrs))
      ↔ Never has_dangling_rrr moments h
  refer =
      by_way_of
      (side_by_side
      (by_way_of
      (side_by_side
      (covered_at_stamps (λ u. u.0) h.units unit_of moments in_time h.rrrs p.units.intervals p.rrrs.intervals)
      (covered_at_stamps (λ p. p.0) h.parties party_of moments in_time h.rrrs p.parties.intervals p.rrrs.intervals))
      (both_pass in_unit of_party h.rrrs moments))
      (covered_at_stamps (λ s. s.0) h.sources source_of moments in_time h.rrrs p.sources.intervals p.rrrs.intervals))
      (by_way_of
      (both_pass (also in_unit of_party) from_source h.rrrs moments)
      (never_by has_dangling_rrr h (also (also in_unit of_party) from_source) h.rrrs loose_at moments))

pub entries_refer : (moments : List Moment) (h : History) → has_intervals moments h ≡ true → are_in_range moments ≡ true
    → (a b c : Bool)
    → (a ≡ true) ↔ IsCovered (coverage_spans (λ u. u.0) h.units (λ (e : ℕ × RrrRecord). e.1.unit) h.rrrs)
    → (b ≡ true) ↔ IsCovered (coverage_spans (λ p. p.0) h.parties (λ (e : ℕ × RrrRecord). e.1.party) h.rrrs)
    → (c ≡ true) ↔ IsCovered (coverage_spans (λ s. s.0) h.sources (λ (e : ℕ × RrrRecord). e.1.source) h.rrrs)
    → ((a && b && c) ≡ true) ↔ Never has_dangling_rrr moments h
entries_refer moments h intervals in_time a b c units parties sources =
    by_way_of (both_true (a && b) c)
    (by_way_of (side_by_side (by_way_of (both_true a b) (side_by_side units parties)) sources)
    (refer moments h (all_proper moments h intervals) in_time))
