-- References of parcels to units and sources.
use Rattle.std.proofs.Common.{◌≡◌, ◌↔◌, ℕ, Bool, true, ◌&&◌, List, ap₂}
use Rattle.std.specs.Prelude.{ℤ}
use Rattle.land_core.specs.Entries.{has}
use Rattle.land_core.specs.Soundness.{has_dangling_parcel}
use Rattle.land_core.specs.declared.parcel.ParcelRecord.{ParcelRecord}
use Rattle.land_tables_history.proofs.Proper.{AllProper, all_proper}
use Rattle.land_tables_history.specs.History.{register_of_history}
use Rattle.land_tables_history.specs.Intervals.{has_intervals}
use Rattle.land_tables_history.specs.Standing.{part_at}
use Rattle.land_tables_history.specs.declared.history.History.{History}
use Rattle.land_tables_history.specs.declared.moment.Moment.{Moment}
use Rattle.land_tables_validity.proofs.Covers.{has_at}
use Rattle.land_tables_validity.proofs.References.{also, both_pass, both_true, by_way_of, covered_at_stamps}
use Rattle.land_tables_validity.proofs.References.{failing_at, fails, is_there, never_by, side_by_side}
use Rattle.land_tables_validity.specs.Never.{Never}
use Rattle.land_tables_validity.specs.CoverageSpans.{are_in_range, coverage_spans}
use Rattle.land_tables_history.specs.Sweeps.Cover.{IsCovered}

module _ (moments : List Moment) (h : History) (p : AllProper moments h) (in_time : are_in_range moments ≡ true) where
  abbrev unit_of : ℕ × ParcelRecord → ℕ
  unit_of e = e.1.unit

  abbrev source_of : ℕ × ParcelRecord → ℕ
  source_of e = e.1.source

  abbrev in_unit : ℤ → ℕ × ParcelRecord → Bool
  in_unit t e = is_there (λ u. u.0) h.units unit_of t e

  abbrev from_source : ℤ → ℕ × ParcelRecord → Bool
  from_source t e = is_there (λ s. s.0) h.sources source_of t e

  loose_at : (m : Moment) → has_dangling_parcel (register_of_history m.stamp h m.next) ≡ fails (also in_unit from_source) h.parcels m.stamp
  loose_at m =
      failing_at m.stamp h.parcels p.parcels.apart (also in_unit from_source)
      (λ e. has (part_at m.stamp h.units) e.1.unit && has (part_at m.stamp h.sources) e.1.source)
      (λ e. ap₂ (λ b c. b && c) (has_at m.stamp h.units p.units.apart e.1.unit) (has_at m.stamp h.sources p.sources.apart e.1.source))

  refer :
      (IsCovered (coverage_spans (λ u. u.0) h.units unit_of h.parcels) × IsCovered (coverage_spans (λ s. s.0) h.sources source_of h.parcels))
      ↔ Never has_dangling_parcel moments h
  refer =
      by_way_of
      (side_by_side
      (covered_at_stamps (λ u. u.0) h.units unit_of moments in_time h.parcels p.units.intervals p.parcels.intervals)
      (covered_at_stamps (λ s. s.0) h.sources source_of moments in_time h.parcels p.sources.intervals p.parcels.intervals))
      (by_way_of (both_pass in_unit from_source h.parcels moments)
      (never_by has_dangling_parcel h (also in_unit from_source) h.parcels loose_at moments))

pub parcels_refer : (moments : List Moment) (h : History) → has_intervals moments h ≡ true → are_in_range moments ≡ true
    → (a b : Bool)
    → (a ≡ true) ↔ IsCovered (coverage_spans (λ u. u.0) h.units (λ (e : ℕ × ParcelRecord). e.1.unit) h.parcels)
    → (b ≡ true) ↔ IsCovered (coverage_spans (λ s. s.0) h.sources (λ (e : ℕ × ParcelRecord). e.1.source) h.parcels)
    → ((a && b) ≡ true) ↔ Never has_dangling_parcel moments h
parcels_refer moments h intervals in_time a b units sources =
    by_way_of (both_true a b) (by_way_of (side_by_side units sources) (refer moments h (all_proper moments h intervals) in_time))
