-- Units have parcels and owners, over time.
use Rattle.std.proofs.Common.{◌≡◌, ◌↔◌, ℕ, Bool, true, false, cond, ◌&&◌, ◌||◌, List, [], ◌∷◌, filter, refl, sym, ap₂, ◌∙◌}
use Rattle.std.specs.Prelude.{ℤ, nat_eq}
use Rattle.std.specs.List.{list_all, list_any}
use Rattle.std.proofs.lemmas.Bool.{and_from, and_parts}
use Rattle.land_core.specs.Soundness.{has_bare_unit}
use Rattle.land_core.specs.Units.{has_owner, has_parcel, is_right_in}
use Rattle.land_core.specs.declared.rrr.RightType.TheVariants.{Ownership}
use Rattle.land_core.specs.declared.rrr.RrrRecord.{RrrRecord}
use Rattle.land_core.specs.declared.unit.UnitRecord.{UnitRecord}
use Rattle.land_tables_history.proofs.Proper.{AllProper, all_proper}
use Rattle.land_tables_history.specs.History.{register_of_history}
use Rattle.land_tables_history.specs.Intervals.{has_intervals, is_interval}
use Rattle.land_tables_history.specs.Standing.{is_current}
use Rattle.land_tables_history.specs.declared.history.History.{History}
use Rattle.land_tables_history.specs.declared.moment.Moment.{Moment}
use Rattle.land_tables_history.specs.declared.version.Version.{Version}
use Rattle.land_tables_validity.proofs.Covers.{some_by, stood_by}
use Rattle.land_tables_validity.proofs.References.{also, both_pass, both_true, by_way_of, covered_at_stamps, failing_at, fails, is_there, never_by, side_by_side}
use Rattle.land_tables_validity.specs.BareUnits.{entry_unit, record_number, ownerships, owns, parcel_unit}
use Rattle.land_tables_validity.specs.Never.{Never}
use Rattle.land_tables_validity.specs.CoverageSpans.{are_in_range, coverage_spans}
use Rattle.land_tables_history.specs.Sweeps.Cover.{IsCovered}

-- ---- owners

kept_all : {X : Type 0} (p q : X → Bool) (xs : List X) → list_all p xs ≡ true → list_all p (filter q xs) ≡ true
kept_all p q [] h = refl
kept_all {X} p q (x ∷ xs) h = let parts = and_parts (p x) (list_all p xs) h in go (q x) parts.0 (kept_all p q xs parts.1)
  where
    go : (b : Bool) → p x ≡ true → list_all p (filter q xs) ≡ true → list_all p (cond b (x ∷ filter q xs) (filter q xs)) ≡ true
    go true here later = and_from (p x) (list_all p (filter q xs)) here later
    go false here later = later

pub owners_are_intervals : (moments : List Moment) (rrrs : List (Version (ℕ × RrrRecord)))
    → list_all (is_interval moments) rrrs ≡ true → list_all (is_interval moments) (ownerships rrrs) ≡ true
owners_are_intervals moments rrrs h = kept_all (is_interval moments) owns rrrs h

and_true : (a b : Bool) → (a && b) ≡ (a && (b && true))
and_true true true = refl
and_true true false = refl
and_true false b = refl

and_false : (a b : Bool) → false ≡ (a && (b && false))
and_false true true = refl
and_false true false = refl
and_false false b = refl

module _ (unit : ℕ) (t : ℤ) where
  abbrev is_owner : Version (ℕ × RrrRecord) → Bool
  is_owner v = is_current t v && is_right_in unit Ownership v.what.1

  owned_by : (vs : List (Version (ℕ × RrrRecord))) → list_any is_owner vs ≡ stood_by entry_unit (ownerships vs) unit t
  owned_by [] = refl
  owned_by (v ∷ vs) = go (owns v) (owned_by vs)
    where
      go : (b : Bool) → list_any is_owner vs ≡ stood_by entry_unit (ownerships vs) unit t
          → ((is_current t v && (nat_eq v.what.1.unit unit && b)) || list_any is_owner vs)
          ≡ stood_by entry_unit (cond b (v ∷ ownerships vs) (ownerships vs)) unit t
      go true rest = ap₂ (λ b c. b || c) (sym (and_true (is_current t v) (nat_eq v.what.1.unit unit))) rest
      go false rest = ap₂ (λ b c. b || c) (sym (and_false (is_current t v) (nat_eq v.what.1.unit unit))) rest

-- ---- units

module _ (moments : List Moment) (h : History) (p : AllProper moments h) (in_time : are_in_range moments ≡ true) where
  abbrev with_parcel : ℤ → ℕ × UnitRecord → Bool
  with_parcel t u = is_there parcel_unit h.parcels record_number t u

  abbrev with_owner : ℤ → ℕ × UnitRecord → Bool
  with_owner t u = is_there entry_unit (ownerships h.rrrs) record_number t u

  bare_at : (m : Moment) → has_bare_unit (register_of_history m.stamp h m.next) ≡ fails (also with_parcel with_owner) h.units m.stamp
  bare_at m =
      failing_at m.stamp h.units p.units.apart (also with_parcel with_owner)
      (λ u. has_parcel (register_of_history m.stamp h m.next) u.0 && has_owner (register_of_history m.stamp h m.next) u.0)
      (λ u. ap₂ (λ b c. b && c)
      (some_by (λ e. nat_eq e.1.unit u.0) m.stamp h.parcels p.parcels.apart)
      (some_by (λ e. is_right_in u.0 Ownership e.1) m.stamp h.rrrs p.rrrs.apart ∙ owned_by u.0 m.stamp h.rrrs))

  never_bare : (IsCovered (coverage_spans parcel_unit h.parcels record_number h.units)
      × IsCovered (coverage_spans entry_unit (ownerships h.rrrs) record_number h.units))
      ↔ Never has_bare_unit moments h
  never_bare =
      by_way_of
      (side_by_side
      (covered_at_stamps parcel_unit h.parcels record_number moments in_time h.units p.parcels.intervals p.units.intervals)
      (covered_at_stamps entry_unit (ownerships h.rrrs) record_number moments in_time h.units
      (owners_are_intervals moments h.rrrs p.rrrs.intervals) p.units.intervals))
      (by_way_of (both_pass with_parcel with_owner h.units moments)
      (never_by has_bare_unit h (also with_parcel with_owner) h.units bare_at moments))

-- both results together
pub have_both : (moments : List Moment) (h : History) → has_intervals moments h ≡ true → are_in_range moments ≡ true → (a b : Bool)
    → (a ≡ true) ↔ IsCovered (coverage_spans parcel_unit h.parcels record_number h.units)
    → (b ≡ true) ↔ IsCovered (coverage_spans entry_unit (ownerships h.rrrs) record_number h.units)
    → ((a && b) ≡ true) ↔ Never has_bare_unit moments h
have_both moments h intervals in_time a b parcels owners =
    by_way_of (both_true a b) (by_way_of (side_by_side parcels owners) (never_bare moments h (all_proper moments h intervals) in_time))
