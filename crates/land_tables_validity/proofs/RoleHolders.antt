-- Roles are held by single parties, over time.
use Rattle.std.proofs.Common.{◌≡◌, ◌↔◌, ℕ, Bool, true, not, ◌&&◌, List, sym, ap, ◌∙◌}
use Rattle.std.specs.Prelude.{ℤ, int_lt}
use Rattle.std.proofs.lemmas.List.Sorted.{list_any-IsPermutation}
use Rattle.std.specs.List.{list_all, list_any}
use Rattle.land_core.specs.Grants.{grants_in}
use Rattle.land_core.specs.Register.{has_single_party, is_single}
use Rattle.land_core.specs.Soundness.{has_dangling_grant}
use Rattle.land_core.specs.declared.roles.Grant.{Grant}
use Rattle.land_tables_history.proofs.Distinct.{distinct_standing}
use Rattle.land_tables_history.proofs.Entered.{made_roles}
use Rattle.land_tables_history.proofs.NamingTests.{any_standing}
use Rattle.land_tables_history.proofs.Proper.{AllProper, all_proper}
use Rattle.land_tables_history.specs.History.{register_of_history}
use Rattle.land_tables_history.specs.Intervals.{AreApart, has_intervals, is_interval, is_same_grant}
use Rattle.land_tables_history.specs.Standing.{roles_at, current_values, is_current}
use Rattle.land_tables_history.specs.declared.history.History.{History}
use Rattle.land_tables_history.specs.declared.moment.Moment.{Moment}
use Rattle.land_tables_history.specs.declared.version.Version.{Version}
use Rattle.land_tables_validity.proofs.Covers.{any_alike, pieces_begin, stood_by}
use Rattle.land_tables_validity.proofs.Passing.{intervals_among, passes_at}
use Rattle.land_tables_validity.proofs.References.{by_way_of, covered_at_stamps, fails, is_there, never_by}
use Rattle.land_tables_validity.specs.Never.{Never}
use Rattle.land_tables_validity.specs.CoverageSpans.{are_in_range, coverage_spans}
use Rattle.land_tables_validity.specs.Roles.{is_of_single, single_parties}
use Rattle.land_tables_history.specs.Sweeps.Cover.{IsCovered}
use Rattle.land_tables_history.specs.declared.sweeps.cover.CoverageSpan.{CoverageSpan}

-- some current role passes a test
pub some_role : (p : Grant → Bool) (t : ℤ) (vs : List (Version Grant)) → AreApart is_same_grant vs
    → list_any p (grants_in (roles_at t vs)) ≡ list_any (λ v. is_current t v && p v.what) vs
some_role p t vs apart =
    let entered = made_roles (current_values t vs) (distinct_standing is_same_grant t vs apart) in
    sym (list_any-IsPermutation p (current_values t vs) (grants_in (roles_at t vs)) entered) ∙ sym (any_standing t p vs)

-- the party that holds a role
abbrev holder_of : Grant → ℕ
holder_of grant = grant.party

-- single parties are provided, and holders of roles are required
abbrev pub role_pieces : History → List CoverageSpan
role_pieces h = coverage_spans (λ e. e.0) (single_parties h.parties) holder_of h.roles

module _ (moments : List Moment) (h : History) (p : AllProper moments h) where
  -- a single party of this number exists
  pub single_at : (m : Moment) (n : ℕ)
      → has_single_party (register_of_history m.stamp h m.next) n ≡ stood_by (λ e. e.0) (single_parties h.parties) n m.stamp
  single_at m n = passes_at (λ party. is_single party.kind) m.stamp h.parties p.parties.apart n

  pub singles_are_intervals : list_all (is_interval moments) (single_parties h.parties) ≡ true
  singles_are_intervals = intervals_among moments is_of_single h.parties p.parties.intervals

  abbrev is_single_there : ℤ → Grant → Bool
  is_single_there = is_there (λ e. e.0) (single_parties h.parties) holder_of

  loose_at : (m : Moment) → has_dangling_grant (register_of_history m.stamp h m.next) ≡ fails is_single_there h.roles m.stamp
  loose_at m =
      some_role (λ grant. not (has_single_party (register_of_history m.stamp h m.next) grant.party)) m.stamp h.roles p.roles.apart
      ∙ any_alike (λ v. is_current m.stamp v && not (has_single_party (register_of_history m.stamp h m.next) v.what.party))
      (λ v. is_current m.stamp v && not (is_single_there m.stamp v.what))
      (λ v. ap (λ b. is_current m.stamp v && not b) (single_at m v.what.party)) h.roles

  refer : are_in_range moments ≡ true → IsCovered (role_pieces h) ↔ Never has_dangling_grant moments h
  refer in_time =
      by_way_of
      (covered_at_stamps (λ e. e.0) (single_parties h.parties) holder_of moments in_time h.roles singles_are_intervals p.roles.intervals)
      (never_by has_dangling_grant h is_single_there h.roles loose_at moments)

-- single parties exist throughout their roles if and only if they do at each stamp
pub roles_refer : (moments : List Moment) (h : History) → has_intervals moments h ≡ true → are_in_range moments ≡ true → (a : Bool)
    → (a ≡ true) ↔ IsCovered (role_pieces h) → (a ≡ true) ↔ Never has_dangling_grant moments h
roles_refer moments h intervals in_time a swept = by_way_of swept (refer moments h (all_proper moments h intervals) in_time)

pub roles_begin : (moments : List Moment) (h : History) → has_intervals moments h ≡ true
    → list_all (λ x. int_lt x.since x.until) (role_pieces h) ≡ true
roles_begin moments h intervals =
    let p = all_proper moments h intervals in
    pieces_begin moments (λ e. e.0) (single_parties h.parties) holder_of h.roles (singles_are_intervals moments h p) p.roles.intervals
