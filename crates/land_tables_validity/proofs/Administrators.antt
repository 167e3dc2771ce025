-- There is a state administrator at each commit.
use Rattle.std.proofs.Common.{◌≡◌, ◌↔◌, inl, inr, ◌==◌, ◌++◌, ℕ, Bool, true, not, ◌&&◌, List, [], ◌∷◌, map as map_list, refl, sym, ap, subst, ◌∙◌, append-nil, arith}
use Rattle.std.specs.Prelude.{ℤ, pos, ◌+ℤ◌, int_le, int_lt, slice_index_or}
use Rattle.std.proofs.lemmas.Bool.{false≢true, and_from, and_parts, eqb-true, not-false, or_cases, or_left, or_right}
use Rattle.std.proofs.lemmas.Int.{ints}
use Rattle.std.proofs.lemmas.List.Elements.{All-from_recursion, recursion_from_All}
use Rattle.std.proofs.lemmas.List.Folds.{list_all-append}
use Rattle.std.specs.List.{AllByRecursion, list_all}
use Rattle.land_core.specs.Role.{is_role}
use Rattle.land_core.specs.Soundness.{has_administrator}
use Rattle.land_core.specs.declared.role.Role.TheVariants.{StateAdministrator}
use Rattle.land_core.specs.declared.roles.Grant.{Grant}
use Rattle.land_tables_history.proofs.Proper.{all_proper}
use Rattle.land_tables_history.specs.History.{register_of_history}
use Rattle.land_tables_history.specs.Intervals.{has_intervals}
use Rattle.land_tables_history.specs.Standing.{is_current}
use Rattle.land_tables_history.specs.declared.history.History.{History}
use Rattle.land_tables_history.specs.declared.moment.Moment.{Moment}
use Rattle.land_tables_history.specs.declared.version.Version.{Version}
use Rattle.land_tables_validity.specs.Administrator.{administrators, required_instants, instant, is_of_administrator, provided_administrators}
use Rattle.land_tables_validity.proofs.Covers.{covered_iff, pieces_begin, stood_by}
use Rattle.land_tables_validity.proofs.Passing.{intervals_among, stood_among}
use Rattle.land_tables_validity.proofs.References.{by_way_of}
use Rattle.land_tables_validity.proofs.RoleHolders.{some_role}
use Rattle.land_tables_validity.specs.Never.{Never}
use Rattle.land_tables_history.specs.Sweeps.Cover.{IsCovered}
use Rattle.land_tables_history.specs.declared.sweeps.cover.CoverageSpan.{CoverageSpan}

-- ---- one stamp

stands_then : (s : ℤ) → (int_le s s && int_lt s (s +ℤ pos 1)) ≡ true
stands_then s = grind (arith, ints)

stands_only_then : (s t : ℤ) → (int_le s t && int_lt t (s +ℤ pos 1)) ≡ true → s ≡ t
stands_only_then s t h = let parts = and_parts (int_le s t) (int_lt t (s +ℤ pos 1)) h in omega (arith, ints, parts.0, parts.1)

ends_later : (s : ℤ) → int_lt s (s +ℤ pos 1) ≡ true
ends_later s = grind (arith, ints)

module _ (roles : List (Version Grant)) where
  -- some party is state administrator at a moment
  abbrev is_administered : ℤ → Bool
  is_administered t = stood_by (λ r. 0) (administrators roles) 0 t

  at_each_stamp : (ms : List Moment)
      → ((a : ℕ) (t : ℤ) → stood_by (λ m. 0) (map_list instant ms) a t ≡ true → stood_by (λ r. 0) (administrators roles) a t ≡ true)
      → AllByRecursion (λ m. is_administered m.stamp ≡ true) ms
  at_each_stamp [] h = tt
  at_each_stamp (m ∷ ms) h = (
    h 0 m.stamp
        (or_left (is_current m.stamp (instant m) && (0 == 0)) (stood_by (λ m. 0) (map_list instant ms) 0 m.stamp)
        (and_from (is_current m.stamp (instant m)) (0 == 0) (stands_then m.stamp) refl)),
    at_each_stamp ms (λ a t s. h a t (or_right (is_current t (instant m) && (0 == a)) (stood_by (λ m. 0) (map_list instant ms) a t) s)),
  )

  whenever_asked : (ms : List Moment) → AllByRecursion (λ m. is_administered m.stamp ≡ true) ms
      → (a : ℕ) (t : ℤ) → stood_by (λ m. 0) (map_list instant ms) a t ≡ true → stood_by (λ r. 0) (administrators roles) a t ≡ true
  whenever_asked [] all a t s = absurd (false≢true s)
  whenever_asked (m ∷ ms) all a t s = elim (or_cases (is_current t (instant m) && (0 == a)) (stood_by (λ m. 0) (map_list instant ms) a t) s) [
    | inl here ↦ let it = and_parts (is_current t (instant m)) (0 == a) here in
        subst (λ (n : ℕ). stood_by (λ r. 0) (administrators roles) n t ≡ true) (eqb-true 0 a it.1)
        (subst (λ (u : ℤ). is_administered u ≡ true) (stands_only_then m.stamp t it.0) all.0)
    | inr later ↦ whenever_asked ms all.1 a t later
  ]

-- state administrators are provided, and each commit requires one
abbrev pub administrator_pieces : List (Version Grant) → List Moment → List CoverageSpan
administrator_pieces roles moments = provided_administrators roles ++ required_instants moments

instants_begin : (ms : List Moment) → list_all (λ x. int_lt x.since x.until) (required_instants ms) ≡ true
instants_begin [] = refl
instants_begin (m ∷ ms) =
    and_from (int_lt m.stamp (m.stamp +ℤ pos 1)) (list_all (λ x. int_lt x.since x.until) (required_instants ms)) (ends_later m.stamp)
    (instants_begin ms)

module _ (moments : List Moment) (h : History) (intervals : has_intervals moments h ≡ true) where
  administered_at : (m : Moment) → has_administrator (register_of_history m.stamp h m.next) ≡ is_administered h.roles m.stamp
  administered_at m =
      some_role (λ grant. is_role grant.role StateAdministrator) m.stamp h.roles (all_proper moments h intervals).roles.apart
      ∙ sym (stood_among (λ r. 0) (λ grant. is_role grant.role StateAdministrator) 0 m.stamp h.roles)

  at_all_stamps : AllByRecursion (λ m. is_administered h.roles m.stamp ≡ true) moments ↔ Never (λ r. not (has_administrator r)) moments h
  at_all_stamps = (
    λ each k d i.
        let all = All-from_recursion (λ m. is_administered h.roles m.stamp ≡ true) moments each in
        ap not (administered_at (slice_index_or moments k d) ∙ all k d i),
    λ never. recursion_from_All (λ m. is_administered h.roles m.stamp ≡ true) moments (λ k d i.
        let m = slice_index_or moments k d in
        sym (administered_at m) ∙ not-false (has_administrator (register_of_history m.stamp h m.next)) (never k d i)),
  )

  -- each commit has a state administrator if and only if the required moments are provided
  pub administered : (a : Bool) → (a ≡ true) ↔ IsCovered (administrator_pieces h.roles moments)
      → (a ≡ true) ↔ Never (λ r. not (has_administrator r)) moments h
  administered a swept =
      by_way_of swept
      (by_way_of (covered_iff (λ r. 0) (administrators h.roles) (λ m. 0) (map_list instant moments))
      (by_way_of (at_each_stamp h.roles moments, whenever_asked h.roles moments) at_all_stamps))

  pub administrators_begin : list_all (λ x. int_lt x.since x.until) (administrator_pieces h.roles moments) ≡ true
  administrators_begin =
      let offers = provided_administrators h.roles in
      let roles = intervals_among moments is_of_administrator h.roles (all_proper moments h intervals).roles.intervals in
      let nonempty = pieces_begin moments (λ r. 0) (administrators h.roles) (λ (m : Moment). 0) [] roles refl in
      list_all-append (λ (x : CoverageSpan). int_lt x.since x.until) offers (required_instants moments)
      ∙ and_from (list_all (λ x. int_lt x.since x.until) offers) (list_all (λ x. int_lt x.since x.until) (required_instants moments))
      (subst (λ (l : List CoverageSpan). list_all (λ x. int_lt x.since x.until) l ≡ true) (append-nil offers) nonempty) (instants_begin moments)
