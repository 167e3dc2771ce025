-- Versions with valid intervals stay valid with a change and its commit, if no key is current twice from then
-- on.
use Rattle.std.proofs.Common.{◌≡◌, ℕ, Bool, true, false, cond, not, ◌&&◌, ◌||◌, List, [], ◌∷◌, ◌++◌, filter, map as map_list, refl, sym, ap, ap₂, subst, ◌∙◌, arith}
use Rattle.std.specs.Prelude.{ℤ, ◌<ℤ◌, ◌≤ℤ◌, int_le, int_lt}
use Rattle.std.specs.List.{AllByRecursion, list_all, list_any}
use Rattle.std.specs.Ordering.{int_eq}
use Rattle.std.proofs.lemmas.Bool.{false≢true, and_from, and_parts, not-true}
use Rattle.std.proofs.lemmas.Bool.Decides.{Decides-int_eq}
use Rattle.std.proofs.lemmas.Int.{ints}
use Rattle.std.proofs.lemmas.Cmp.{int_eq_equiv}
use Rattle.land_core.proofs.Booleans.{or_true}
use Rattle.land_core.specs.Entries.{are_distinct}
use Rattle.land_tables_history.proofs.Entered.{distinct-map}
use Rattle.land_tables_history.proofs.KeptLists.{distinct_fewer, none_fewer}
use Rattle.land_tables_history.proofs.MomentOrder.{le_then_lt, le_true, lt_is_le, lt_through}
use Rattle.land_tables_history.proofs.NamingTests.{any_standing}
use Rattle.land_tables_history.proofs.Proper.{Proper}
use Rattle.land_tables_history.specs.Changed.{opened_version, changed_versions, closed_version}
use Rattle.land_tables_history.specs.Intervals.{are_intervals, is_interval, is_stamp, overlap}
use Rattle.land_tables_history.specs.Open.{has_ended, never}
use Rattle.land_tables_history.specs.Standing.{current_values, is_current}
use Rattle.land_tables_history.specs.declared.moment.Moment.{Moment}
use Rattle.land_tables_history.specs.declared.version.Version.{Version}

lt_true : (a b : ℤ) → a <ℤ b → int_lt a b ≡ true
lt_true a b h = grind (arith, ints)

lt_false : (a b : ℤ) → b ≤ℤ a → int_lt a b ≡ false
lt_false a b h = grind (arith, ints)

lt_from : (a b : ℤ) → int_lt a b ≡ true → a <ℤ b
lt_from a b h = grind (arith, ints)

least : (a b : ℤ) → a ≡ b → b ≤ℤ a
least a b e = omega (arith, ints)

equal : (a b : ℤ) → int_eq a b ≡ true → a ≡ b
equal a b e = (Decides-int_eq a b).0 e

-- a stamp of these commits is not later than the last one
stamp_by : (last t : ℤ) (moments : List Moment) → AllByRecursion (λ (m : Moment). m.stamp ≤ℤ last) moments
    → is_stamp moments t ≡ true → t ≤ℤ last
stamp_by last t [] by is = absurd (false≢true is)
stamp_by last t (m ∷ ms) by is = go (int_eq m.stamp t) refl is (stamp_by last t ms by.1)
  where
    go : (b : Bool) → int_eq m.stamp t ≡ b → (b || is_stamp ms t) ≡ true → (is_stamp ms t ≡ true → t ≤ℤ last) → t ≤ℤ last
    go true e h rest = subst (λ u. u ≤ℤ last) (equal m.stamp t e) by.0
    go false e h rest = rest h

-- of a version and others: it is the first current one, or it is not current
one_stands : {X : Type 0} (t : ℤ) (v : Version X) (vs : List (Version X))
    → current_values t (v ∷ vs) ≡ cond (is_current t v) (v.what ∷ current_values t vs) (current_values t vs)
one_stands t v vs =
    elim (is_current t v) as (λ b. map_list (λ v. v.what) (cond b (v ∷ filter (is_current t) vs) (filter (is_current t) vs)) ≡ cond b (v.what ∷ current_values t vs) (current_values t vs)) [
      | true ↦ refl
      | false ↦ refl
    ]

-- the definition of an interval
record IsFit {X : Type 0} (moments : List Moment) (v : Version X) : Type 0 where
  rises : int_lt v.since v.until ≡ true
  begins : is_stamp moments v.since ≡ true
  ends : (int_eq v.until never || is_stamp moments v.until) ≡ true

fit : {X : Type 0} (moments : List Moment) (v : Version X) → is_interval moments v ≡ true → IsFit moments v
fit moments v h =
    let two = and_parts (int_lt v.since v.until && is_stamp moments v.since) (int_eq v.until never || is_stamp moments v.until) h in
    let one = and_parts (int_lt v.since v.until) (is_stamp moments v.since) two.0 in
    record { rises = one.0; begins = one.1; ends = two.1 }

module _ (moments : List Moment) (last : ℤ) (by : AllByRecursion (λ (m : Moment). m.stamp ≤ℤ last) moments) where
  -- ---- up to the last stamp

  ends_by : {X : Type 0} (v : Version X) → is_interval moments v ≡ true → has_ended last v ≡ true
  ends_by v h = go (int_eq v.until never) (fit moments v h).ends
    where
      go : (b : Bool) → (b || is_stamp moments v.until) ≡ true → (b || int_le v.until last) ≡ true
      go true h = refl
      go false h = le_true v.until last (stamp_by last v.until moments by h)

  pub all_end_by : {X : Type 0} (vs : List (Version X)) → list_all (is_interval moments) vs ≡ true → list_all (has_ended last) vs ≡ true
  all_end_by [] h = refl
  all_end_by (v ∷ vs) h =
      let parts = and_parts (is_interval moments v) (list_all (is_interval moments) vs) h in
      and_from (has_ended last v) (list_all (has_ended last) vs) (ends_by v parts.0) (all_end_by vs parts.1)

  -- a version that has no end is current at the last stamp
  pub open_stands : {X : Type 0} (v : Version X) → last <ℤ never → is_interval moments v ≡ true → int_eq v.until never ≡ true → is_current last v ≡ true
  open_stands v early h no_end =
      and_from (int_le v.since last) (int_lt last v.until) (le_true v.since last (stamp_by last v.since moments by (fit moments v h).begins))
      (ap (int_lt last) (equal v.until never no_end) ∙ lt_true last never early)

  module _ (stamp : ℤ) (less : last <ℤ stamp) (early : stamp <ℤ never) where
    -- ---- versions that are current at the last stamp stay current until the next

    stands_still : {X : Type 0} (v : Version X) → is_interval moments v ≡ true → is_current stamp v ≡ is_current last v
    stands_still v h =
        let it = fit moments v h in
        let since : v.since ≤ℤ last = stamp_by last v.since moments by it.begins in
        ap₂ (λ a b. a && b)
        (le_true v.since stamp (lt_is_le v.since stamp (le_then_lt v.since last stamp since less)) ∙ sym (le_true v.since last since))
        (go (int_eq v.until never) refl it.ends)
      where
        go : (b : Bool) → int_eq v.until never ≡ b → (b || is_stamp moments v.until) ≡ true → int_lt stamp v.until ≡ int_lt last v.until
        go true e h =
            ap (int_lt stamp) (equal v.until never e) ∙ lt_true stamp never early
            ∙ sym (ap (int_lt last) (equal v.until never e) ∙ lt_true last never (lt_through last stamp never less early))
        go false e h =
            let until : v.until ≤ℤ last = stamp_by last v.until moments by h in
            lt_false stamp v.until (lt_is_le v.until stamp (le_then_lt v.until last stamp until less)) ∙ sym (lt_false last v.until until)

    pub standing_still : {X : Type 0} (vs : List (Version X)) → list_all (is_interval moments) vs ≡ true
        → current_values stamp vs ≡ current_values last vs
    standing_still [] h = refl
    standing_still (v ∷ vs) h =
        let parts = and_parts (is_interval moments v) (list_all (is_interval moments) vs) h in
        one_stands stamp v vs
        ∙ ap (λ b. cond b (v.what ∷ current_values stamp vs) (current_values stamp vs)) (stands_still v parts.0)
        ∙ ap (λ l. cond (is_current last v) (v.what ∷ l) l) (standing_still vs parts.1)
        ∙ sym (one_stands last v vs)

    module _ (next : ℕ) where
      abbrev more : List Moment
      more = record { stamp = stamp; next = next } ∷ moments

      -- ---- each lifespan

      one_more : (t : ℤ) → is_stamp moments t ≡ true → is_stamp more t ≡ true
      one_more t h = ap (λ b. int_eq stamp t || b) h ∙ or_true (int_eq stamp t)

      the_stamp : is_stamp more stamp ≡ true
      the_stamp = ap (λ b. b || is_stamp moments stamp) (int_eq_equiv.refl stamp)

      -- a stamp of these is not later than the new one
      by_now : (t : ℤ) → is_stamp more t ≡ true → t ≤ℤ stamp
      by_now t h = go (int_eq stamp t) refl h
        where
          go : (b : Bool) → int_eq stamp t ≡ b → (b || is_stamp moments t) ≡ true → t ≤ℤ stamp
          go true e h = least stamp t (equal stamp t e)
          go false e h = lt_is_le t stamp (le_then_lt t last stamp (stamp_by last t moments by h) less)

      begun_fits : {X : Type 0} (x : X) → is_interval more (opened_version x stamp) ≡ true
      begun_fits x =
          and_from (int_lt stamp never && is_stamp more stamp) (int_eq never never || is_stamp more never)
          (and_from (int_lt stamp never) (is_stamp more stamp) (lt_true stamp never early) the_stamp)
          (ap (λ b. b || is_stamp more never) (int_eq_equiv.refl never))

      still_fits : {X : Type 0} (v : Version X) → is_interval moments v ≡ true → is_interval more v ≡ true
      still_fits v h =
          let it = fit moments v h in
          and_from (int_lt v.since v.until && is_stamp more v.since) (int_eq v.until never || is_stamp more v.until)
          (and_from (int_lt v.since v.until) (is_stamp more v.since) it.rises (one_more v.since it.begins)) (go (int_eq v.until never) it.ends)
        where
          go : (b : Bool) → (b || is_stamp moments v.until) ≡ true → (b || is_stamp more v.until) ≡ true
          go true h = refl
          go false h = one_more v.until h

      closed_fits : {X : Type 0} (meant : X → Bool) (v : Version X) → is_interval moments v ≡ true
          → is_interval more (closed_version meant stamp v) ≡ true
      closed_fits {X} meant v h = go (meant v.what && int_eq v.until never)
        where
          ended : Version X
          ended = record v { until = stamp }

          go : (b : Bool) → is_interval more (cond b (record v { until = stamp }) v) ≡ true
          go true =
              let begins = (fit moments v h).begins in
              and_from (int_lt v.since stamp && is_stamp more v.since) (int_eq stamp never || is_stamp more stamp)
              (and_from (int_lt v.since stamp) (is_stamp more v.since)
              (lt_true v.since stamp (le_then_lt v.since last stamp (stamp_by last v.since moments by begins) less)) (one_more v.since begins))
              (ap (λ b. int_eq stamp never || b) the_stamp ∙ or_true (int_eq stamp never))
          go false = still_fits v h

      all_closed_fit : {X : Type 0} (meant : X → Bool) (vs : List (Version X)) → list_all (is_interval moments) vs ≡ true
          → list_all (is_interval more) (map_list (closed_version meant stamp) vs) ≡ true
      all_closed_fit meant [] h = refl
      all_closed_fit meant (v ∷ vs) h =
          let parts = and_parts (is_interval moments v) (list_all (is_interval moments) vs) h in
          and_from (is_interval more (closed_version meant stamp v)) (list_all (is_interval more) (map_list (closed_version meant stamp) vs))
          (closed_fits meant v parts.0) (all_closed_fit meant vs parts.1)

      -- a new version fits before others that fit
      all_fit : {X : Type 0} (put : List X) (vs : List (Version X)) → list_all (is_interval more) vs ≡ true
          → list_all (is_interval more) (map_list (λ x. opened_version x stamp) put ++ vs) ≡ true
      all_fit [] vs h = h
      all_fit (x ∷ put) vs h =
          and_from (is_interval more (opened_version x stamp)) (list_all (is_interval more) (map_list (λ x. opened_version x stamp) put ++ vs))
          (begun_fits x) (all_fit put vs h)

      -- ---- two lifespans

      module _ {X : Type 0} (same : X → X → Bool) where
        -- a lifespan that overlaps a new one is current at the stamp
        meets : (x : X) (vs : List (Version X)) → list_all (is_interval more) vs ≡ true
            → AllByRecursion (λ v. overlap same (opened_version x stamp) v ≡ true → (is_current stamp v && same x v.what) ≡ true) vs
        meets x [] h = tt
        meets x (v ∷ vs) h =
            let parts = and_parts (is_interval more v) (list_all (is_interval more) vs) h in
            (one parts.0, meets x vs parts.1)
          where
            one : is_interval more v ≡ true → overlap same (opened_version x stamp) v ≡ true → (is_current stamp v && same x v.what) ≡ true
            one fits meet =
                let two = and_parts (same x v.what && int_lt stamp v.until) (int_lt v.since never) meet in
                let of_key = and_parts (same x v.what) (int_lt stamp v.until) two.0 in
                and_from (is_current stamp v) (same x v.what)
                (and_from (int_le v.since stamp) (int_lt stamp v.until) (le_true v.since stamp (by_now v.since (fit more v fits).begins)) of_key.1)
                of_key.0

        begun_stands : (x : X) (vs : List (Version X)) → current_values stamp (opened_version x stamp ∷ vs) ≡ x ∷ current_values stamp vs
        begun_stands x vs =
            one_stands stamp (opened_version x stamp) vs
            ∙ ap (λ b. cond b (x ∷ current_values stamp vs) (current_values stamp vs))
            (and_from (int_le stamp stamp) (int_lt stamp never) (le_true stamp stamp (least stamp stamp refl)) (lt_true stamp never early))

        -- if no key is current twice, a new version is disjoint from all others
        begun_apart : (put : List X) (vs : List (Version X)) → list_all (is_interval more) vs ≡ true → are_distinct (overlap same) vs ≡ true
            → are_distinct same (current_values stamp (map_list (λ x. opened_version x stamp) put ++ vs)) ≡ true
            → are_distinct (overlap same) (map_list (λ x. opened_version x stamp) put ++ vs) ≡ true
        begun_apart [] vs fits apart once = apart
        begun_apart (x ∷ put) vs fits apart once =
            let others : List (Version X) = map_list (λ x. opened_version x stamp) put ++ vs in
            let parts =
            and_parts (not (list_any (same x) (current_values stamp others))) (are_distinct same (current_values stamp others))
            (sym (ap (are_distinct same) (begun_stands x others)) ∙ once) in
            and_from (not (list_any (overlap same (opened_version x stamp)) others)) (are_distinct (overlap same) others)
            (ap not
            (none_fewer (overlap same (opened_version x stamp)) (λ v. is_current stamp v && same x v.what) others (meets x others (all_fit put vs fits))
            (any_standing stamp (same x) others ∙ not-true (list_any (same x) (current_values stamp others)) parts.0)))
            (begun_apart put vs fits apart parts.1)

        module _ (meant : X → Bool) where
          closed_what : (v : Version X) → (closed_version meant stamp v).what ≡ v.what
          closed_what v =
              elim (meant v.what && int_eq v.until never) as (λ b. (cond b (record v { until = stamp }) v).what ≡ v.what) [ true ↦ refl | false ↦ refl ]

          closed_since : (v : Version X) → (closed_version meant stamp v).since ≡ v.since
          closed_since v =
              elim (meant v.what && int_eq v.until never) as (λ b. (cond b (record v { until = stamp }) v).since ≡ v.since) [
                | true ↦ refl
                | false ↦ refl
              ]

          -- a closed version ends no later than before
          sooner : (t : ℤ) (v : Version X) → int_lt t (closed_version meant stamp v).until ≡ true → int_lt t v.until ≡ true
          sooner t v h = go (meant v.what && int_eq v.until never) refl h
            where
              go : (b : Bool) → (meant v.what && int_eq v.until never) ≡ b
                  → int_lt t (cond b (record v { until = stamp }) v).until ≡ true → int_lt t v.until ≡ true
              go true e h =
                  ap (int_lt t) (equal v.until never (and_parts (meant v.what) (int_eq v.until never) e).1)
                  ∙ lt_true t never (lt_through t stamp never (lt_from t stamp h) early)
              go false e h = h

          overlapped : (v w : Version X) → overlap same (closed_version meant stamp v) (closed_version meant stamp w) ≡ true → overlap same v w ≡ true
          overlapped v w h =
              let a = closed_version meant stamp v in
              let b = closed_version meant stamp w in
              let two = and_parts (same a.what b.what && int_lt a.since b.until) (int_lt b.since a.until) h in
              let one = and_parts (same a.what b.what) (int_lt a.since b.until) two.0 in
              and_from (same v.what w.what && int_lt v.since w.until) (int_lt w.since v.until)
              (and_from (same v.what w.what) (int_lt v.since w.until) (sym (ap₂ same (closed_what v) (closed_what w)) ∙ one.0)
              (sooner v.since w (sym (ap (λ t. int_lt t b.until) (closed_since v)) ∙ one.1)))
              (sooner w.since v (sym (ap (λ t. int_lt t a.until) (closed_since w)) ∙ two.1))

          closed_apart : (vs : List (Version X)) → are_distinct (overlap same) vs ≡ true
              → are_distinct (overlap same) (map_list (closed_version meant stamp) vs) ≡ true
          closed_apart vs apart =
              distinct-map (overlap same) (closed_version meant stamp) vs
              ∙ distinct_fewer (λ v w. overlap same (closed_version meant stamp v) (closed_version meant stamp w)) (overlap same) overlapped vs apart

          -- intervals stay valid if no key is current twice at the stamp of the change
          pub kept : (put : List X) (vs : List (Version X)) → Proper same moments vs
              → are_distinct same (current_values stamp (changed_versions put meant stamp vs)) ≡ true
              → are_intervals same more (changed_versions put meant stamp vs) ≡ true
          kept put vs proper once =
              let closed_ones : List (Version X) = map_list (closed_version meant stamp) vs in
              let fits = all_closed_fit meant vs proper.intervals in
              and_from (list_all (is_interval more) (changed_versions put meant stamp vs))
              (are_distinct (overlap same) (changed_versions put meant stamp vs))
              (all_fit put closed_ones fits) (begun_apart put closed_ones fits (closed_apart vs proper.apart) once)
