-- The current values of versions with a change: before its stamp the same as before, and from then on the
-- inserted ones, and of the others those that do not end.
use Rattle.std.proofs.Common.{◌≡◌, Bool, true, false, cond, not, ◌&&◌, ◌||◌, List, [], ◌∷◌, ◌++◌, filter, map as map_list, refl, sym, ap, ◌∙◌, arith}
use Rattle.std.specs.Prelude.{ℤ, ◌<ℤ◌, ◌≤ℤ◌, int_le, int_lt}
use Rattle.std.specs.List.{list_all}
use Rattle.std.specs.Ordering.{int_eq}
use Rattle.std.proofs.lemmas.Bool.Decides.{Decides-int_eq}
use Rattle.std.proofs.lemmas.Int.{ints}
use Rattle.std.proofs.lemmas.Bool.{and_parts}
use Rattle.std.proofs.lemmas.Cmp.{int_eq_equiv}
use Rattle.land_core.proofs.Booleans.{and_false, or_true}
use Rattle.land_tables_history.proofs.MomentOrder.{le_from, le_true}
use Rattle.land_tables_history.specs.Changed.{opened_version, changed_versions, closed_version}
use Rattle.land_tables_history.specs.Open.{has_ended, never}
use Rattle.land_tables_history.specs.Standing.{current_values, is_current}
use Rattle.land_tables_history.specs.declared.version.Version.{Version}

le_false : (a b : ℤ) → b <ℤ a → int_le a b ≡ false
le_false a b h = grind (arith, ints)

lt_true : (a b : ℤ) → a <ℤ b → int_lt a b ≡ true
lt_true a b h = grind (arith, ints)

lt_false : (a b : ℤ) → b ≤ℤ a → int_lt a b ≡ false
lt_false a b h = grind (arith, ints)

later : (a b c : ℤ) → a ≤ℤ b → b <ℤ c → a ≤ℤ c
later a b c p q = omega (arith, ints)

before : (a b c d : ℤ) → a ≤ℤ b → b <ℤ c → c ≤ℤ d → a ≤ℤ d
before a b c d p q r = omega (arith, ints)

same_end : (a b : ℤ) → int_eq a b ≡ true → a ≡ b
same_end a b e = (Decides-int_eq a b).0 e

module _ {X : Type 0} where
  pub current_values-append : (t : ℤ) (vs ws : List (Version X)) → current_values t (vs ++ ws) ≡ current_values t vs ++ current_values t ws
  current_values-append t [] ws = refl
  current_values-append t (v ∷ vs) ws = go (is_current t v) (current_values-append t vs ws)
    where
      go : (b : Bool) → current_values t (vs ++ ws) ≡ current_values t vs ++ current_values t ws
          → map_list (λ v. v.what) (cond b (v ∷ filter (is_current t) (vs ++ ws)) (filter (is_current t) (vs ++ ws)))
          ≡ map_list (λ v. v.what) (cond b (v ∷ filter (is_current t) vs) (filter (is_current t) vs)) ++ current_values t ws
      go true h = ap (λ l. v.what ∷ l) h
      go false h = h

  -- of a version and others: it is the first current one, or it is not current
  one_stands : (t : ℤ) (v : Version X) (vs : List (Version X)) → current_values t (v ∷ vs) ≡ cond (is_current t v) (v.what ∷ current_values t vs) (current_values t vs)
  one_stands t v vs = elim (is_current t v) as (λ b. map_list (λ v. v.what) (cond b (v ∷ filter (is_current t) vs) (filter (is_current t) vs)) ≡ cond b (v.what ∷ current_values t vs) (current_values t vs)) [ true ↦ refl | false ↦ refl ]

  module _ (put : List X) (meant : X → Bool) (stamp : ℤ) where
    -- ---- before the stamp

    none_begun : (t : ℤ) → t <ℤ stamp → (xs : List X) → current_values t (map_list (λ x. opened_version x stamp) xs) ≡ []
    none_begun t less [] = refl
    none_begun t less (x ∷ xs) =
        one_stands t (opened_version x stamp) (map_list (λ x. opened_version x stamp) xs)
        ∙ ap (λ b. cond (b && int_lt t never) (x ∷ current_values t (map_list (λ x. opened_version x stamp) xs)) (current_values t (map_list (λ x. opened_version x stamp) xs))) (le_false stamp t less)
        ∙ none_begun t less xs

    closed_what : (v : Version X) → (closed_version meant stamp v).what ≡ v.what
    closed_what v = elim (meant v.what && int_eq v.until never) as (λ b. (cond b (record v { until = stamp }) v).what ≡ v.what) [ true ↦ refl | false ↦ refl ]

    closed_stood : (t : ℤ) → t <ℤ stamp → t <ℤ never → (v : Version X) → is_current t (closed_version meant stamp v) ≡ is_current t v
    closed_stood t less early v = go (meant v.what && int_eq v.until never) refl
      where
        go : (b : Bool) → (meant v.what && int_eq v.until never) ≡ b → is_current t (cond b (record v { until = stamp }) v) ≡ is_current t v
        go true e =
            let ends : v.until ≡ never = same_end v.until never (and_parts (meant v.what) (int_eq v.until never) e).1 in
            ap (λ b. int_le v.since t && b) (lt_true t stamp less ∙ sym (lt_true t never early) ∙ ap (int_lt t) (sym ends))
        go false e = refl

    closed_past : (t : ℤ) → t <ℤ stamp → t <ℤ never → (vs : List (Version X)) → current_values t (map_list (closed_version meant stamp) vs) ≡ current_values t vs
    closed_past t less early [] = refl
    closed_past t less early (v ∷ vs) =
        one_stands t (closed_version meant stamp v) (map_list (closed_version meant stamp) vs)
        ∙ ap (λ b. cond b ((closed_version meant stamp v).what ∷ current_values t (map_list (closed_version meant stamp) vs)) (current_values t (map_list (closed_version meant stamp) vs))) (closed_stood t less early v)
        ∙ ap (λ x. cond (is_current t v) (x ∷ current_values t (map_list (closed_version meant stamp) vs)) (current_values t (map_list (closed_version meant stamp) vs))) (closed_what v)
        ∙ ap (λ l. cond (is_current t v) (v.what ∷ l) l) (closed_past t less early vs)
        ∙ sym (one_stands t v vs)

    pub past_versions : (t : ℤ) → t <ℤ stamp → t <ℤ never → (vs : List (Version X)) → current_values t (changed_versions put meant stamp vs) ≡ current_values t vs
    past_versions t less early vs =
        current_values-append t (map_list (λ x. opened_version x stamp) put) (map_list (closed_version meant stamp) vs)
        ∙ ap (λ l. l ++ current_values t (map_list (closed_version meant stamp) vs)) (none_begun t less put) ∙ closed_past t less early vs

    -- ---- from the stamp on

    all_begun : (t : ℤ) → stamp ≤ℤ t → t <ℤ never → (xs : List X) → current_values t (map_list (λ x. opened_version x stamp) xs) ≡ xs
    all_begun t since early [] = refl
    all_begun t since early (x ∷ xs) =
        one_stands t (opened_version x stamp) (map_list (λ x. opened_version x stamp) xs)
        ∙ ap (λ b. cond (b && int_lt t never) (x ∷ current_values t (map_list (λ x. opened_version x stamp) xs)) (current_values t (map_list (λ x. opened_version x stamp) xs))) (le_true stamp t since)
        ∙ ap (λ b. cond b (x ∷ current_values t (map_list (λ x. opened_version x stamp) xs)) (current_values t (map_list (λ x. opened_version x stamp) xs))) (lt_true t never early)
        ∙ ap (λ l. x ∷ l) (all_begun t since early xs)

    module _ (last t : ℤ) (less : last <ℤ stamp) (since : stamp ≤ℤ t) where
      -- an ended version is not current any more
      none_meant : (v : Version X) → has_ended last v ≡ true → meant v.what ≡ true → is_current t (closed_version meant stamp v) ≡ false
      none_meant v ended is = go (int_eq v.until never) refl
        where
          go : (b : Bool) → int_eq v.until never ≡ b → is_current t (closed_version meant stamp v) ≡ false
          go true e =
              ap (λ b. is_current t (cond (b && int_eq v.until never) (record v { until = stamp }) v)) is
              ∙ ap (λ b. is_current t (cond b (record v { until = stamp }) v)) e
              ∙ ap (λ b. int_le v.since t && b) (lt_false t stamp since) ∙ and_false (int_le v.since t)
          go false e =
              let by_last : v.until ≤ℤ last = le_from v.until last (sym (ap (λ b. b || int_le v.until last) e) ∙ ended) in
              ap (λ b. is_current t (cond (b && int_eq v.until never) (record v { until = stamp }) v)) is
              ∙ ap (λ b. is_current t (cond b (record v { until = stamp }) v)) e
              ∙ ap (λ b. int_le v.since t && b) (lt_false t v.until (before v.until last stamp t by_last less since)) ∙ and_false (int_le v.since t)

      closed_on : (vs : List (Version X)) → list_all (has_ended last) vs ≡ true → current_values t (map_list (closed_version meant stamp) vs) ≡ filter (λ x. not (meant x)) (current_values t vs)
      closed_on [] ended = refl
      closed_on (v ∷ vs) ended =
          let both = and_parts (has_ended last v) (list_all (has_ended last) vs) ended in
          one_stands t (closed_version meant stamp v) (map_list (closed_version meant stamp) vs)
          ∙ go (meant v.what) refl both.0 (closed_on vs both.1)
          ∙ ap (filter (λ x. not (meant x))) (sym (one_stands t v vs))
        where
          go : (b : Bool) → meant v.what ≡ b → has_ended last v ≡ true → current_values t (map_list (closed_version meant stamp) vs) ≡ filter (λ x. not (meant x)) (current_values t vs)
              → cond (is_current t (closed_version meant stamp v)) ((closed_version meant stamp v).what ∷ current_values t (map_list (closed_version meant stamp) vs)) (current_values t (map_list (closed_version meant stamp) vs))
              ≡ filter (λ x. not (meant x)) (cond (is_current t v) (v.what ∷ current_values t vs) (current_values t vs))
          go true is one rest =
              ap (λ b. cond b ((closed_version meant stamp v).what ∷ current_values t (map_list (closed_version meant stamp) vs)) (current_values t (map_list (closed_version meant stamp) vs))) (none_meant v one is)
              ∙ rest ∙ dropped (is_current t v)
            where
              dropped : (b : Bool) → filter (λ x. not (meant x)) (current_values t vs) ≡ filter (λ x. not (meant x)) (cond b (v.what ∷ current_values t vs) (current_values t vs))
              dropped true = ap (λ b. cond (not b) (v.what ∷ filter (λ x. not (meant x)) (current_values t vs)) (filter (λ x. not (meant x)) (current_values t vs))) (sym is)
              dropped false = refl
          go false is one rest =
              ap (λ b. let w : Version X = cond (b && int_eq v.until never) (record v { until = stamp }) v in
              cond (is_current t w) (w.what ∷ current_values t (map_list (closed_version meant stamp) vs)) (current_values t (map_list (closed_version meant stamp) vs))) is
              ∙ ap (λ l. cond (is_current t v) (v.what ∷ l) l) rest ∙ kept (is_current t v)
            where
              kept : (b : Bool) → cond b (v.what ∷ filter (λ x. not (meant x)) (current_values t vs)) (filter (λ x. not (meant x)) (current_values t vs))
                  ≡ filter (λ x. not (meant x)) (cond b (v.what ∷ current_values t vs) (current_values t vs))
              kept true = ap (λ b. cond (not b) (v.what ∷ filter (λ x. not (meant x)) (current_values t vs)) (filter (λ x. not (meant x)) (current_values t vs))) (sym is)
              kept false = refl

      pub changed_stand : t <ℤ never → (vs : List (Version X)) → list_all (has_ended last) vs ≡ true
          → current_values t (changed_versions put meant stamp vs) ≡ put ++ filter (λ x. not (meant x)) (current_values t vs)
      changed_stand early vs ended =
          current_values-append t (map_list (λ x. opened_version x stamp) put) (map_list (closed_version meant stamp) vs)
          ∙ ap (λ l. l ++ current_values t (map_list (closed_version meant stamp) vs)) (all_begun t since early put)
          ∙ ap (λ l. put ++ l) (closed_on vs ended)

    -- ---- the ends

    list_all-append : {Y : Type 0} (p : Y → Bool) (xs ys : List Y) → list_all p xs ≡ true → list_all p ys ≡ true → list_all p (xs ++ ys) ≡ true
    list_all-append p [] ys h k = k
    list_all-append p (x ∷ xs) ys h k = let both = and_parts (p x) (list_all p xs) h in ap (λ b. b && list_all p (xs ++ ys)) both.0 ∙ list_all-append p xs ys both.1 k

    begun_end : (xs : List X) → list_all (has_ended stamp) (map_list (λ x. opened_version x stamp) xs) ≡ true
    begun_end [] = refl
    begun_end (x ∷ xs) = ap (λ b. (b || int_le never stamp) && list_all (has_ended stamp) (map_list (λ x. opened_version x stamp) xs)) (int_eq_equiv.refl never) ∙ begun_end xs

    one_ends : (last : ℤ) → last <ℤ stamp → (v : Version X) → has_ended last v ≡ true → has_ended stamp (closed_version meant stamp v) ≡ true
    one_ends last less v ended = go (meant v.what && int_eq v.until never) (int_eq v.until never) refl
      where
        go : (b c : Bool) → int_eq v.until never ≡ c → has_ended stamp (cond b (record v { until = stamp }) v) ≡ true
        go true c e = ap (λ b. int_eq stamp never || b) (le_true stamp stamp (omega (arith, ints))) ∙ or_true (int_eq stamp never)
        go false true e = ap (λ b. b || int_le v.until stamp) e
        go false false e =
            let by_last : v.until ≤ℤ last = le_from v.until last (sym (ap (λ b. b || int_le v.until last) e) ∙ ended) in
            ap (λ b. int_eq v.until never || b) (le_true v.until stamp (later v.until last stamp by_last less)) ∙ or_true (int_eq v.until never)

    closed_end : (last : ℤ) → last <ℤ stamp → (vs : List (Version X)) → list_all (has_ended last) vs ≡ true → list_all (has_ended stamp) (map_list (closed_version meant stamp) vs) ≡ true
    closed_end last less [] ended = refl
    closed_end last less (v ∷ vs) ended =
        let both = and_parts (has_ended last v) (list_all (has_ended last) vs) ended in
        ap (λ b. b && list_all (has_ended stamp) (map_list (closed_version meant stamp) vs)) (one_ends last less v both.0) ∙ closed_end last less vs both.1

    pub changed_end : (last : ℤ) → last <ℤ stamp → (vs : List (Version X)) → list_all (has_ended last) vs ≡ true → list_all (has_ended stamp) (changed_versions put meant stamp vs) ≡ true
    changed_end last less vs ended = list_all-append (has_ended stamp) (map_list (λ x. opened_version x stamp) put) (map_list (closed_version meant stamp) vs) (begun_end put) (closed_end last less vs ended)
