-- The records, roles and mandates that are current after a change.
use Rattle.std.proofs.Common.{◌≡◌, ℕ, Bool, true, false, cond, not, ◌&&◌, ◌||◌, List, [], ◌∷◌, ◌++◌, filter, map as map_list, refl, sym, ap, subst, ◌∙◌, IsPermutation}
use Rattle.std.proofs.lemmas.List.Sorted.{IsPermutation-append_right, IsPermutation-map, IsPermutation-trans}
use Rattle.std.specs.Cmp.{IsTotalOrder, nat_cmp_total, unsigned_tied}
use Rattle.std.specs.FinMap as map
use Rattle.std.specs.FinMap.{FinMap, IsAntisymmetric, nat_cmp-IsAntisymmetric}
use Rattle.std.specs.List.{list_all, list_any}
use Rattle.std.specs.Ordering.{eq_by_cmp, nat_cmp}
use Rattle.std.specs.Prelude.{ℤ, ◌<ℤ◌, ◌≤ℤ◌, nat_eq}
use Rattle.std.specs.declared.cmp.Ordering.{Ordering}
use Rattle.std.proofs.lemmas.Bool.{and_parts}
use Rattle.land_core.proofs.FiniteSets.{exact_grants, exact_mandates, grants_total, keys-set_entries, mandates_total}
use Rattle.land_core.specs.Entries.{are_distinct, with_changes}
use Rattle.land_core.specs.Grants.{Grants, grant_cmp, grants_in, set_entries}
use Rattle.land_core.specs.Mandates.{Mandates, mandate_cmp, mandates_in}
use Rattle.land_core.specs.declared.mandates.Mandate.{Mandate}
use Rattle.land_core.specs.declared.roles.Grant.{Grant}
use Rattle.land_tables_history.proofs.ChangedVersions.{changed_stand}
use Rattle.land_tables_history.proofs.Made.{changed_entries}
use Rattle.land_tables_history.proofs.Permutations.{filter_permuted}
use Rattle.land_tables_history.specs.Changed.{changed_mandates, changed_part, changed_roles, changed_versions, is_key_among, is_changed}
use Rattle.land_tables_history.specs.Open.{has_ended, never}
use Rattle.land_tables_history.specs.Standing.{AreMandatesAt, AreRolesAt, IsPartAt, current_values}
use Rattle.land_tables_history.specs.declared.version.Version.{Version}

-- numbers are equal by their order if and only if they are equal by the test
pub same_numbers : eq_by_cmp nat_cmp ≡ nat_eq
same_numbers = λ i n m. unsigned_tied n m i

pub distinct_before : {K : Type 0} (same : K → K → Bool) (xs ys : List K) → are_distinct same (xs ++ ys) ≡ true → are_distinct same xs ≡ true
distinct_before same [] ys h = refl
distinct_before {K} same (x ∷ xs) ys h =
    let both = and_parts (not (list_any (same x) (xs ++ ys))) (are_distinct same (xs ++ ys)) h in
    ap (λ b. b && are_distinct same xs) (fewer xs both.0) ∙ distinct_before same xs ys both.1
  where
    fewer : (zs : List K) → not (list_any (same x) (zs ++ ys)) ≡ true → not (list_any (same x) zs) ≡ true
    fewer [] h = refl
    fewer (z ∷ zs) h = go (same x z) h (fewer zs)
      where
        go : (b : Bool) → not (b || list_any (same x) (zs ++ ys)) ≡ true → (not (list_any (same x) (zs ++ ys)) ≡ true → not (list_any (same x) zs) ≡ true) → not (b || list_any (same x) zs) ≡ true
        go true h rest = h
        go false h rest = rest h

-- the inserted entries, and the others whose numbers are neither inserted nor ended
pub numbered_entries : {V : Type 0} (m : FinMap nat_cmp V) (put : List (ℕ × V)) (ended : List ℕ) → are_distinct nat_eq (map_list (λ e. e.0) put ++ ended) ≡ true
    → IsPermutation (put ++ filter (λ e. not (is_changed put ended e.0)) (map.entries m)) (map.entries (with_changes m put ended))
numbered_entries {V} m put ended once =
    subst (λ (same : ℕ → ℕ → Bool). are_distinct same (map_list (λ e. e.0) put) ≡ true
    → IsPermutation (put ++ filter (λ e. not (is_key_among same (map_list (λ e. e.0) put ++ ended) e.0)) (map.entries m)) (map.entries (with_changes m put ended))) same_numbers
    (changed_entries nat_cmp_total nat_cmp-IsAntisymmetric m put ended) (distinct_before nat_eq (map_list (λ e. e.0) put) ended once)

module _ (last stamp t : ℤ) (less : last <ℤ stamp) (since : stamp ≤ℤ t) (early : t <ℤ never) where
  -- the current values of changed versions are the inserted ones, and in unspecified order those of the
  -- current ones that do not end
  pub stand_changed : {X : Type 0} (put : List X) (meant : X → Bool) (versions : List (Version X)) (them : List X) → list_all (has_ended last) versions ≡ true
      → IsPermutation (current_values t versions) them → IsPermutation (current_values t (changed_versions put meant stamp versions)) (put ++ filter (λ x. not (meant x)) them)
  stand_changed put meant versions them ended p =
      subst (λ l. IsPermutation l (put ++ filter (λ x. not (meant x)) them)) (sym (changed_stand put meant stamp last t less since early versions ended))
      (IsPermutation-append_right put (filter (λ x. not (meant x)) (current_values t versions)) (filter (λ x. not (meant x)) them)
      (filter_permuted (λ x. not (meant x)) (current_values t versions) them p))

  pub part_changes : {V : Type 0} (put : List (ℕ × V)) (ended : List ℕ) (versions : List (Version (ℕ × V))) (m : FinMap nat_cmp V)
      → list_all (has_ended last) versions ≡ true → are_distinct nat_eq (map_list (λ e. e.0) put ++ ended) ≡ true → IsPartAt t versions m
      → IsPartAt t (changed_part put ended stamp versions) (with_changes m put ended)
  part_changes put ended versions m by_then once p =
      IsPermutation-trans (current_values t (changed_part put ended stamp versions)) (put ++ filter (λ e. not (is_changed put ended e.0)) (map.entries m)) (map.entries (with_changes m put ended))
      (stand_changed put (λ e. is_changed put ended e.0) versions (map.entries m) by_then p) (numbered_entries m put ended once)

  -- keys of a set, such as roles and mandates
  module _ {K : Type 0} {R : K → K → Ordering} (o : IsTotalOrder R) (exact : IsAntisymmetric R) where
    keys_change : (put ended : List K) (versions : List (Version K)) (set : FinMap R (Unit {0}))
        → list_all (has_ended last) versions ≡ true → are_distinct (eq_by_cmp R) (put ++ ended) ≡ true → IsPermutation (current_values t versions) (map.keys set)
        → IsPermutation (current_values t (changed_versions put (λ key. is_key_among (eq_by_cmp R) (put ++ ended) key) stamp versions)) (map.keys (with_changes set (set_entries put) ended))
    keys_change put ended versions set by_then once p =
        let kept : List K = filter (λ key. not (is_key_among (eq_by_cmp R) (put ++ ended) key)) (map.keys set) in
        IsPermutation-trans (current_values t (changed_versions put (λ key. is_key_among (eq_by_cmp R) (put ++ ended) key) stamp versions)) (put ++ kept) (map.keys (with_changes set (set_entries put) ended))
        (stand_changed put (λ key. is_key_among (eq_by_cmp R) (put ++ ended) key) versions (map.keys set) by_then p)
        (subst (λ l. IsPermutation l (map.keys (with_changes set (set_entries put) ended))) (listed (put ++ ended) (map.entries set))
        (IsPermutation-map (λ e. e.0) (set_entries put ++ filter (λ e. not (list_any (eq_by_cmp R e.0) (put ++ ended))) (map.entries set)) (map.entries (with_changes set (set_entries put) ended)) entries))
      where
        entries : IsPermutation (set_entries put ++ filter (λ e. not (list_any (eq_by_cmp R e.0) (put ++ ended))) (map.entries set)) (map.entries (with_changes set (set_entries put) ended))
        entries =
            subst (λ (ks : List K). IsPermutation (set_entries put ++ filter (λ e. not (list_any (eq_by_cmp R e.0) (ks ++ ended))) (map.entries set)) (map.entries (with_changes set (set_entries put) ended)))
            (keys-set_entries put)
            (changed_entries o exact set (set_entries put) ended
            (subst (λ (ks : List K). are_distinct (eq_by_cmp R) ks ≡ true) (sym (keys-set_entries put)) (distinct_before (eq_by_cmp R) put ended once)))

        keys_kept : (ks : List K) (es : List (K × Unit {0})) → map_list (λ e. e.0) (filter (λ e. not (list_any (eq_by_cmp R e.0) ks)) es)
            ≡ filter (λ key. not (is_key_among (eq_by_cmp R) ks key)) (map_list (λ e. e.0) es)
        keys_kept ks [] = refl
        keys_kept ks (e ∷ es) = go (not (list_any (eq_by_cmp R e.0) ks)) (keys_kept ks es)
          where
            go : (b : Bool) → map_list (λ e. e.0) (filter (λ e. not (list_any (eq_by_cmp R e.0) ks)) es) ≡ filter (λ key. not (is_key_among (eq_by_cmp R) ks key)) (map_list (λ e. e.0) es)
                → map_list (λ e. e.0) (cond b (e ∷ filter (λ e. not (list_any (eq_by_cmp R e.0) ks)) es) (filter (λ e. not (list_any (eq_by_cmp R e.0) ks)) es))
                ≡ cond b (e.0 ∷ filter (λ key. not (is_key_among (eq_by_cmp R) ks key)) (map_list (λ e. e.0) es)) (filter (λ key. not (is_key_among (eq_by_cmp R) ks key)) (map_list (λ e. e.0) es))
            go true h = ap (λ l. e.0 ∷ l) h
            go false h = h

        put_before : (gs : List K) (es : List (K × Unit {0})) → map_list (λ e. e.0) (set_entries gs ++ es) ≡ gs ++ map_list (λ e. e.0) es
        put_before [] es = refl
        put_before (g ∷ gs) es = ap (λ l. g ∷ l) (put_before gs es)

        listed : (ks : List K) (es : List (K × Unit {0})) → map_list (λ e. e.0) (set_entries put ++ filter (λ e. not (list_any (eq_by_cmp R e.0) ks)) es)
            ≡ put ++ filter (λ key. not (is_key_among (eq_by_cmp R) ks key)) (map_list (λ e. e.0) es)
        listed ks es = put_before put (filter (λ e. not (list_any (eq_by_cmp R e.0) ks)) es) ∙ ap (λ l. put ++ l) (keys_kept ks es)

  pub roles_change : (put ended : List Grant) (versions : List (Version Grant)) (grants : Grants)
      → list_all (has_ended last) versions ≡ true → are_distinct (eq_by_cmp grant_cmp) (put ++ ended) ≡ true → AreRolesAt t versions grants
      → AreRolesAt t (changed_roles put ended stamp versions) (with_changes grants (set_entries put) ended)
  unfolding grants_in
  roles_change put ended versions grants by_then once p = keys_change grants_total exact_grants put ended versions grants by_then once p

  pub mandates_change : (put ended : List Mandate) (versions : List (Version Mandate)) (mandates : Mandates)
      → list_all (has_ended last) versions ≡ true → are_distinct (eq_by_cmp mandate_cmp) (put ++ ended) ≡ true → AreMandatesAt t versions mandates
      → AreMandatesAt t (changed_mandates put ended stamp versions) (with_changes mandates (set_entries put) ended)
  unfolding mandates_in
  mandates_change put ended versions mandates by_then once p = keys_change mandates_total exact_mandates put ended versions mandates by_then once p
