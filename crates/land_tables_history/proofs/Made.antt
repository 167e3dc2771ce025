-- The entries of a map with insertions: the inserted ones, in any order, and its own under other keys.
use Rattle.std.proofs.Common.{◌≡◌, Bool, T, true, false, cond, not, ◌&&◌, ◌||◌, List, [], ◌∷◌, ◌++◌, None, Some, filter, map as map_list, refl, sym, ap, subst, ◌∙◌, append-nil, IsPermutation}
use Rattle.std.proofs.lemmas.Bool.{false≢true, and_parts}
use Rattle.std.proofs.lemmas.List.Elements.{filter_agree}
use Rattle.std.proofs.lemmas.List.Sorted.{IsPermutation-append_right, IsPermutation-cons, IsPermutation-middle, IsPermutation-refl, IsPermutation-sym, IsPermutation-trans}
use Rattle.std.specs.List.{list_any}
use Rattle.std.specs.Ordering.{eq_by_cmp, is_eq, is_lt}
use Rattle.std.specs.declared.cmp.Ordering.{Ordering}
use Rattle.std.specs.declared.cmp.Ordering.TheVariants.{Less, Equal, Greater}
use Rattle.std.specs.Cmp.{IsTotalOrder, eq_by_cmp_equiv}
use Rattle.std.specs.FinMap as map
use Rattle.std.specs.FinMap.{FinMap, IsAntisymmetric, find, is_sorted, put}
use Rattle.std.specs.FinMap.Entries.{below_all, by_order, find-where_key, is_sorted-where_key, where_key}
use Rattle.land_core.proofs.Booleans.{T_true}
use Rattle.land_core.proofs.FiniteMaps.{none_is_not_some, nothing_from_length}
use Rattle.land_core.proofs.Orders.{less_apart}
use Rattle.land_core.specs.Entries.{are_distinct, with_changes, with_entries, without}
use Rattle.land_tables_history.proofs.Permutations.{filter_permuted}

filter_filter : {X : Type 0} (p q : X → Bool) (xs : List X) → filter p (filter q xs) ≡ filter (λ x. q x && p x) xs
filter_filter p q [] = refl
filter_filter p q (x ∷ xs) = go (q x) (filter_filter p q xs)
  where
    go : (b : Bool) → filter p (filter q xs) ≡ filter (λ x. q x && p x) xs
        → filter p (cond b (x ∷ filter q xs) (filter q xs)) ≡ cond (b && p x) (x ∷ filter (λ x. q x && p x) xs) (filter (λ x. q x && p x) xs)
    go true h = ap (λ l. cond (p x) (x ∷ l) l) h
    go false h = h

pub all_pass : {X : Type 0} (xs : List X) → filter (λ x. true) xs ≡ xs
all_pass [] = refl
all_pass (x ∷ xs) = ap (λ l. x ∷ l) (all_pass xs)

none_and_none : (a b : Bool) → (not a && not b) ≡ not (a || b)
none_and_none true b = refl
none_and_none false b = refl

module _ {K : Type 0} {R : K → K → Ordering} (o : IsTotalOrder R) (same : IsAntisymmetric R) {V : Type 0} where
  -- the entries under other keys
  abbrev pub beside : K → List (K × V) → List (K × V)
  beside k es = where_key R (λ x. not (eq_by_cmp R k x)) es

  -- entries above a key are all under other keys
  all_beside : (k : K) (es : List (K × V)) → below_all R k es ≡ true → beside k es ≡ es
  all_beside k [] h = refl
  all_beside k (e ∷ es) h =
      let both = and_parts (is_lt (R k e.0)) (below_all R k es) h in
      ap (λ b. cond (not b) (e ∷ beside k es) (beside k es)) (less_apart (R k e.0) both.0) ∙ ap (λ l. e ∷ l) (all_beside k es both.1)

  below_too : (x k : K) (es : List (K × V)) → R x k ≡ Less → below_all R k es ≡ true → below_all R x es ≡ true
  below_too x k [] p h = refl
  below_too x k (e ∷ es) p h =
      let both = and_parts (is_lt (R k e.0)) (below_all R k es) h in
      ap (λ r. is_lt r && below_all R x es) (o.trans x k e.0 p (less (R k e.0) both.0)) ∙ below_too x k es p both.1
    where
      less : (r : Ordering) → is_lt r ≡ true → r ≡ Less
      less Less h = refl
      less Equal h = absurd (false≢true h)
      less Greater h = absurd (false≢true h)

  put_permuted : (k : K) (v : V) (es : List (K × V)) → is_sorted R es ≡ true → IsPermutation ((k, v) ∷ beside k es) (put R k v es)
  put_permuted k v [] sorted = IsPermutation-refl ((k, v) ∷ [])
  put_permuted k v (e ∷ es) sorted = go (R k e.0) refl (put_permuted k v es both.1)
    where
      both : (below_all R e.0 es ≡ true) × (is_sorted R es ≡ true)
      both = and_parts (below_all R e.0 es) (is_sorted R es) sorted

      go : (r : Ordering) → R k e.0 ≡ r → IsPermutation ((k, v) ∷ beside k es) (put R k v es)
          → IsPermutation ((k, v) ∷ cond (not (is_eq r)) (e ∷ beside k es) (beside k es)) (by_order r ((k, v) ∷ e ∷ es) ((e.0, v) ∷ es) (e ∷ put R k v es))
      go Less is rest = subst (λ l. IsPermutation ((k, v) ∷ e ∷ l) ((k, v) ∷ e ∷ es)) (sym (all_beside k es (below_too k e.0 es is both.0))) (IsPermutation-refl ((k, v) ∷ e ∷ es))
      go Equal is rest =
          let one : k ≡ e.0 = same k e.0 is in
          subst (λ (x : K). IsPermutation ((k, v) ∷ beside k es) ((x, v) ∷ es)) one
          (subst (λ l. IsPermutation ((k, v) ∷ l) ((k, v) ∷ es)) (sym (all_beside k es (subst (λ (x : K). below_all R x es ≡ true) (sym one) both.0))) (IsPermutation-refl ((k, v) ∷ es)))
      go Greater is rest =
          IsPermutation-trans ((k, v) ∷ e ∷ beside k es) (e ∷ (k, v) ∷ beside k es) (e ∷ put R k v es)
          (IsPermutation-middle ((k, v) ∷ []) e (beside k es)) (IsPermutation-cons e ((k, v) ∷ beside k es) (put R k v es) rest)

  -- if no entry has a key, all have other keys
  pub none_beside : (k : K) (es : List (K × V)) → find R k es ≡ None → beside k es ≡ es
  none_beside k [] none = refl
  none_beside k (e ∷ es) none = go (eq_by_cmp R k e.0) none (none_beside k es)
    where
      go : (b : Bool) → cond b (Some e.1) (find R k es) ≡ None → (find R k es ≡ None → beside k es ≡ es) → cond (not b) (e ∷ beside k es) (beside k es) ≡ e ∷ es
      go true h rest = absurd (none_is_not_some (sym h))
      go false h rest = ap (λ l. e ∷ l) (rest h)

  -- an inserted entry, and the others under other keys
  pub inserted : (m : FinMap R V) (k : K) (v : V) → IsPermutation ((k, v) ∷ beside k (map.entries m)) (map.entries (map.insert m k v))
  inserted m k v = subst (IsPermutation ((k, v) ∷ beside k (map.entries m))) (sym (map.entries-insert o m k v)) (put_permuted k v (map.entries m) (T_true _ (map.entries_sorted m)))

  pub entries-remove : (m : FinMap R V) (k : K) → map.entries (map.remove m k) ≡ beside k (map.entries m)
  entries-remove m k = ap map.entries (map.same_map o same (map.remove m k) (map.from_sorted (beside k (map.entries m))) alike) ∙ map.entries-from_sorted R (beside k (map.entries m)) rising
    where
      rising : T (is_sorted R (beside k (map.entries m)))
      rising = is_sorted-where_key R (λ x. not (eq_by_cmp R k x)) (map.entries m) (map.entries_sorted m)

      alike : (q : K) → map.get (map.remove m k) q ≡ map.get (map.from_sorted {R = R} (beside k (map.entries m))) q
      alike q =
          map.get-remove o m k q ∙ ap (cond (eq_by_cmp R q k) None) (map.get-entries m q) ∙ ap (λ b. cond b None (find R q (map.entries m))) ((eq_by_cmp_equiv o).symm q k)
          ∙ turned (eq_by_cmp R k q)
          ∙ sym (find-where_key R (λ x. not (eq_by_cmp R k x)) q (λ x t. ap (λ y. not (eq_by_cmp R k y)) (sym (same q x t))) (map.entries m))
          ∙ sym (map.get-from_sorted R (beside k (map.entries m)) q rising)
        where
          turned : (b : Bool) → cond b None (find R q (map.entries m)) ≡ cond (not b) (find R q (map.entries m)) None
          turned true = refl
          turned false = refl

  -- the entries under none of these keys
  abbrev pub outside : List K → List (K × V) → List (K × V)
  outside ks es = filter (λ e. not (list_any (eq_by_cmp R e.0) ks)) es

  beside_outside : (k : K) (ks : List K) (es : List (K × V)) → outside ks (beside k es) ≡ outside (k ∷ ks) es
  beside_outside k ks es =
      filter_filter (λ e. not (list_any (eq_by_cmp R e.0) ks)) (λ e. not (eq_by_cmp R k e.0)) es
      ∙ filter_agree (λ e. not (eq_by_cmp R k e.0) && not (list_any (eq_by_cmp R e.0) ks)) (λ e. not (eq_by_cmp R e.0 k || list_any (eq_by_cmp R e.0) ks))
      (λ e. ap (λ b. not b && not (list_any (eq_by_cmp R e.0) ks)) ((eq_by_cmp_equiv o).symm k e.0) ∙ none_and_none (eq_by_cmp R e.0 k) (list_any (eq_by_cmp R e.0) ks)) es

  -- if no key is inserted twice, the entries are the inserted ones, and the others under other keys
  pub made : (m : FinMap R V) (es : List (K × V)) → are_distinct (eq_by_cmp R) (map_list (λ e. e.0) es) ≡ true
      → IsPermutation (es ++ outside (map_list (λ e. e.0) es) (map.entries m)) (map.entries (with_entries m es))
  made m [] once = subst (λ l. IsPermutation l (map.entries m)) (sym (all_pass (map.entries m))) (IsPermutation-refl (map.entries m))
  made m (e ∷ es) once =
      let ks : List K = map_list (λ e. e.0) es in
      let both = and_parts (not (list_any (eq_by_cmp R e.0) ks)) (are_distinct (eq_by_cmp R) ks) once in
      let after = map.entries (map.insert m e.0 e.1) in
      let rest : List (K × V) = outside (e.0 ∷ ks) (map.entries m) in
      let others : outside ks (e ∷ beside e.0 (map.entries m)) ≡ e ∷ rest =
      ap (λ b. cond b (e ∷ outside ks (beside e.0 (map.entries m))) (outside ks (beside e.0 (map.entries m)))) both.0 ∙ ap (λ l. e ∷ l) (beside_outside e.0 ks (map.entries m)) in
      let moved : IsPermutation (e ∷ rest) (outside ks after) =
      subst (λ l. IsPermutation l (outside ks after)) others
      (filter_permuted (λ e. not (list_any (eq_by_cmp R e.0) ks)) (e ∷ beside e.0 (map.entries m)) after (inserted m e.0 e.1)) in
      IsPermutation-trans (e ∷ (es ++ rest)) (es ++ e ∷ rest) (map.entries (with_entries m (e ∷ es)))
      (IsPermutation-sym (es ++ e ∷ rest) (e ∷ (es ++ rest)) (IsPermutation-middle es e rest))
      (IsPermutation-trans (es ++ e ∷ rest) (es ++ outside ks after) (map.entries (with_entries m (e ∷ es)))
      (IsPermutation-append_right es (e ∷ rest) (outside ks after) moved) (made (map.insert m e.0 e.1) es both.1))

  -- a list without duplicate keys has the entries of the map built from it
  pub made_anew : (es : List (K × V)) → are_distinct (eq_by_cmp R) (map_list (λ e. e.0) es) ≡ true → IsPermutation es (map.entries (with_entries {R = R} map.empty es))
  made_anew es once =
      subst (λ l. IsPermutation l (map.entries (with_entries {R = R} map.empty es)))
      (ap (λ l. es ++ outside (map_list (λ e. e.0) es) l) nothing ∙ append-nil es) (made map.empty es once)
    where
      nothing : map.entries {X = V} {R = R} map.empty ≡ []
      nothing = nothing_from_length _ (sym (map.len-entries map.empty) ∙ map.len-empty R V)

  pub entries-without : (m : FinMap R V) (ks : List K) → map.entries (without m ks) ≡ outside ks (map.entries m)
  entries-without m [] = sym (all_pass (map.entries m))
  entries-without m (k ∷ ks) = entries-without (map.remove m k) ks ∙ ap (outside ks) (entries-remove m k) ∙ beside_outside k ks (map.entries m)

  outside_both : (ks js : List K) (es : List (K × V)) → outside ks (outside js es) ≡ outside (ks ++ js) es
  outside_both ks js es =
      filter_filter (λ e. not (list_any (eq_by_cmp R e.0) ks)) (λ e. not (list_any (eq_by_cmp R e.0) js)) es
      ∙ filter_agree (λ e. not (list_any (eq_by_cmp R e.0) js) && not (list_any (eq_by_cmp R e.0) ks)) (λ e. not (list_any (eq_by_cmp R e.0) (ks ++ js))) (λ e. joined (eq_by_cmp R e.0) ks) es
    where
      joined : (p : K → Bool) (ks : List K) → (not (list_any p js) && not (list_any p ks)) ≡ not (list_any p (ks ++ js))
      joined p [] = either (list_any p js)
        where
          either : (b : Bool) → (not b && true) ≡ not b
          either true = refl
          either false = refl
      joined p (k ∷ ks) = one (p k) (joined p ks)
        where
          one : (b : Bool) → (not (list_any p js) && not (list_any p ks)) ≡ not (list_any p (ks ++ js))
              → (not (list_any p js) && not (b || list_any p ks)) ≡ not (b || list_any p (ks ++ js))
          one true h = neither (list_any p js)
            where
              neither : (b : Bool) → (not b && false) ≡ false
              neither true = refl
              neither false = refl
          one false h = h

  -- after a change the entries are the inserted ones, and the others under keys that are neither inserted nor
  -- ended
  pub changed_entries : (m : FinMap R V) (es : List (K × V)) (ended : List K) → are_distinct (eq_by_cmp R) (map_list (λ e. e.0) es) ≡ true
      → IsPermutation (es ++ outside (map_list (λ e. e.0) es ++ ended) (map.entries m)) (map.entries (with_changes m es ended))
  changed_entries m es ended once =
      subst (λ l. IsPermutation (es ++ l) (map.entries (with_changes m es ended)))
      (ap (outside (map_list (λ e. e.0) es)) (entries-without m ended) ∙ outside_both (map_list (λ e. e.0) es) ended (map.entries m))
      (made (without m ended) es once)
