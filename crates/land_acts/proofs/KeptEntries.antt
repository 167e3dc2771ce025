-- A filtered map: the value at a key, and the effect of writing and ending entries.
use Rattle.std.proofs.Common.{◌≡◌, ℕ, Bool, true, false, cond, Option, Some, None, List, [], ◌∷◌, refl, sym, ap, ◌∙◌, subst}
use Rattle.std.specs.Prelude.{filter}
use Rattle.std.specs.List.{AllByRecursion}
use Rattle.std.specs.Ordering.{eq_by_cmp, is_lt, nat_cmp}
use Rattle.std.specs.Cmp.{nat_cmp_total}
use Rattle.std.specs.FinMap as map
use Rattle.std.specs.FinMap.{FinMap, find, is_sorted, nat_cmp-IsAntisymmetric}
use Rattle.std.specs.FinMap.Entries.{below_all}
use Rattle.std.proofs.lemmas.Bool.{and_parts}
use Rattle.land_acts.proofs.Numbers.{one_number}
use Rattle.land_core.proofs.Booleans.{T_true}
use Rattle.land_core.proofs.Orders.{less_apart}
use Rattle.land_core.proofs.Reflection.{entries-entries_where}
use Rattle.land_core.specs.Entries.{entries_where, with_changes, with_entries, without}

-- the value at a key, if it satisfies the condition
abbrev pub kept_at : {V : Type 0} → (ℕ → V → Bool) → ℕ → Option V → Option V
kept_at p q None = None
kept_at p q (Some v) = cond (p q v) (Some v) None

module _ {V : Type 0} (p : ℕ → V → Bool) where
  -- there is no value below all keys
  absent : (k : ℕ) (es : List (ℕ × V)) → below_all nat_cmp k es ≡ true → find nat_cmp k (filter (λ e. p e.0 e.1) es) ≡ None
  absent k [] h = refl
  absent k (e ∷ es) h =
      let parts = and_parts (is_lt (nat_cmp k e.0)) (below_all nat_cmp k es) h in
      elim (p e.0 e.1) as (λ b. find nat_cmp k (cond b (e ∷ filter (λ e. p e.0 e.1) es) (filter (λ e. p e.0 e.1) es)) ≡ None) [
        | true ↦ ap (λ b. cond b (Some e.1) (find nat_cmp k (filter (λ e. p e.0 e.1) es))) (less_apart (nat_cmp k e.0) parts.0) ∙ absent k es parts.1
        | false ↦ absent k es parts.1
      ]

  find-kept : (q : ℕ) (es : List (ℕ × V)) → is_sorted nat_cmp es ≡ true → find nat_cmp q (filter (λ e. p e.0 e.1) es) ≡ kept_at p q (find nat_cmp q es)
  find-kept q [] h = refl
  find-kept q (e ∷ es) h =
      let parts = and_parts (below_all nat_cmp e.0 es) (is_sorted nat_cmp es) h in
      let rest = find-kept q es parts.1 in
      elim (eq_by_cmp nat_cmp q e.0) as (λ b. eq_by_cmp nat_cmp q e.0 ≡ b
      → find nat_cmp q (cond (p e.0 e.1) (e ∷ filter (λ e. p e.0 e.1) es) (filter (λ e. p e.0 e.1) es)) ≡ kept_at p q (cond b (Some e.1) (find nat_cmp q es))) [
        | true ↦ λ at.
            let here : q ≡ e.0 = one_number q e.0 at in
            elim (p e.0 e.1) as (λ c. p e.0 e.1 ≡ c → find nat_cmp q (cond c (e ∷ filter (λ e. p e.0 e.1) es) (filter (λ e. p e.0 e.1) es)) ≡ cond (p q e.1) (Some e.1) None) [
              | true ↦ λ stays.
                  ap (λ b. cond b (Some e.1) (find nat_cmp q (filter (λ e. p e.0 e.1) es))) at
                  ∙ sym (ap (λ c. cond c (Some e.1) None) (ap (λ k. p k e.1) here ∙ stays))
              | false ↦ λ gone.
                  subst (λ (k : ℕ). find nat_cmp k (filter (λ e. p e.0 e.1) es) ≡ None) (sym here) (absent e.0 es parts.0)
                  ∙ sym (ap (λ c. cond c (Some e.1) None) (ap (λ k. p k e.1) here ∙ gone))
            ] refl
        | false ↦ λ apart.
            elim (p e.0 e.1) as (λ c. find nat_cmp q (cond c (e ∷ filter (λ e. p e.0 e.1) es) (filter (λ e. p e.0 e.1) es)) ≡ kept_at p q (find nat_cmp q es)) [
              | true ↦ ap (λ b. cond b (Some e.1) (find nat_cmp q (filter (λ e. p e.0 e.1) es))) apart ∙ rest
              | false ↦ rest
            ]
      ] refl

  pub get-kept : (m : FinMap nat_cmp V) (q : ℕ) → map.get (entries_where p m) q ≡ kept_at p q (map.get m q)
  get-kept m q =
      map.get-entries (entries_where p m) q
      ∙ ap (find nat_cmp q) (entries-entries_where nat_cmp_total nat_cmp-IsAntisymmetric p m)
      ∙ find-kept q (map.entries m) (T_true _ (map.entries_sorted m))
      ∙ ap (kept_at p q) (sym (map.get-entries m q))

  insert-kept : (m : FinMap nat_cmp V) (k : ℕ) (v : V) → p k v ≡ true → map.insert (entries_where p m) k v ≡ entries_where p (map.insert m k v)
  insert-kept m k v stays = map.same_map nat_cmp_total nat_cmp-IsAntisymmetric (map.insert (entries_where p m) k v) (entries_where p (map.insert m k v)) (λ q.
      map.get-insert nat_cmp_total (entries_where p m) k v q
      ∙ ap (cond (eq_by_cmp nat_cmp q k) (Some v)) (get-kept m q)
      ∙ elim (eq_by_cmp nat_cmp q k) as (λ b. eq_by_cmp nat_cmp q k ≡ b → cond b (Some v) (kept_at p q (map.get m q)) ≡ kept_at p q (cond b (Some v) (map.get m q))) [
        | true ↦ λ at. sym (ap (λ c. cond c (Some v) None) (ap (λ i. p i v) (one_number q k at) ∙ stays))
        | false ↦ λ apart. refl
      ] refl
      ∙ ap (kept_at p q) (sym (map.get-insert nat_cmp_total m k v q))
      ∙ sym (get-kept (map.insert m k v) q))

  remove-kept : (m : FinMap nat_cmp V) (k : ℕ) → map.remove (entries_where p m) k ≡ entries_where p (map.remove m k)
  remove-kept m k = map.same_map nat_cmp_total nat_cmp-IsAntisymmetric (map.remove (entries_where p m) k) (entries_where p (map.remove m k)) (λ q.
      map.get-remove nat_cmp_total (entries_where p m) k q
      ∙ ap (cond (eq_by_cmp nat_cmp q k) None) (get-kept m q)
      ∙ elim (eq_by_cmp nat_cmp q k) as (λ b. cond b None (kept_at p q (map.get m q)) ≡ kept_at p q (cond b None (map.get m q))) [ true ↦ refl | false ↦ refl ]
      ∙ ap (kept_at p q) (sym (map.get-remove nat_cmp_total m k q))
      ∙ sym (get-kept (map.remove m k) q))

  without-kept : (m : FinMap nat_cmp V) (ks : List ℕ) → without (entries_where p m) ks ≡ entries_where p (without m ks)
  without-kept m [] = refl
  without-kept m (k ∷ ks) = ap (λ it. without it ks) (remove-kept m k) ∙ without-kept (map.remove m k) ks

  with_entries-kept : (m : FinMap nat_cmp V) (es : List (ℕ × V)) → AllByRecursion (λ e. p e.0 e.1 ≡ true) es → with_entries (entries_where p m) es ≡ entries_where p (with_entries m es)
  with_entries-kept m [] h = refl
  with_entries-kept m (e ∷ es) h = ap (λ it. with_entries it es) (insert-kept m e.0 e.1 h.0) ∙ with_entries-kept (map.insert m e.0 e.1) es h.1

  -- if all written entries satisfy the condition, filtering commutes with the change
  pub with_changes-kept : (m : FinMap nat_cmp V) (put : List (ℕ × V)) (ended : List ℕ) → AllByRecursion (λ e. p e.0 e.1 ≡ true) put → with_changes (entries_where p m) put ended ≡ entries_where p (with_changes m put ended)
  with_changes-kept m put ended h = ap (λ it. with_entries it put) (without-kept m ended) ∙ with_entries-kept (without m ended) put h
