-- Filtered maps.
use Rattle.std.proofs.Common.{◌≡◌, Bool, true, false, Option, Some, None, refl, sym, subst, ◌∙◌}
use Rattle.std.proofs.lemmas.Bool.{false≢true}
use Rattle.std.proofs.lemmas.List.Elements.{All-contains, All-from_recursion}
use Rattle.std.proofs.lemmas.Map.Views.{Contains-from_lookup}
use Rattle.std.specs.FinMap as map
use Rattle.std.specs.FinMap.{FinMap, IsAntisymmetric}
use Rattle.std.specs.Cmp.{IsTotalOrder}
use Rattle.std.specs.List.{Contains}
use Rattle.std.specs.Ordering.{eq_by_cmp}
use Rattle.std.specs.declared.cmp.Ordering.{Ordering}
use Rattle.land_core.proofs.FiniteMaps.{get-lookup, is_equal}
use Rattle.land_core.proofs.Reflection.{each_there, entries-entries_where}
use Rattle.land_core.specs.Entries.{entries_where}
use Rattle.land_select_queries.proofs.Records.{kept_by_filter, passes_filter}

-- equal up to decidable equality is equal
same_options : {V : Type 0} (a b : Option V) → ((v : V) → a ≡ Some v → b ≡ Some v) → ((v : V) → b ≡ Some v → a ≡ Some v) → a ≡ b
same_options None None to from = refl
same_options None (Some v) to from = from v refl
same_options (Some v) b to from = sym (to v refl)

module _ {K V : Type 0} {R : K → K → Ordering} (o : IsTotalOrder R) (same : IsAntisymmetric R) where
  -- the entries of a map are its contents
  pub entry_there : (m : FinMap R V) (e : K × V) → Contains (map.entries m) e → map.get m e.0 ≡ Some e.1
  entry_there m e h =
      All-contains (λ e. map.get m e.0 ≡ Some e.1) (map.entries m) e
      (All-from_recursion (λ e. map.get m e.0 ≡ Some e.1) (map.entries m) (each_there o same m)) h

  pub entry_found : (m : FinMap R V) (k : K) (v : V) → map.get m k ≡ Some v → Contains (map.entries m) (k, v)
  entry_found m k v is =
      Contains-from_lookup {eq = eq_by_cmp R} (λ x y e. same x y (is_equal _ e)) k v (map.entries m) (sym (get-lookup o same m k) ∙ is)

  -- an entry of the filtered map is in the map and passes
  pub was_kept : (p : K → V → Bool) (m : FinMap R V) (k : K) (v : V) → map.get (entries_where p m) k ≡ Some v → (map.get m k ≡ Some v) × (p k v ≡ true)
  was_kept p m k v is =
      let among = subst (λ es. Contains es (k, v)) (entries-entries_where o same p m) (entry_found (entries_where p m) k v is) in
      let it = passes_filter (λ e. p e.0 e.1) (map.entries m) (k, v) among in
      (entry_there m (k, v) it.0, it.1)

  -- an entry of the map that passes is in the filtered map
  pub is_kept : (p : K → V → Bool) (m : FinMap R V) (k : K) (v : V) → map.get m k ≡ Some v → p k v ≡ true → map.get (entries_where p m) k ≡ Some v
  is_kept p m k v is passes =
      entry_there (entries_where p m) (k, v) (subst (λ es. Contains es (k, v)) (sym (entries-entries_where o same p m)) (kept_by_filter (λ e. p e.0 e.1) (map.entries m) (k, v) (entry_found m k v is) passes))

  -- maps with the same contents are equal
  pub same_entries : (m n : FinMap R V) → ((k : K) (v : V) → map.get m k ≡ Some v → map.get n k ≡ Some v) → ((k : K) (v : V) → map.get n k ≡ Some v → map.get m k ≡ Some v) → m ≡ n
  same_entries m n to from = map.same_map o same m n (λ k. same_options (map.get m k) (map.get n k) (to k) (from k))

  -- tests that agree filter alike
  pub same_kept : (p q : K → V → Bool) (m : FinMap R V) → ((k : K) (v : V) → p k v ≡ q k v) → entries_where p m ≡ entries_where q m
  same_kept p q m agree = same_entries (entries_where p m) (entries_where q m)
      (λ k v is. let it = was_kept p m k v is in is_kept q m k v it.0 (sym (agree k v) ∙ it.1))
      (λ k v is. let it = was_kept q m k v is in is_kept p m k v it.0 (agree k v ∙ it.1))

  -- filtering by a wider test first makes no difference
  pub kept_within : (p q : K → V → Bool) (m : FinMap R V) → ((k : K) (v : V) → p k v ≡ true → q k v ≡ true) → entries_where p (entries_where q m) ≡ entries_where p m
  kept_within p q m within = same_entries (entries_where p (entries_where q m)) (entries_where p m)
      (λ k v is. let outer = was_kept p (entries_where q m) k v is in is_kept p m k v (was_kept q m k v outer.0).0 outer.1)
      (λ k v is. let it = was_kept p m k v is in is_kept p (entries_where q m) k v (is_kept q m k v it.0 (within k v it.1)) it.1)

  -- a test that no entry passes gives the empty map
  pub none_kept : (m : FinMap R V) → map.empty ≡ entries_where (λ k v. false) m
  none_kept m = same_entries map.empty (entries_where (λ k v. false) m)
      (λ k v is. absurd (let none = map.get-empty {X = V} R k in let both : None ≡ Some v = sym none ∙ is in cc))
      (λ k v is. absurd (false≢true (was_kept (λ k v. false) m k v is).1))
