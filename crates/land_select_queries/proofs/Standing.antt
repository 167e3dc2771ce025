-- The current versions are the register's records.
use Rattle.std.proofs.Common.{◌≡◌, ℕ, ℤ, Bool, true, false, List, Option, Some, None, is_some, refl, sym, ap, ◌∙◌}
use Rattle.std.proofs.lemmas.Bool.{false≢true}
use Rattle.std.proofs.lemmas.Bool.Decides.{Decides-like}
use Rattle.std.proofs.lemmas.List.Elements.{All-contains, All-from_recursion}
use Rattle.std.proofs.lemmas.List.Sorted.{Contains-permutation, IsPermutation-sym}
use Rattle.std.proofs.lemmas.Map.Views.{Contains-from_lookup}
use Rattle.std.specs.Bool.{Decides}
use Rattle.std.specs.Cmp.{nat_cmp_total}
use Rattle.std.specs.FinMap as map
use Rattle.std.specs.FinMap.{FinMap, nat_cmp-IsAntisymmetric}
use Rattle.std.specs.List.{Contains}
use Rattle.std.specs.Option.{option_map_or}
use Rattle.std.specs.Ordering.{eq_by_cmp, nat_cmp}
use Rattle.land_core.proofs.FiniteMaps.{get-lookup, is_equal}
use Rattle.land_core.proofs.Reflection.{each_there}
use Rattle.land_core.specs.Entries.{has, some}
use Rattle.land_select_queries.proofs.Containing.{any_decides}
use Rattle.land_select_queries.specs.Sights.Selections.{IsCurrent, IsCurrentUnder}
use Rattle.land_tables_history.specs.Standing.{IsPartAt, current_values}
use Rattle.land_tables_history.specs.declared.version.Version.{Version}

-- the entries of a map are its contents
module _ {V : Type 0} (m : FinMap nat_cmp V) where
  pub entry_there : (e : ℕ × V) → Contains (map.entries m) e → map.get m e.0 ≡ Some e.1
  entry_there e h =
      All-contains (λ e. map.get m e.0 ≡ Some e.1) (map.entries m) e
      (All-from_recursion (λ e. map.get m e.0 ≡ Some e.1) (map.entries m) (each_there nat_cmp_total nat_cmp-IsAntisymmetric m)) h

  pub entry_found : (n : ℕ) (v : V) → map.get m n ≡ Some v → Contains (map.entries m) (n, v)
  entry_found n v is =
      Contains-from_lookup {eq = eq_by_cmp nat_cmp} (λ x y e. nat_cmp-IsAntisymmetric x y (is_equal _ e)) n v (map.entries m)
      (sym (get-lookup nat_cmp_total nat_cmp-IsAntisymmetric m n) ∙ is)

one_value : {V : Type 0} {x y : V} → Some x ≡ Some y → x ≡ y
one_value e = cc

-- current records with numbers
module _ {V : Type 0} (t : ℤ) (versions : List (Version (ℕ × V))) (m : FinMap nat_cmp V) (is : IsPartAt t versions m) where
  pub listed : (e : ℕ × V) → IsCurrent t versions e → Contains (map.entries m) e
  listed e h = Contains-permutation (current_values t versions) (map.entries m) e is h

  pub unlisted : (e : ℕ × V) → Contains (map.entries m) e → IsCurrent t versions e
  unlisted e h = Contains-permutation (map.entries m) (current_values t versions) e (IsPermutation-sym (current_values t versions) (map.entries m) is) h

  pub there : (e : ℕ × V) → IsCurrent t versions e → map.get m e.0 ≡ Some e.1
  there e h = entry_there m e (listed e h)

  pub stood : (n : ℕ) (v : V) → map.get m n ≡ Some v → IsCurrent t versions (n, v)
  stood n v got = unlisted (n, v) (entry_found m n v got)

  -- a number has one current record
  pub one_stands : (e f : ℕ × V) → IsCurrent t versions e → IsCurrent t versions f → e.0 ≡ f.0 → e.1 ≡ f.1
  one_stands e f h k same = one_value (sym (there e h) ∙ ap (map.get m) same ∙ there f k)

  pub some_decides : (p : ℕ → V → Bool) (P : ℕ × V → Type 0) → ((e : ℕ × V) → IsCurrent t versions e → Decides (p e.0 e.1) (P e)) → Decides (some p m) ((e : ℕ × V) × IsCurrent t versions e × P e)
  some_decides p P each =
      Decides-like (some p m) (λ h. (h.0, unlisted h.0 h.1, h.2)) (λ h. (h.0, listed h.0 h.1, h.2))
      (any_decides (λ e. p e.0 e.1) P (map.entries m) (λ e h. each e (unlisted e h)))

  pub at_decides : (f : V → Bool) (P : ℕ × V → Type 0) → ((e : ℕ × V) → IsCurrent t versions e → Decides (f e.1) (P e)) → (n : ℕ)
      → Decides (option_map_or f (map.get m n) false) ((e : ℕ × V) × (IsCurrent t versions e × P e) × (e.0 ≡ n))
  at_decides f P each n = go (map.get m n) refl
    where
      back : (e : ℕ × V) → IsCurrent t versions e → P e → e.0 ≡ n → option_map_or f (map.get m n) false ≡ true
      back e h holds same = ap (λ k. option_map_or f (map.get m k) false) (sym same) ∙ ap (λ o. option_map_or f o false) (there e h) ∙ (each e h).1 holds

      go : (o : Option V) → map.get m n ≡ o → Decides (option_map_or f (map.get m n) false) ((e : ℕ × V) × (IsCurrent t versions e × P e) × (e.0 ≡ n))
      go None got = ((λ h. absurd (false≢true (sym (ap (λ o. option_map_or f o false) got) ∙ h))), (λ h. back h.0 h.1.0 h.1.1 h.2))
      go (Some v) got = (
        (λ h. let here = stood n v got in ((n, v), (here, (each (n, v) here).0 (sym (ap (λ o. option_map_or f o false) got) ∙ h)), refl)),
        (λ h. back h.0 h.1.0 h.1.1 h.2),
      )

  pub has_decides : (n : ℕ) → Decides (has m n) (IsCurrentUnder t versions n)
  has_decides n = go (map.get m n) refl
    where
      back : (e : ℕ × V) → IsCurrent t versions e → e.0 ≡ n → is_some (map.get m n) ≡ true
      back e h same = ap (λ k. is_some (map.get m k)) (sym same) ∙ ap is_some (there e h)

      go : (o : Option V) → map.get m n ≡ o → Decides (is_some (map.get m n)) (IsCurrentUnder t versions n)
      go None got = ((λ h. absurd (false≢true (sym (ap is_some got) ∙ h))), (λ h. back h.0 h.1 h.2))
      go (Some v) got = ((λ h. ((n, v), stood n v got, refl)), (λ h. back h.0 h.1 h.2))
