-- A condition on the value at a number, as a condition on entries.
use Rattle.std.proofs.Common.{◌≡◌, ℕ, Bool, true, false, ◌&&◌, Option, Some, None, List, [], ◌∷◌, refl, sym, ap, ◌∙◌, subst}
use Rattle.std.specs.Prelude.{nat_eq}
use Rattle.std.specs.Option.{option_map_or}
use Rattle.std.specs.List.{list_any, AllByRecursion}
use Rattle.std.specs.Ordering.{nat_cmp}
use Rattle.std.specs.Cmp.{nat_cmp_total}
use Rattle.std.specs.FinMap as map
use Rattle.std.specs.FinMap.{FinMap, nat_cmp-IsAntisymmetric}
use Rattle.std.proofs.lemmas.Bool.{and_parts, eqb-true}
use Rattle.std.proofs.lemmas.Cmp.{nat_eq_equiv}
use Rattle.land_core.proofs.FiniteMaps.{none_is_not_some}
use Rattle.land_core.proofs.Reflection.{entries-entries_where, list_any-filter, none_passes, some_at}
use Rattle.land_core.specs.Entries.{entries_where, some}

module _ {V : Type 0} (m : FinMap nat_cmp V) (test : V → Bool) (n : ℕ) where
  -- they are equivalent, because there is no other entry at the number
  pub at_as_some : option_map_or test (map.get m n) false ≡ some (λ k v. nat_eq k n && test v) m
  at_as_some = by_case (map.get m n) refl
    where
      only_there : ((v : V) → map.get m n ≡ Some v → test v ≡ false) → some (λ k v. nat_eq k n && test v) m ≡ false
      only_there fails =
          none_passes nat_cmp_total nat_cmp-IsAntisymmetric (λ k v. nat_eq k n && test v) m (λ k v is.
          elim (nat_eq k n) as (λ b. nat_eq k n ≡ b → (b && test v) ≡ false) [
            | true ↦ λ at. fails v (ap (map.get m) (sym (eqb-true k n at)) ∙ is)
            | false ↦ λ other. refl
          ] refl)

      by_case : (o : Option V) → map.get m n ≡ o → option_map_or test o false ≡ some (λ k v. nat_eq k n && test v) m
      by_case None e = sym (only_there (λ v is. absurd (none_is_not_some (sym e ∙ is))))
      by_case (Some v) e =
          elim (test v) as (λ b. test v ≡ b → b ≡ some (λ k v. nat_eq k n && test v) m) [
            | true ↦ λ passes. sym (some_at nat_cmp_total nat_cmp-IsAntisymmetric (λ k v. nat_eq k n && test v) m n v e (ap (λ b. b && test v) (nat_eq_equiv.refl n) ∙ passes))
            | false ↦ λ fails. sym (only_there (λ w is. subst (λ (x : V). test x ≡ false) (same w (sym e ∙ is)) fails))
          ] refl
        where
          same : (w : V) → Some v ≡ Some w → v ≡ w
          same w both = cc

-- filtering does not change its value if all entries that satisfy it remain
pub at_kept : {V : Type 0} (m : FinMap nat_cmp V) (kept : ℕ → V → Bool) (test : V → Bool) (n : ℕ) → ((v : V) → test v ≡ true → kept n v ≡ true)
    → option_map_or test (map.get (entries_where kept m) n) false ≡ option_map_or test (map.get m n) false
at_kept {V} m kept test n keeps =
    at_as_some (entries_where kept m) test n
    ∙ ap (list_any (λ e. nat_eq e.0 n && test e.1)) (entries-entries_where nat_cmp_total nat_cmp-IsAntisymmetric kept m)
    ∙ list_any-filter (λ e. nat_eq e.0 n && test e.1) (λ e. kept e.0 e.1) (map.entries m) (all_kept (map.entries m))
    ∙ sym (at_as_some m test n)
  where
    all_kept : (es : List (ℕ × V)) → AllByRecursion (λ e. (nat_eq e.0 n && test e.1) ≡ true → kept e.0 e.1 ≡ true) es
    all_kept [] = tt
    all_kept (e ∷ es) = (
      λ passes. let parts = and_parts (nat_eq e.0 n) (test e.1) passes in subst (λ (k : ℕ). kept k e.1 ≡ true) (sym (eqb-true e.0 n parts.0)) (keeps e.1 parts.1),
      all_kept es,
    )
