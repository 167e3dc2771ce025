-- A search through numbers, until one passes.
use Rattle.std.proofs.Common.{◌<◌, ◌||◌, ◌++◌, ◌∙◌, ℕ, ℤ, Bool, true, false, List, [], ◌∷◌, get_or, length, refl, sym, ap₂}
use Rattle.std.proofs.lemmas.List.Folds.{list_any-append, list_any_at}
use Rattle.std.specs.List.{list_any}
use Rattle.land_core.specs.declared.register.Register.{Register}
use Rattle.land_select_queries.specs.Lookups.Parts.{ReadsPart}
use Rattle.sqlite_trees.specs.Tree.{Trees}

module _ (passes : Register → ℕ → Bool) (t : ℤ) (db : Trees) where
  -- none of some numbers passes
  abbrev pub NonePasses : List ℕ → Type 0
  NonePasses numbers = ReadsPart (λ r. list_any (passes r) numbers) t db false

  pub none_at_first : NonePasses []
  none_at_first moments h held r have stands = refl

  -- nor one more
  pub nor_the_next : (before : List ℕ) (n : ℕ) → NonePasses before → ReadsPart (λ r. passes r n) t db false → NonePasses (before ++ n ∷ [])
  nor_the_next before n none next moments h held r have stands =
      sym (list_any-append (passes r) before (n ∷ []) ∙ ap₂ (λ a b. a || (b || false)) (sym (none moments h held r have stands)) (sym (next moments h held r have stands)))

  -- the first one that passes decides
  pub one_passes : (numbers : List ℕ) (i : ℕ) → i < length numbers → ReadsPart (λ r. passes r (get_or numbers i 0)) t db true → ReadsPart (λ r. list_any (passes r) numbers) t db true
  one_passes numbers i there one moments h held r have stands = sym (list_any_at (passes r) numbers i 0 there (sym (one moments h held r have stands)))
