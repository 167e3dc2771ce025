-- Planning reads the same of mutations on a register and on its slice.
use Rattle.std.proofs.Common.{◌≡◌, ℕ, Bool, true, false, ◌||◌, ◌&&◌, not, cond, List, [], ◌∷◌, Option, Some, None, refl, sym, ap, ◌∙◌, subst}
use Rattle.std.specs.Prelude.{filter, nat_eq}
use Rattle.std.specs.List.{find, list_any}
use Rattle.std.specs.Option.{option_map_or}
use Rattle.std.specs.Str.{bytes_eq}
use Rattle.std.specs.Cmp.{nat_cmp_total}
use Rattle.std.specs.FinMap as map
use Rattle.std.specs.FinMap.{nat_cmp-IsAntisymmetric}
use Rattle.std.proofs.lemmas.Cmp.{nat_eq_equiv}
use Rattle.land_acts.specs.Lodging.{has_lodged_other, is_same_lodging, lodge_repeat, mutation_with_reference, receipt_of_lodging, repeat_of}
use Rattle.land_acts.specs.Slices.{reads_source, slice_with}
use Rattle.land_acts.specs.declared.slice_parts.SliceParts.{SliceParts}
use Rattle.land_core.proofs.Reflection.{entries-entries_where, get-entries_where}
use Rattle.land_core.specs.Contents.{is_same_content}
use Rattle.land_core.specs.Mutations.{is_lodged_as}
use Rattle.land_core.specs.declared.act.Act.TheVariants as act
use Rattle.land_core.specs.declared.act.Lodging.{Lodging}
use Rattle.land_core.specs.declared.caller.Caller.{Caller}
use Rattle.land_core.specs.declared.mutation.MutationRecord.{MutationRecord}
use Rattle.land_core.specs.declared.register.Register.{Register}

-- the first item that satisfies a condition, in a filtered list
find_kept : {X : Type 0} (p : X → Bool) (xs : List X) → find p (filter p xs) ≡ find p xs
find_kept p [] = refl
find_kept {X} p (x ∷ xs) =
    elim (p x) as (λ b. p x ≡ b → find p (cond b (x ∷ filter p xs) (filter p xs)) ≡ cond b (Some x) (find p xs)) [
      | true ↦ λ passes. ap (λ b. cond b (Some x) (find p (filter p xs))) passes
      | false ↦ λ fails. find_kept p xs
    ] refl

-- a found mutation is in the slice, so a condition that it satisfies is satisfied in the slice
found_among_kept : {X : Type 0} (p q : X → Bool) (xs : List X) (x : X) → find p xs ≡ Some x → q x ≡ true → list_any q (filter p xs) ≡ true
found_among_kept {X} p q [] x e h = absurd (none_some e)
  where
    none_some : None ≡ Some x → ⊥
    none_some e = cc
found_among_kept {X} p q (y ∷ ys) x e h =
    elim (p y) as (λ b. cond b (Some y) (find p ys) ≡ Some x → list_any q (cond b (y ∷ filter p ys) (filter p ys)) ≡ true) [
      | true ↦ λ e. ap (λ b. b || list_any q (filter p ys)) (subst (λ (z : X). q z ≡ true) (sym (same e)) h)
      | false ↦ λ e. found_among_kept p q ys x e h
    ] e
  where
    same : Some y ≡ Some x → y ≡ x
    same e = cc

module _ (parts : SliceParts) (r : Register) (caller : Caller) (it : Lodging) (sources : parts.sources ≡ true) where
  abbrev slice : Register
  slice = slice_with parts r caller (act.Lodge it)

  under_same : mutation_with_reference slice caller.party it.reference ≡ mutation_with_reference r caller.party it.reference
  under_same =
      ap (find (λ e. is_lodged_as caller.party it.reference e.1)) (entries-entries_where nat_cmp_total nat_cmp-IsAntisymmetric (λ n m. is_lodged_as caller.party it.reference m) r.mutations)
      ∙ find_kept (λ e. is_lodged_as caller.party it.reference e.1) (map.entries r.mutations)

  -- the source of a found mutation is in the slice
  looked_at : (e : ℕ × MutationRecord) → mutation_with_reference r caller.party it.reference ≡ Some e → reads_source r caller (act.Lodge it) e.1.source ≡ true
  looked_at e is =
      ap (list_any (λ f. nat_eq f.1.source e.1.source)) (entries-entries_where nat_cmp_total nat_cmp-IsAntisymmetric (λ n m. is_lodged_as caller.party it.reference m) r.mutations)
      ∙ found_among_kept (λ f. is_lodged_as caller.party it.reference f.1) (λ f. nat_eq f.1.source e.1.source) (map.entries r.mutations) e is (nat_eq_equiv.refl e.1.source)

  title_same : (e : ℕ × MutationRecord) → mutation_with_reference r caller.party it.reference ≡ Some e → is_same_lodging slice it e.1 ≡ is_same_lodging r it e.1
  title_same e is =
      ap (λ o. option_map_or (λ s. bytes_eq s.title it.document) o false && is_same_content e.1.content it.content)
      (get-entries_where nat_cmp_total nat_cmp-IsAntisymmetric (λ n s. parts.sources && reads_source r caller (act.Lodge it) n) r.sources e.1.source
      (λ s. ap (λ b. b && reads_source r caller (act.Lodge it) e.1.source) sources ∙ looked_at e is))

  pub repeat_same : lodge_repeat slice caller it ≡ lodge_repeat r caller it
  repeat_same = ap (repeat_of slice it) under_same ∙ by_case (mutation_with_reference r caller.party it.reference) refl
    where
      by_case : (o : Option (ℕ × MutationRecord)) → mutation_with_reference r caller.party it.reference ≡ o → repeat_of slice it o ≡ repeat_of r it o
      by_case None e = refl
      by_case (Some e) is = ap (λ b. cond b (Some (receipt_of_lodging e)) None) (title_same e is)

  pub other_same : has_lodged_other slice caller it ≡ has_lodged_other r caller it
  other_same = ap (λ o. option_map_or (λ e. not (is_same_lodging slice it e.1)) o false) under_same ∙ by_case (mutation_with_reference r caller.party it.reference) refl
    where
      by_case : (o : Option (ℕ × MutationRecord)) → mutation_with_reference r caller.party it.reference ≡ o
          → option_map_or (λ e. not (is_same_lodging slice it e.1)) o false ≡ option_map_or (λ e. not (is_same_lodging r it e.1)) o false
      by_case None e = refl
      by_case (Some e) is = ap not (title_same e is)
