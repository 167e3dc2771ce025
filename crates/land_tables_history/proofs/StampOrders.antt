-- Binary search of a moment in sorted stamps.
use Rattle.std.proofs.Common.{◌≡◌, ℕ, zero, suc, ◌≤◌, ◌<◌, ◌⊎◌, inl, inr, Bool, true, false, ◌||◌, ◌&&◌, List, [], ◌∷◌, length, get_or, map as map_list, Result, Ok, Err, refl, sym, ap, ap₂, ◌∙◌, arith, IsPermutation}
use Rattle.std.specs.Prelude.{ℤ, pos, int_lt}
use Rattle.std.proofs.lemmas.Int.{ints}
use Rattle.std.proofs.lemmas.List.Sorted.{searchable_from_sorted}
use Rattle.std.specs.Cmp.{int_cmp_total}
use Rattle.std.specs.List.{HoldsAt, list_any}
use Rattle.std.specs.List.Sorted.{IsBinarySearchResult, IsSearchInRange, IsSorted}
use Rattle.std.specs.Ordering.{int_cmp, int_eq}
use Rattle.std.specs.Result.{is_ok}
use Rattle.std.specs.declared.cmp.Ordering.TheVariants.{Less, Equal, Greater}
use Rattle.land_core.proofs.Booleans.{or_true}
use Rattle.land_tables_history.proofs.Permutations.{any_permuted}
use Rattle.land_tables_history.specs.Intervals.{is_stamp_among, is_interval, is_interval_of, is_stamp}
use Rattle.land_tables_history.specs.Open.{never}
use Rattle.land_tables_history.specs.declared.moment.Moment.{Moment}
use Rattle.land_tables_history.specs.declared.version.Version.{Version}

some_from : {X : Type 0} (p : X → Bool) (xs : List X) (k : ℕ) → k < length xs → HoldsAt (λ x. p x ≡ true) xs k → list_any p xs ≡ true
some_from p [] k less holds = absurd (omega arith)
some_from p (x ∷ xs) zero less holds = ap (λ b. b || list_any p xs) (holds x)
some_from p (x ∷ xs) (suc k) less holds = ap (λ b. p x || b) (some_from p xs k (omega (arith, less)) holds) ∙ or_true (p x)

none_from : {X : Type 0} (p : X → Bool) (xs : List X) → ((k : ℕ) (d : X) → k < length xs → p (get_or xs k d) ≡ false) → list_any p xs ≡ false
none_from p [] h = refl
none_from p (x ∷ xs) h = ap (λ b. b || list_any p xs) (h 0 x (omega arith)) ∙ none_from p xs (λ k d less. h (suc k) d (omega (arith, less)))

is_it : (s t : ℤ) → int_cmp s t ≡ Equal → int_eq s t ≡ true
is_it s t e = grind (arith, ints)

is_less : (s t : ℤ) → int_cmp s t ≡ Less → int_eq s t ≡ false
is_less s t e = grind (arith, ints)

is_more : (s t : ℤ) → int_cmp s t ≡ Greater → int_eq s t ≡ false
is_more s t e = grind (arith, ints)

either_side : (k i : ℕ) → (k < i) ⊎ (i ≤ k)
either_side k i = grind arith

pub found_among : (stamps : List ℤ) (t : ℤ) (r : Result ℕ ℕ) → IsSorted int_cmp stamps → IsSearchInRange r (length stamps) → IsBinarySearchResult (λ y. int_cmp y t) stamps r → is_ok r ≡ is_stamp_among stamps t
found_among stamps t (Ok i) sorted bound found = sym (some_from (λ s. int_eq s t) stamps i bound (λ d. is_it (get_or stamps i d) t (found d)))
found_among stamps t (Err i) sorted bound found =
    let parted = found (searchable_from_sorted int_cmp_total (λ y. y) stamps t sorted) in
    sym (none_from (λ s. int_eq s t) stamps (λ k d less.
    elim (either_side k i) [
      | inl before ↦ is_less (get_or stamps k d) t (parted.0 k d (omega arith) before)
      | inr after ↦ is_more (get_or stamps k d) t (parted.1 k d after less)
    ]))

-- the stamps of commits, in unspecified order
among_stamps : (moments : List Moment) (t : ℤ) → is_stamp_among (map_list (λ m. m.stamp) moments) t ≡ is_stamp moments t
among_stamps [] t = refl
among_stamps (m ∷ ms) t = ap (λ b. int_eq m.stamp t || b) (among_stamps ms t)

pub same_stamps : (moments : List Moment) (stamps : List ℤ) → IsPermutation (map_list (λ m. m.stamp) moments) stamps → (t : ℤ) → is_stamp_among stamps t ≡ is_stamp moments t
same_stamps moments stamps p t = any_permuted (λ s. int_eq s t) (map_list (λ (m : Moment). m.stamp) moments) stamps p ∙ among_stamps moments t

pub same_interval : {X : Type 0} (moments : List Moment) (stamps : List ℤ) → IsPermutation (map_list (λ m. m.stamp) moments) stamps → (v : Version X) → is_interval_of stamps v ≡ is_interval moments v
same_interval moments stamps p v =
    ap₂ (λ a b. int_lt v.since v.until && a && (int_eq v.until never || b)) (same_stamps moments stamps p v.since) (same_stamps moments stamps p v.until)
