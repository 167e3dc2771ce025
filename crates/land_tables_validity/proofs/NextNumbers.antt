-- Binary search of the next number at a stamp.
use Rattle.std.proofs.Common.{◌≡◌, ℕ, zero, suc, ◌≤◌, ◌<◌, ◌⊎◌, inl, inr, Bool, true, false, ◌&&◌, List, [], ◌∷◌, length, get_or, if◌then◌else◌, refl, sym, ap, ◌∙◌, arith}
use Rattle.std.specs.Prelude.{ℤ, int_lt, nat_le}
use Rattle.std.proofs.lemmas.Int.{ints}
use Rattle.std.proofs.lemmas.List.Sorted.{searchable_from_sorted}
use Rattle.std.specs.Cmp.{int_cmp_total}
use Rattle.std.specs.List.{HoldsAt, list_all}
use Rattle.std.specs.List.Sorted.{IsNonDecreasingBy, IsPartitionPoint, IsSorted}
use Rattle.std.specs.Ordering.{int_cmp, int_eq, ordering_index}
use Rattle.std.specs.declared.cmp.Ordering.TheVariants.{Less, Equal, Greater}
use Rattle.std.proofs.lemmas.Bool.{and_parts}
use Rattle.land_tables_history.specs.declared.moment.Moment.{Moment}
use Rattle.land_tables_validity.proofs.MomentOrders.{all_go_up, neighbours}
use Rattle.land_tables_validity.specs.Chains.{precedes, is_increasing, stamp_cmp}
use Rattle.land_tables_validity.specs.NumbersInUse.{next_since}

is_it : (s t : ℤ) → int_cmp s t ≡ Equal → int_eq s t ≡ true
is_it s t e = grind (arith, ints)

is_less : (s t : ℤ) → int_cmp s t ≡ Less → int_eq s t ≡ false
is_less s t e = grind (arith, ints)

is_more : (s t : ℤ) → int_cmp s t ≡ Greater → int_eq s t ≡ false
is_more s t e = grind (arith, ints)

either_side : (k i : ℕ) → (k < i) ⊎ (i ≤ k)
either_side k i = grind arith

earlier : (a b t : ℤ) (x y : ℕ) → (int_lt a b && nat_le x y) ≡ true → int_eq b t ≡ true → int_eq a t ≡ false
earlier a b t x y p e = grind (arith, ints)

all_at : {X : Type 0} (p : X → Bool) (xs : List X) (i : ℕ) (d : X) → list_all p xs ≡ true → i < length xs → p (get_or xs i d) ≡ true
all_at p [] i d all less = absurd (omega (arith, less))
all_at p (x ∷ xs) zero d all less = (and_parts (p x) (list_all p xs) all).0
all_at p (x ∷ xs) (suc i) d all less = all_at p xs i d (and_parts (p x) (list_all p xs) all).1 (omega (arith, less))

-- if one commit is found, no other has its stamp
next_at_place : (ms : List Moment) (t : ℤ) (i : ℕ) (d : Moment) → all_go_up ms ≡ true → i < length ms
    → int_eq (get_or ms i d).stamp t ≡ true → next_since ms t ≡ (get_or ms i d).next
next_at_place [] t i d up less e = absurd (omega (arith, less))
next_at_place (m ∷ ms) t zero d up less e = ap (λ b. if b then m.next else next_since ms t) e
next_at_place (m ∷ ms) t (suc i) d up less e =
    let parts = and_parts (list_all (precedes m) ms) (all_go_up ms) up in
    let rest : i < length ms = omega (arith, less) in
    ap (λ b. if b then m.next else next_since ms t)
    (earlier m.stamp (get_or ms i d).stamp t m.next (get_or ms i d).next (all_at (precedes m) ms i d parts.0 rest) e)
    ∙ next_at_place ms t i d parts.1 rest e

none_there : (ms : List Moment) (t : ℤ) → ((k : ℕ) (d : Moment) → k < length ms → int_eq (get_or ms k d).stamp t ≡ false)
    → next_since ms t ≡ 0
none_there [] t none = refl
none_there (m ∷ ms) t none =
    ap (λ b. if b then m.next else next_since ms t) (none 0 m (omega arith))
    ∙ none_there ms t (λ k d less. none (suc k) d (omega (arith, less)))

module _ (ms : List Moment) (t : ℤ) where
  pub found_next : is_increasing ms ≡ true → (i : ℕ) → i < length ms → HoldsAt (λ m. int_cmp m.stamp t ≡ Equal) ms i → (d : Moment)
      → (get_or ms i d).next ≡ next_since ms t
  found_next up i less found d = sym (next_at_place ms t i d (sym (neighbours ms) ∙ up) less (is_it (get_or ms i d).stamp t (found d)))

  pub no_next : IsSorted stamp_cmp ms → (i : ℕ)
      → (IsNonDecreasingBy (λ m. ordering_index (int_cmp m.stamp t)) ms
      → IsPartitionPoint (λ m. int_cmp m.stamp t ≡ Less) (λ m. int_cmp m.stamp t ≡ Greater) ms i) → 0 ≡ next_since ms t
  no_next sorted i found =
      let parted = found (searchable_from_sorted int_cmp_total (λ (m : Moment). m.stamp) ms t sorted) in
      sym (none_there ms t (λ k d less.
      elim (either_side k i) [
        | inl before ↦ is_less (get_or ms k d).stamp t (parted.0 k d (omega arith) before)
        | inr after ↦ is_more (get_or ms k d).stamp t (parted.1 k d after less)
      ]))
