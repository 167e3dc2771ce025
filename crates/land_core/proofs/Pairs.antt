-- Pairs of the values of a map: the greater numbers are those of the later entries.
use Rattle.std.proofs.Common.{◌≡◌, ℕ, ◌<◌, Bool, true, false, cond, ◌||◌, ◌&&◌, nat_eq, nat_lt, List, [], ◌∷◌, refl, sym, ap, ◌∙◌, arith}
use Rattle.std.proofs.lemmas.Bool.{false≢true, lt-ltb, le-ltb, ltb-true, and_parts}
use Rattle.std.specs.FinMap as map
use Rattle.std.specs.FinMap.{FinMap, is_sorted}
use Rattle.std.specs.FinMap.Entries.{below_all}
use Rattle.std.specs.List.{AllByRecursion, list_any}
use Rattle.std.specs.Ordering.{nat_cmp, is_lt}
use Rattle.std.specs.declared.cmp.Ordering.TheVariants.{Less, Equal, Greater}
use Rattle.land_core.proofs.Booleans.{T_true}
use Rattle.land_core.specs.Entries.{some}

-- tests that agree pass alike
pub list_any_same : {X : Type 0} (p q : X → Bool) → ((x : X) → p x ≡ q x) → (xs : List X) → list_any p xs ≡ list_any q xs
list_any_same p q h [] = refl
list_any_same p q h (x ∷ xs) = ap (λ b. b || list_any p xs) (h x) ∙ ap (λ b. q x || b) (list_any_same p q h xs)

-- if each item of a list passes two tests alike, the list does
list_any_alike : {X : Type 0} (p q : X → Bool) (xs : List X) → AllByRecursion (λ x. p x ≡ q x) xs → list_any p xs ≡ list_any q xs
list_any_alike p q [] h = refl
list_any_alike p q (x ∷ xs) h = ap (λ b. b || list_any p xs) h.0 ∙ ap (λ b. q x || b) (list_any_alike p q xs h.1)

-- two numbers that are in order
less : (m n : ℕ) → is_lt (nat_cmp m n) ≡ true → m < n
less m n h = ltb-true m n (elim (nat_lt m n) as (λ b. is_lt (cond b Less (cond (nat_eq m n) Equal Greater)) ≡ true → b ≡ true) [ true ↦ λ e. refl | false ↦ λ e. absurd (false≢true (sym (not_less (nat_eq m n)) ∙ e)) ] h)
  where
    not_less : (b : Bool) → is_lt (cond b Equal Greater) ≡ false
    not_less true = refl
    not_less false = refl

module _ {V : Type 0} (test : V → V → Bool) where
  -- whether an entry passes the test with a later one
  abbrev pub some_pair : List (ℕ × V) → Bool
  some_pair [] = false
  some_pair (e ∷ es) = list_any (λ f. test e.1 f.1) es || some_pair es

  -- the order of a later entry and the first
  first_test : (e : ℕ × V) (es : List (ℕ × V)) → below_all nat_cmp e.0 es ≡ true → AllByRecursion (λ f. (nat_lt e.0 f.0 && test e.1 f.1) ≡ test e.1 f.1) es
  first_test e [] h = tt
  first_test e (f ∷ fs) h = (
    ap (λ t. t && test e.1 f.1) (lt-ltb e.0 f.0 (less e.0 f.0 (and_parts _ _ h).0)),
    first_test e fs (and_parts _ _ h).1,
  )

  back_test : (e : ℕ × V) (all es : List (ℕ × V)) → below_all nat_cmp e.0 es ≡ true
      → AllByRecursion (λ f. (nat_lt f.0 e.0 && test f.1 e.1 || list_any (λ x. nat_lt f.0 x.0 && test f.1 x.1) all) ≡ list_any (λ x. nat_lt f.0 x.0 && test f.1 x.1) all) es
  back_test e all [] h = tt
  back_test e all (f ∷ fs) h =
      let lt : e.0 < f.0 = less e.0 f.0 (and_parts _ _ h).0 in (
        ap (λ t. t && test f.1 e.1 || list_any (λ x. nat_lt f.0 x.0 && test f.1 x.1) all) (le-ltb f.0 e.0 (omega arith)),
        back_test e all fs (and_parts _ _ h).1,
      )

  -- among entries in order a greater number is a later one
  in_order : (es : List (ℕ × V)) → is_sorted nat_cmp es ≡ true → list_any (λ e. list_any (λ f. nat_lt e.0 f.0 && test e.1 f.1) es) es ≡ some_pair es
  in_order [] s = refl
  in_order (e ∷ es) s =
      let below = (and_parts _ _ s).0 in
      let first : (nat_lt e.0 e.0 && test e.1 e.1 || list_any (λ f. nat_lt e.0 f.0 && test e.1 f.1) es) ≡ list_any (λ f. test e.1 f.1) es =
      ap (λ t. t && test e.1 e.1 || list_any (λ f. nat_lt e.0 f.0 && test e.1 f.1) es) (le-ltb e.0 e.0 (omega arith))
      ∙ list_any_alike (λ f. nat_lt e.0 f.0 && test e.1 f.1) (λ f. test e.1 f.1) es (first_test e es below) in
      let rest : list_any (λ f. nat_lt f.0 e.0 && test f.1 e.1 || list_any (λ x. nat_lt f.0 x.0 && test f.1 x.1) es) es ≡ some_pair es =
      list_any_alike (λ f. nat_lt f.0 e.0 && test f.1 e.1 || list_any (λ x. nat_lt f.0 x.0 && test f.1 x.1) es) (λ f. list_any (λ x. nat_lt f.0 x.0 && test f.1 x.1) es) es (back_test e es es below)
      ∙ in_order es (and_parts _ _ s).1 in
      ap (λ t. t || list_any (λ f. nat_lt f.0 e.0 && test f.1 e.1 || list_any (λ x. nat_lt f.0 x.0 && test f.1 x.1) es) es) first
      ∙ ap (λ t. list_any (λ f. test e.1 f.1) es || t) rest

  -- whether a value passes the test with one at a greater number
  pub later_pairs : (m : FinMap nat_cmp V) → some (λ n v. some (λ k w. nat_lt n k && test v w) m) m ≡ some_pair (map.entries m)
  later_pairs m = in_order (map.entries m) (T_true _ (map.entries_sorted m))
