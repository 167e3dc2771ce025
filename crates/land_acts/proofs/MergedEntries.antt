-- The remaining entries of a map when the entries at listed numbers end, or those that satisfy a condition.
use Rattle.std.proofs.Common.{◌≡◌, ◌≤◌, ℕ, Bool, true, false, cond, ◌&&◌, ◌||◌, not, Option, Some, None, List, [], ◌∷◌, length, suc, refl, sym, ap, ◌∙◌, subst, arith}
use Rattle.std.specs.Prelude.{filter, nat_eq, nat_lt}
use Rattle.std.specs.List.{list_any}
use Rattle.std.specs.Option.{option_map_or}
use Rattle.std.specs.Ordering.{nat_cmp}
use Rattle.std.specs.Cmp.{nat_cmp_total, eq_by_cmp_equiv}
use Rattle.std.specs.FinMap as map
use Rattle.std.specs.FinMap.{FinMap, nat_cmp-IsAntisymmetric}
use Rattle.std.proofs.lemmas.Bool.Decides.{nat_tests}
use Rattle.land_acts.proofs.KeptEntries.{get-kept, kept_at}
use Rattle.land_acts.proofs.NumberTests.{at_as_some}
use Rattle.land_acts.proofs.Numbers.{tied_number}
use Rattle.land_core.proofs.Booleans.{and_turned}
use Rattle.land_core.proofs.FiniteMaps.{none_is_not_some}
use Rattle.land_core.proofs.Reflection.{list_any-map}
use Rattle.land_core.specs.Entries.{numbers_where, entries_where, without}
use Rattle.land_core.specs.Mergers.{lists_number}

-- ---- filtered lists

-- an item that remains satisfies a condition exactly if an item satisfies both
any-filter : {X : Type 0} (t p : X → Bool) (xs : List X) → list_any t (filter p xs) ≡ list_any (λ x. p x && t x) xs
any-filter t p [] = refl
any-filter t p (x ∷ xs) =
    let rest = any-filter t p xs in
    elim (p x) as (λ b. list_any t (cond b (x ∷ filter p xs) (filter p xs)) ≡ (b && t x || list_any (λ x. p x && t x) xs)) [
      | true ↦ ap (λ b. t x || b) rest
      | false ↦ rest
    ]

-- an item of the filtered list satisfies both conditions
pub filter-filter : {X : Type 0} (p q : X → Bool) (xs : List X) → filter p (filter q xs) ≡ filter (λ x. p x && q x) xs
filter-filter p q [] = refl
filter-filter {X} p q (x ∷ xs) =
    let rest = filter-filter p q xs in
    elim (q x) as (λ b. filter p (cond b (x ∷ filter q xs) (filter q xs)) ≡ cond (p x && b) (x ∷ filter (λ x. p x && q x) xs) (filter (λ x. p x && q x) xs)) [
      | true ↦ elim (p x) as (λ c. cond c (x ∷ filter p (filter q xs)) (filter p (filter q xs)) ≡ cond (c && true) (x ∷ filter (λ x. p x && q x) xs) (filter (λ x. p x && q x) xs)) [
        | true ↦ ap (λ (it : List X). x ∷ it) rest
        | false ↦ rest
      ]
      | false ↦ elim (p x) as (λ c. filter p (filter q xs) ≡ cond (c && false) (x ∷ filter (λ x. p x && q x) xs) (filter (λ x. p x && q x) xs)) [ true ↦ rest | false ↦ rest ]
    ]

-- no more items satisfy both conditions than the first one
pub fewer_pass_both : {X : Type 0} (p q : X → Bool) (xs : List X) → length (filter (λ x. p x && q x) xs) ≤ length (filter p xs)
fewer_pass_both p q [] = omega arith
fewer_pass_both {X} p q (x ∷ xs) =
    let rest = fewer_pass_both p q xs in
    elim (p x) as (λ b. length (cond (b && q x) (x ∷ filter (λ x. p x && q x) xs) (filter (λ x. p x && q x) xs)) ≤ length (cond b (x ∷ filter p xs) (filter p xs))) [
      | true ↦ elim (q x) as (λ c. length (cond c (x ∷ filter (λ x. p x && q x) xs) (filter (λ x. p x && q x) xs)) ≤ length (x ∷ filter p xs)) [ true ↦ omega (arith, rest) | false ↦ omega (arith, rest) ]
      | false ↦ rest
    ]

-- if the count is zero, no item satisfies the condition
pub none_counted : {X : Type 0} (p : X → Bool) (xs : List X) → nat_lt 0 (length (filter p xs)) ≡ false → list_any p xs ≡ false
none_counted p [] h = refl
none_counted {X} p (x ∷ xs) h =
    elim (p x) as (λ b. nat_lt 0 (length (cond b (x ∷ filter p xs) (filter p xs))) ≡ false → (b || list_any p xs) ≡ false) [
      | true ↦ λ some. absurd (some_counted (length (filter p xs)) some)
      | false ↦ λ none. none_counted p xs none
    ] h
  where
    some_counted : (n : ℕ) → nat_lt 0 (suc n) ≡ false → ⊥
    some_counted n h = grind (arith, nat_tests)

-- ---- the remaining entries

module _ {V : Type 0} where
  -- there is no entry at a listed number
  pub get-without : (m : FinMap nat_cmp V) (ks : List ℕ) (n : ℕ) → map.get (without m ks) n ≡ cond (lists_number ks n) None (map.get m n)
  get-without m [] n = refl
  get-without m (k ∷ ks) n =
      get-without (map.remove m k) ks n
      ∙ ap (cond (lists_number ks n) None) (map.get-remove nat_cmp_total m k n ∙ ap (λ b. cond b None (map.get m n)) ((eq_by_cmp_equiv nat_cmp_total).symm n k ∙ tied_number k n))
      ∙ either (nat_eq k n) (lists_number ks n) (map.get m n)
    where
      either : (b c : Bool) (o : Option V) → cond c None (cond b None o) ≡ cond (b || c) None o
      either true true o = refl
      either true false o = refl
      either false c o = refl

  -- the entries at the other numbers
  pub without_as_only : (m : FinMap nat_cmp V) (ks : List ℕ) → without m ks ≡ entries_where (λ n v. not (lists_number ks n)) m
  without_as_only m ks = map.same_map nat_cmp_total nat_cmp-IsAntisymmetric (without m ks) (entries_where (λ n v. not (lists_number ks n)) m) (λ q.
      get-without m ks q ∙ left (lists_number ks q) (map.get m q) q refl ∙ sym (get-kept (λ n v. not (lists_number ks n)) m q))
    where
      left : (b : Bool) (o : Option V) (q : ℕ) → lists_number ks q ≡ b → cond b None o ≡ kept_at (λ n v. not (lists_number ks n)) q o
      left true None q is = refl
      left false None q is = refl
      left true (Some v) q is = sym (ap (λ b. cond (not b) (Some v) None) is)
      left false (Some v) q is = sym (ap (λ b. cond (not b) (Some v) None) is)

  -- the number of an entry that satisfies a condition is among their numbers
  pub lists_where : (m : FinMap nat_cmp V) (test : V → Bool) (n : ℕ) → lists_number (numbers_where (λ k v. test v) m) n ≡ option_map_or test (map.get m n) false
  lists_where m test n =
      list_any-map (λ it. nat_eq it n) (λ e. e.0) (filter (λ e. test e.1) (map.entries m))
      ∙ any-filter (λ e. nat_eq e.0 n) (λ e. test e.1) (map.entries m)
      ∙ swapped (map.entries m)
      ∙ sym (at_as_some m test n)
    where
      swapped : (es : List (ℕ × V)) → list_any (λ e. test e.1 && nat_eq e.0 n) es ≡ list_any (λ e. nat_eq e.0 n && test e.1) es
      swapped [] = refl
      swapped (e ∷ es) = ap (λ b. b || list_any (λ e. test e.1 && nat_eq e.0 n) es) (and_turned (test e.1) (nat_eq e.0 n)) ∙ ap (λ b. (nat_eq e.0 n && test e.1) || b) (swapped es)

  -- if all entries that satisfy a condition end, the others remain
  pub without_where : (m : FinMap nat_cmp V) (test : V → Bool) → without m (numbers_where (λ k v. test v) m) ≡ entries_where (λ k v. not (test v)) m
  without_where m test = map.same_map nat_cmp_total nat_cmp-IsAntisymmetric (without m (numbers_where (λ k v. test v) m)) (entries_where (λ k v. not (test v)) m) (λ q.
      get-without m (numbers_where (λ k v. test v) m) q ∙ ap (λ b. cond b None (map.get m q)) (lists_where m test q) ∙ left q (map.get m q) ∙ sym (get-kept (λ k v. not (test v)) m q))
    where
      left : (q : ℕ) (o : Option V) → cond (option_map_or test o false) None o ≡ kept_at (λ k v. not (test v)) q o
      left q None = refl
      left q (Some v) = elim (test v) as (λ b. cond b None (Some v) ≡ cond (not b) (Some v) None) [ true ↦ refl | false ↦ refl ]

-- an entry that remains satisfies the condition, and existed before
pub record IsKept {V : Type 0} (p : ℕ → V → Bool) (m : FinMap nat_cmp V) (n : ℕ) (v : V) : Type 0 where
  pub before : map.get m n ≡ Some v
  pub passes : p n v ≡ true

pub kept_from : {V : Type 0} (p : ℕ → V → Bool) (m : FinMap nat_cmp V) (n : ℕ) (v : V) → map.get (entries_where p m) n ≡ Some v → IsKept p m n v
kept_from {V} p m n v is = found (map.get m n) refl (sym (get-kept p m n) ∙ is)
  where
    passed : (b : Bool) (w : V) → p n w ≡ b → cond b (Some w) None ≡ Some v → map.get m n ≡ Some w → IsKept p m n v
    passed true w passes e there = record { before = there ∙ e; passes = subst (λ (x : V). p n x ≡ true) (same e) passes }
      where
        same : Some w ≡ Some v → w ≡ v
        same e = cc
    passed false w fails e there = absurd (none_is_not_some e)

    found : (o : Option V) → map.get m n ≡ o → kept_at p n o ≡ Some v → IsKept p m n v
    found None there e = absurd (none_is_not_some e)
    found (Some w) there e = passed (p n w) w refl e there

-- and an entry that existed and satisfies the condition remains
pub kept_to : {V : Type 0} (p : ℕ → V → Bool) (m : FinMap nat_cmp V) (n : ℕ) (v : V) → map.get m n ≡ Some v → p n v ≡ true → map.get (entries_where p m) n ≡ Some v
kept_to p m n v there passes = get-kept p m n ∙ ap (kept_at p n) there ∙ ap (λ b. cond b (Some v) None) passes
