-- The content of a table after some of its rows were rewritten, in unspecified order.
use Rattle.std.proofs.Common.{◌≡◌, ℤ, List, [], ◌∷◌, ◌++◌, map, filter, Bool, true, false, not, ◌||◌, cond, refl, sym, ap, ap₂, subst, ◌∙◌, IsPermutation}
use Rattle.std.specs.List.{AllByRecursion, IsDistinct, list_any}
use Rattle.std.specs.Ordering.{int_eq}
use Rattle.std.proofs.lemmas.Bool.Decides.{Decides-int_eq}
use Rattle.std.proofs.lemmas.List.Sorted.{IsPermutation-refl, IsPermutation-trans, IsPermutation-cons, IsPermutation-middle}
use Rattle.std.proofs.lemmas.Map.Keys.{IsDistinct-head, IsDistinct-tail}
use Rattle.std.proofs.lemmas.Cmp.{int_eq_equiv}
use Rattle.sqlite_rules.specs.Edit.{without_all}
use Rattle.sqlite_trees.specs.Tree.{has_rowid, without_rowid}
use Rattle.sqlite_value.specs.Order.{Row}

-- the items that pass, changed, and then the others: together they are all items, each changed if it passes
pub turned_are : {X : Type 0} (p : X → Bool) (f : X → X) (xs : List X) → IsPermutation (map f (filter p xs) ++ filter (λ x. not (p x)) xs) (map (λ x. cond (p x) (f x) x) xs)
turned_are p f [] = IsPermutation-refl []
turned_are {X} p f (x ∷ xs) = go (p x) (turned_are p f xs)
  where
    go : (b : Bool) → IsPermutation (map f (filter p xs) ++ filter (λ x. not (p x)) xs) (map (λ x. cond (p x) (f x) x) xs)
        → IsPermutation (map f (cond b (x ∷ filter p xs) (filter p xs)) ++ cond (not b) (x ∷ filter (λ x. not (p x)) xs) (filter (λ x. not (p x)) xs)) (cond b (f x) x ∷ map (λ x. cond (p x) (f x) x) xs)
    go true rest = IsPermutation-cons (f x) _ _ rest
    go false rest = IsPermutation-trans _ (x ∷ (map f (filter p xs) ++ filter (λ x. not (p x)) xs)) _ (IsPermutation-middle (map f (filter p xs)) x (filter (λ x. not (p x)) xs)) (IsPermutation-cons x _ _ rest)

-- removing several rowids leaves the rows that have none of them
pub without_is : (ids : List ℤ) (rows : List Row) → without_all rows ids ≡ filter (λ r. not (list_any (λ id. has_rowid id r) ids)) rows
without_is [] rows = sym (all_kept rows)
  where
    all_kept : (rows : List Row) → filter (λ r. true) rows ≡ rows
    all_kept [] = refl
    all_kept (r ∷ rs) = ap (λ l. r ∷ l) (all_kept rs)
without_is (id ∷ ids) rows = without_is ids (without_rowid id rows) ∙ twice rows
  where
    twice : (rows : List Row) → filter (λ r. not (list_any (λ i. has_rowid i r) ids)) (filter (λ r. not (has_rowid id r)) rows) ≡ filter (λ r. not (has_rowid id r || list_any (λ i. has_rowid i r) ids)) rows
    twice [] = refl
    twice (r ∷ rs) = go (has_rowid id r) (list_any (λ i. has_rowid i r) ids) refl (twice rs)
      where
        go : (a b : Bool) → list_any (λ i. has_rowid i r) ids ≡ b → filter (λ r. not (list_any (λ i. has_rowid i r) ids)) (filter (λ r. not (has_rowid id r)) rs) ≡ filter (λ r. not (has_rowid id r || list_any (λ i. has_rowid i r) ids)) rs
            → filter (λ r. not (list_any (λ i. has_rowid i r) ids)) (cond (not a) (r ∷ filter (λ r. not (has_rowid id r)) rs) (filter (λ r. not (has_rowid id r)) rs))
            ≡ cond (not (a || b)) (r ∷ filter (λ r. not (has_rowid id r || list_any (λ i. has_rowid i r) ids)) rs) (filter (λ r. not (has_rowid id r || list_any (λ i. has_rowid i r) ids)) rs)
        go true b is rest = rest
        go false true is rest = rw is rest
        go false false is rest = rw is (ap (λ l. r ∷ l) rest)

-- filters by tests that agree on the list
pub filter_by : {X : Type 0} (p q : X → Bool) (xs : List X) → AllByRecursion (λ x. p x ≡ q x) xs → filter p xs ≡ filter q xs
filter_by p q [] same = refl
filter_by p q (x ∷ xs) same = ap₂ (λ b l. cond b (x ∷ l) l) same.0 (filter_by p q xs same.1)

module _ {X : Type 0} (id : X → ℤ) (p : X → Bool) where
  -- whether an item with the same number passes
  abbrev is_among : List X → X → Bool
  is_among xs x = list_any (λ i. int_eq (id x) i) (map id (filter p xs))

  flipped : (a b : ℤ) → int_eq a b ≡ false → int_eq b a ≡ false
  flipped a b h = go (int_eq b a) refl
    where
      go : (c : Bool) → int_eq b a ≡ c → int_eq b a ≡ false
      go true is =
          let same : b ≡ a = (Decides-int_eq b a).0 is in
          let alike : int_eq a b ≡ true = subst (λ z. int_eq z b ≡ true) same (int_eq_equiv.refl b) in
          absurd (let e : true ≡ false = sym alike ∙ h in cc)
      go false is = is

  none_among : (x : X) (xs : List X) → AllByRecursion (λ y. int_eq (id x) y ≡ false) (map id xs) → is_among xs x ≡ false
  none_among x [] apart = refl
  none_among x (y ∷ ys) apart = go (p y) (none_among x ys apart.1)
    where
      go : (b : Bool) → is_among ys x ≡ false → list_any (λ i. int_eq (id x) i) (map id (cond b (y ∷ filter p ys) (filter p ys))) ≡ false
      go true rest = rw (apart.0) rest
      go false rest = rest

  -- if numbers are distinct, an item with the same number passes if and only if the item itself does
  pub among_is : (xs : List X) → IsDistinct int_eq (map id xs) → AllByRecursion (λ x. is_among xs x ≡ p x) xs
  among_is [] apart = tt
  among_is (x ∷ xs) apart =
      let away = IsDistinct-head int_eq (id x) (map id xs) apart in
      (first (p x) refl (none_among x xs away), later (p x) xs away (among_is xs (IsDistinct-tail int_eq (id x) (map id xs) apart)))
    where
      first : (b : Bool) → p x ≡ b → is_among xs x ≡ false → list_any (λ i. int_eq (id x) i) (map id (cond b (x ∷ filter p xs) (filter p xs))) ≡ b
      first true is rest = rw (int_eq_equiv.refl (id x)) refl
      first false is rest = rest

      later : (b : Bool) (ys : List X) → AllByRecursion (λ y. int_eq (id x) y ≡ false) (map id ys) → AllByRecursion (λ y. is_among xs y ≡ p y) ys
          → AllByRecursion (λ y. list_any (λ i. int_eq (id y) i) (map id (cond b (x ∷ filter p xs) (filter p xs))) ≡ p y) ys
      later b [] away all = tt
      later true (y ∷ ys) away all = (rw (flipped (id x) (id y) away.0) all.0, later true ys away.1 all.1)
      later false (y ∷ ys) away all = (all.0, later false ys away.1 all.1)
