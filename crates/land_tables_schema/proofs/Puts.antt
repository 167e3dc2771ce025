-- The content of a table after insertions, in unspecified order.
use Rattle.std.proofs.Common.{◌≡◌, List, [], ◌∷◌, ◌++◌, true, false, not, ◌||◌, IsPermutation}
use Rattle.std.specs.Ordering.{is_eq, match_ordering}
use Rattle.std.specs.declared.cmp.Ordering.{Ordering}
use Rattle.std.specs.declared.cmp.Ordering.TheVariants.{Less, Equal, Greater}
use Rattle.std.proofs.lemmas.List.Sorted.{IsPermutation-refl, IsPermutation-sym, IsPermutation-trans, IsPermutation-cons, IsPermutation-middle, IsPermutation-append_right}
use Rattle.std.proofs.lemmas.Bool.{and_parts, not-true}
use Rattle.sqlite_rules.specs.Edit.{is_taken, are_fresh, put_all}
use Rattle.sqlite_trees.specs.Tree.{rowid, put_row}
use Rattle.sqlite_value.specs.Order.{Row, value_cmp}

-- the first two items are exchanged
pub exchanged : {X : Type 0} (x y : X) (xs : List X) → IsPermutation (x ∷ y ∷ xs) (y ∷ x ∷ xs)
exchanged x y xs = IsPermutation-sym (y ∷ x ∷ xs) (x ∷ y ∷ xs) (IsPermutation-middle (y ∷ []) x xs)

-- a row with a free rowid is inserted among the others
pub put_is : (new : Row) (rows : List Row) → is_taken rows new ≡ false → IsPermutation (new ∷ rows) (put_row new rows)
put_is new [] free = IsPermutation-refl (new ∷ [])
put_is new (r ∷ rs) free = go (value_cmp (rowid r) (rowid new)) free (put_is new rs)
  where
    go : (o : Ordering) → (is_eq o || is_taken rs new) ≡ false → (is_taken rs new ≡ false → IsPermutation (new ∷ rs) (put_row new rs)) → IsPermutation (new ∷ r ∷ rs) (match_ordering o (r ∷ put_row new rs) (new ∷ rs) (new ∷ r ∷ rs))
    go Less free later = IsPermutation-trans (new ∷ r ∷ rs) (r ∷ new ∷ rs) (r ∷ put_row new rs) (exchanged new r rs) (IsPermutation-cons r (new ∷ rs) (put_row new rs) (later free))
    go Equal free later = absurd (let e = free in cc)
    go Greater free later = IsPermutation-refl (new ∷ r ∷ rs)

-- rows with free rowids are inserted among the others
pub puts_are : (news rows : List Row) → are_fresh rows news ≡ true → IsPermutation (news ++ rows) (put_all rows news)
puts_are [] rows fresh = IsPermutation-refl rows
puts_are (n ∷ ns) rows fresh =
    let h = and_parts (not (is_taken rows n)) (are_fresh (put_row n rows) ns) fresh in
    let free : is_taken rows n ≡ false = not-true (is_taken rows n) h.0 in
    IsPermutation-trans (n ∷ (ns ++ rows)) (ns ++ put_row n rows) (put_all (put_row n rows) ns)
    (IsPermutation-trans (n ∷ (ns ++ rows)) (ns ++ n ∷ rows) (ns ++ put_row n rows) (IsPermutation-sym (ns ++ n ∷ rows) (n ∷ (ns ++ rows)) (IsPermutation-middle ns n rows)) (IsPermutation-append_right ns (n ∷ rows) (put_row n rows) (put_is n rows free)))
    (puts_are ns (put_row n rows) h.1)
