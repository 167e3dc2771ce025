-- Tables whose rows have distinct rowids.
use Rattle.std.proofs.Common.{◌≡◌, ℤ, List, [], ◌∷◌, map, true, false, ◌&&◌, refl, sym, ap, subst, ◌∙◌, IsPermutation}
use Rattle.std.specs.List.{AllByRecursion, IsDistinct, list_all}
use Rattle.std.specs.Ordering.{is_eq, int_eq}
use Rattle.std.proofs.lemmas.List.Sorted.{IsPermutation-map}
use Rattle.std.proofs.lemmas.Map.Keys.{IsDistinct-cons, IsDistinct-IsPermutation}
use Rattle.std.proofs.lemmas.Bool.{and_parts, or_parts}
use Rattle.std.proofs.lemmas.Cmp.{int_eq_equiv}
use Rattle.land_tables_schema.specs.Rows.Forms.{AreNumbered}
use Rattle.sqlite_keyed.proofs.ListLemmas.{all_from_test, map-map, test_from_all}
use Rattle.sqlite_rules.proofs.TableLemmas.{int_is}
use Rattle.sqlite_rules.specs.Calls.{ids_of}
use Rattle.sqlite_rules.specs.Edit.{id_in, is_taken, have_rowids}
use Rattle.sqlite_trees.proofs.ListLemmas.{all-permutation}
use Rattle.sqlite_trees.specs.Tree.{rowid}
use Rattle.sqlite_trees.specs.View.{is_int}
use Rattle.sqlite_value.proofs.OrderLemmas.{value_cmp-Int}
use Rattle.sqlite_value.specs.Order.{Row, value_cmp}
use Rattle.sqlite_value.specs.declared.value.Value.TheVariants.{Int}

-- also in any order
pub numbered_anyhow : (rows others : List Row) → IsPermutation rows others → AreNumbered rows → AreNumbered others
numbered_anyhow rows others moved n = record {
  whole = test_from_all (λ r. is_int (rowid r)) others (all-permutation (λ r. is_int (rowid r) ≡ true) rows others moved (all_from_test (λ r. is_int (rowid r)) rows n.whole));
  apart = IsDistinct-IsPermutation int_eq int_eq_equiv.symm (ids_of rows) (ids_of others) (IsPermutation-map (λ r. id_in (rowid r)) rows others moved) n.apart;
}

-- a free rowid is not among the existing ones
free_apart : (z : ℤ) (cells : Row) (rows : List Row) → have_rowids rows ≡ true → is_taken rows (Int z ∷ cells) ≡ false → AllByRecursion (λ i. int_eq z i ≡ false) (ids_of rows)
free_apart z cells [] whole free = tt
free_apart z cells (r ∷ rs) whole free =
    let h = and_parts (is_int (rowid r)) (have_rowids rs) whole in
    let k = or_parts (is_eq (value_cmp (rowid r) (Int z))) (is_taken rs (Int z ∷ cells)) free in
    let here : int_eq (id_in (rowid r)) z ≡ false = sym (ap is_eq (ap (λ v. value_cmp v (Int z)) (int_is (rowid r) h.0) ∙ value_cmp-Int (id_in (rowid r)) z)) ∙ k.0 in
    (int_eq_equiv.symm z (id_in (rowid r)) ∙ here, free_apart z cells rs h.1 k.1)

-- also with one more row, whose rowid was free
pub numbered_more : (z : ℤ) (cells : Row) (rows : List Row) → is_taken rows (Int z ∷ cells) ≡ false → AreNumbered rows → AreNumbered ((Int z ∷ cells) ∷ rows)
numbered_more z cells rows free n = record {
  whole = n.whole;
  apart = IsDistinct-cons int_eq z (ids_of rows) (free_apart z cells rows n.whole free) n.apart;
}

whole_is : (rows : List Row) → have_rowids rows ≡ list_all is_int (map rowid rows)
whole_is [] = refl
whole_is (r ∷ rs) = ap (λ b. is_int (rowid r) && b) (whole_is rs)

-- also for rows with the same rowids
pub numbered_same : (rows others : List Row) → map rowid rows ≡ map rowid others → AreNumbered rows → AreNumbered others
numbered_same rows others same n = record {
  whole = whole_is others ∙ ap (list_all is_int) (sym same) ∙ sym (whole_is rows) ∙ n.whole;
  apart = subst (IsDistinct int_eq) (sym (map-map id_in rowid rows) ∙ ap (map id_in) same ∙ map-map id_in rowid others) n.apart;
}
