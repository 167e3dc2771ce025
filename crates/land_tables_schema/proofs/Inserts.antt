-- The effect of an INSERT of one row on the content of a table.
use Rattle.std.proofs.Common.{◌≡◌, List, [], ◌∷◌, map, ℤ, Bool, true, false, not, ◌&&◌, refl, sym, ap, subst, ◌∙◌, IsPermutation}
use Rattle.std.proofs.lemmas.List.Sorted.{IsPermutation-sym, IsPermutation-trans, IsPermutation-cons, IsPermutation-map}
use Rattle.land_tables_schema.proofs.Numbers.{numbered_anyhow, numbered_more}
use Rattle.land_tables_schema.proofs.Puts.{puts_are}
use Rattle.land_tables_schema.proofs.Statements.{IsEdited, bare}
use Rattle.land_tables_schema.specs.Schemas.{schema_v2_with}
use Rattle.land_tables_schema.specs.Rows.Forms.{Form, Holds, InsertsVersion}
use Rattle.land_tables_schema.specs.Rows.ReadQueries.{columns_from}
use Rattle.sqlite.specs.Cast.{cast_row}
use Rattle.sqlite.specs.Edit.{edit_of}
use Rattle.sqlite.specs.Effect.{Database}
use Rattle.sqlite.specs.Rowids.TheVariants.{Chosen}
use Rattle.sqlite.specs.declared.types.Value.TheVariants.{Null, Int}
use Rattle.sqlite_rules.specs.Edit.{are_fresh, is_taken, next_rowid, numbered, put_all}
use Rattle.sqlite_schema.specs.declared.schema.Index.{Index}
use Rattle.sqlite_trees.specs.Tree.{put_row}
use Rattle.sqlite_value.specs.Order.{Row}

was_free : (b : Bool) → (not b && true) ≡ true → b ≡ false
was_free true h = absurd (let e = h in cc)
was_free false h = refl

module _ {X : Type 0} (form : Form X) (x : X) (fills : (id : ℤ) (x : X) → columns_from 1 form.width (Int id ∷ form.cells x) ≡ form.cells x) (indexes : List Index) (old new : Database)
    (is : IsEdited (schema_v2_with indexes) (edit_of old.trees (bare form.table) [] Chosen 0 ((Null ∷ form.cells x) ∷ [])) old new)
    (has : old.schema ≡ schema_v2_with indexes) (exact : cast_row (bare form.table) (Null ∷ form.cells x) ≡ Null ∷ form.cells x) where
  abbrev rows : List Row
  rows = old.trees form.table.tree

  abbrev cells_in : Row → Row
  cells_in r = columns_from 1 form.width r

  abbrev made : Row
  made = Int (next_rowid rows) ∷ form.cells x

  edit_is : (edit_of old.trees (bare form.table) [] Chosen 0 ((Null ∷ form.cells x) ∷ [])).news ≡ made ∷ []
  edit_is = ap (λ row. numbered Chosen rows (row ∷ [])) exact

  rows_are : new.trees form.table.tree ≡ put_row made rows
  rows_are = is.rows ∙ ap (put_all rows) edit_is

  fresh : are_fresh rows (made ∷ []) ≡ true
  fresh = subst (λ news. are_fresh rows news ≡ true) edit_is is.fresh

  moved : IsPermutation (made ∷ rows) (new.trees form.table.tree)
  moved = subst (IsPermutation (made ∷ rows)) (sym rows_are) (puts_are (made ∷ []) rows fresh)

  holds : (xs : List X) → Holds form old.trees xs → Holds form new.trees (x ∷ xs)
  holds xs held = record {
    rows = IsPermutation-trans (map cells_in (new.trees form.table.tree)) (form.cells x ∷ map cells_in rows) (form.cells x ∷ map form.cells xs)
        (IsPermutation-sym (form.cells x ∷ map cells_in rows) (map cells_in (new.trees form.table.tree))
        (subst (λ c. IsPermutation (c ∷ map cells_in rows) (map cells_in (new.trees form.table.tree))) (fills (next_rowid rows) x) (IsPermutation-map cells_in (made ∷ rows) (new.trees form.table.tree) moved)))
        (IsPermutation-cons (form.cells x) (map cells_in rows) (map form.cells xs) held.rows);
    numbered = numbered_anyhow (made ∷ rows) (new.trees form.table.tree) moved (numbered_more (next_rowid rows) (form.cells x) rows (was_free (is_taken rows made) fresh) held.numbered);
  }

  pub adds : InsertsVersion form x old new
  adds = record { schema = is.schema_is ∙ sym has; held = holds; kept = is.others }
