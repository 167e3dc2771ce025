-- The effect of an INSERT of one row on a table whose rowid is its first column.
use Rattle.std.proofs.Common.{◌≡◌, ℤ, List, [], ◌∷◌, map, true, sym, ap, subst, ◌∙◌, IsPermutation}
use Rattle.std.proofs.lemmas.List.Sorted.{IsPermutation-sym, IsPermutation-trans, IsPermutation-cons, IsPermutation-map}
use Rattle.land_tables_schema.proofs.Puts.{puts_are}
use Rattle.land_tables_schema.proofs.Statements.{IsEdited, bare}
use Rattle.land_tables_schema.specs.Schemas.{schema_v2_with}
use Rattle.land_tables_schema.specs.Rows.Forms.{Lists, Appends}
use Rattle.land_tables_schema.specs.Rows.ReadQueries.{numbered_cells}
use Rattle.sqlite.specs.Cast.{cast_row}
use Rattle.sqlite.specs.Edit.{edit_of}
use Rattle.sqlite.specs.Effect.{Database}
use Rattle.sqlite.specs.Rowids.TheVariants.{Chosen}
use Rattle.sqlite.specs.declared.types.Value.TheVariants.{Int}
use Rattle.sqlite_rules.specs.Edit.{are_fresh, numbered, put_all}
use Rattle.sqlite_schema.specs.declared.schema.Index.{Index}
use Rattle.sqlite_schema.specs.declared.schema.Table.{Table}
use Rattle.sqlite_value.specs.Order.{Row}

module _ {X : Type 0} (table : Table) (row : X → Row) (x : X) (id : ℤ) (cells : Row) (row_is : numbered_cells (Int id ∷ cells) ≡ row x) (indexes : List Index) (old new : Database)
    (is : IsEdited (schema_v2_with indexes) (edit_of old.trees (bare table) [] Chosen 0 ((Int id ∷ cells) ∷ [])) old new)
    (has : old.schema ≡ schema_v2_with indexes) (exact : cast_row (bare table) (Int id ∷ cells) ≡ Int id ∷ cells) where
  abbrev rows : List Row
  rows = old.trees table.tree

  edit_is : (edit_of old.trees (bare table) [] Chosen 0 ((Int id ∷ cells) ∷ [])).news ≡ (Int id ∷ cells) ∷ []
  edit_is = ap (λ row. numbered Chosen rows (row ∷ [])) exact

  moved : IsPermutation ((Int id ∷ cells) ∷ rows) (new.trees table.tree)
  moved = subst (IsPermutation ((Int id ∷ cells) ∷ rows)) (sym (is.rows ∙ ap (put_all rows) edit_is))
      (puts_are ((Int id ∷ cells) ∷ []) rows (subst (λ news. are_fresh rows news ≡ true) edit_is is.fresh))

  lists : (xs : List X) → Lists table row old.trees xs → Lists table row new.trees (x ∷ xs)
  lists xs held =
      let shown : IsPermutation (row x ∷ map numbered_cells rows) (map numbered_cells (new.trees table.tree)) =
      subst (λ r. IsPermutation (r ∷ map numbered_cells rows) (map numbered_cells (new.trees table.tree))) row_is (IsPermutation-map numbered_cells ((Int id ∷ cells) ∷ rows) (new.trees table.tree) moved) in
      IsPermutation-trans (map numbered_cells (new.trees table.tree)) (row x ∷ map numbered_cells rows) (row x ∷ map row xs)
      (IsPermutation-sym (row x ∷ map numbered_cells rows) (map numbered_cells (new.trees table.tree)) shown) (IsPermutation-cons (row x) (map numbered_cells rows) (map row xs) held)

  pub appends : Appends table row x old new
  appends = record { schema = is.schema_is ∙ sym has; listed = lists; kept = is.others }
