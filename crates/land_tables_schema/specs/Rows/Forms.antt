-- The content of a table, and the effect of a statement on it.
use Rattle.std.specs.Prelude.{◌≡◌, ◌≢◌, ℕ, true, List, ◌∷◌, map, IsPermutation}
use Rattle.std.specs.List.{AllByRecursion, IsDistinct}
use Rattle.std.specs.Ordering.{int_eq}
use Rattle.land_tables_schema.specs.Rows.ReadQueries.{columns_from, numbered_cells}
use Rattle.land_tables_schema.specs.Tables.{land_tables}
use Rattle.sqlite.specs.Effect.{Database}
use Rattle.sqlite_rules.specs.Calls.{ids_of}
use Rattle.sqlite_rules.specs.Edit.{have_rowids}
use Rattle.sqlite_schema.specs.declared.schema.Table.{Table}
use Rattle.sqlite_trees.specs.Tree.{Trees}
use Rattle.sqlite_value.specs.Order.{Row}

-- how values are stored in the rows of a table: the table, the number of cells that count after the rowid,
-- and the cells of a value
pub record Form (X : Type 0) : Type 0 where
  pub table : Table
  pub width : ℕ
  pub cells : X → Row

-- each row has a rowid, and no two rows have the same
pub record AreNumbered (rows : List Row) : Type 0 where
  pub whole : have_rowids rows ≡ true
  pub apart : IsDistinct int_eq (ids_of rows)

-- the table holds these values, one row each, in unspecified order; other columns of a row do not matter
pub record Holds {X : Type 0} (form : Form X) (db : Trees) (xs : List X) : Type 0 where
  pub rows : IsPermutation (map (columns_from 1 form.width) (db form.table.tree)) (map form.cells xs)
  pub numbered : AreNumbered (db form.table.tree)

-- all tables except this one are unchanged
abbrev pub KeepsOthers : Table → Trees → Trees → Type 0
KeepsOthers table old new =
    AllByRecursion (λ (t : Table). t.tree ≢ table.tree → new t.tree ≡ old t.tree) land_tables

-- one more value is held
pub record InsertsVersion {X : Type 0} (form : Form X) (x : X) (old new : Database) : Type 0 where
  pub schema : new.schema ≡ old.schema
  pub held : (xs : List X) → Holds form old.trees xs → Holds form new.trees (x ∷ xs)
  pub kept : KeepsOthers form.table old.trees new.trees

-- each value is replaced by its image under `turn`, which may be the value itself
pub record UpdatesRows {X : Type 0} (form : Form X) (turn : X → X) (old new : Database) : Type 0 where
  pub schema : new.schema ≡ old.schema
  pub held : (xs : List X) → Holds form old.trees xs → Holds form new.trees (map turn xs)
  pub kept : KeepsOthers form.table old.trees new.trees

-- A table whose rowid is its first column lists these values, one row each, in unspecified order. Only its
-- two columns matter.
abbrev pub Lists : {X : Type 0} → Table → (X → Row) → Trees → List X → Type 0
Lists table row db xs = IsPermutation (map numbered_cells (db table.tree)) (map row xs)

-- one more value is listed
pub record Appends {X : Type 0} (table : Table) (row : X → Row) (x : X) (old new : Database) : Type 0 where
  pub schema : new.schema ≡ old.schema
  pub listed : (xs : List X) → Lists table row old.trees xs → Lists table row new.trees (x ∷ xs)
  pub kept : KeepsOthers table old.trees new.trees
