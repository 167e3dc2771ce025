-- The tables that shapes describe.
use Rattle.std.specs.Prelude.{◌≡◌, ℕ, List, [], ◌∷◌, map, false, Option, Some, None}
use Rattle.land_tables_schema.specs.Columns.{keyed_table, lifespan_check, number_column, number_or_null}
use Rattle.land_tables_schema.specs.Columns.{numbered_table, words}
use Rattle.land_tables_schema.specs.Columns.{words_or_null}
use Rattle.land_tables_schema.specs.declared.shape.ColumnShape.{ColumnShape}
use Rattle.land_tables_schema.specs.declared.shape.ColumnShape.TheVariants as column
use Rattle.land_tables_schema.specs.declared.shape.Rows.{Rows}
use Rattle.land_tables_schema.specs.declared.shape.Rows.TheVariants as rows
use Rattle.land_tables_schema.specs.declared.shape.TableShape.{TableShape}
use Rattle.sqlite_schema.specs.declared.schema.Column.{Column}
use Rattle.sqlite_schema.specs.declared.schema.Table.{Table}
use Rattle.sqlite_sql.specs.Term.{Term}
use Rattle.sqlite_value.specs.declared.keys.Order.{Order}

-- the column of a shape
abbrev pub column_of : ColumnShape → Column
column_of (column.Number name) = number_column name.now
column_of (column.Words name) = words name.now
column_of (column.OptionalNumber name) = number_or_null name.now
column_of (column.OptionalWords name) = words_or_null name.now

-- the table with these rows
abbrev pub with_rows : Rows → List ℕ → ℕ → List Column → Table
with_rows rows.Numbered name tree columns = numbered_table name tree columns
with_rows (rows.Versioned key since until) name tree columns =
    keyed_table name tree columns key.now (lifespan_check since until)

-- the table of a shape
abbrev pub table_of : TableShape → Table
table_of s = with_rows s.rows s.name.now s.tree (map column_of s.columns.now)

-- the table has no foreign key, no computed default, no default that reads the time, and no counter
pub record IsPlain (t : Table) : Type 0 where
  pub references : t.references ≡ []
  pub computed : t.computed ≡ []
  pub stamps : t.stamps ≡ record { places = []; terms = []; formats = [] }
  pub uncounted : t.is_counted ≡ false

-- the key of a table's rows, and its CHECK
pub record AreKept (t : Table) (key : Option ℕ) (primary : List ℕ) (uniques : List (List ℕ))
    (orders : List Order) (checks : List Term) : Type 0 where
  pub key_is : t.key ≡ key
  pub primary_is : t.primary ≡ primary
  pub uniques_are : t.uniques ≡ uniques
  pub orders_are : t.orders ≡ orders
  pub checks_are : t.checks ≡ checks

-- the table has the key and the CHECK of a shape
abbrev pub HasRowsOf : Table → Rows → Type 0
HasRowsOf t rows.Numbered = AreKept t (Some 0) (0 ∷ []) [] [] []
HasRowsOf t (rows.Versioned key since until) =
    AreKept t None key.now (key.now ∷ []) ((record { digits = 0 }) ∷ []) (lifespan_check since until)
