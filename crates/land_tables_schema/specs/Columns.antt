-- Columns and tables as SQLite describes them in its schema. Words and canonical texts are TEXT, all other
-- columns are INTEGER.
use Rattle.std.specs.Prelude.{ℕ, suc, List, [], ◌∷◌, ◌++◌, Bool, true, false, Some, None, codes, length}
use Rattle.sqlite_schema.specs.declared.schema.Column.{Column}
use Rattle.sqlite_schema.specs.declared.schema.Kind.{Kind}
use Rattle.sqlite_schema.specs.declared.schema.Kind.TheVariants.{Integer, Text}
use Rattle.sqlite_schema.specs.declared.schema.Table.{Table}
use Rattle.sqlite_sql.specs.Term.{Term, col, op2}
use Rattle.sqlite_sql.specs.declared.ops.BinaryOp.TheVariants.{Compare}
use Rattle.sqlite_sql.specs.declared.ops.CompareOp.TheVariants.{Lt}
use Rattle.sqlite_value.specs.declared.keys.Collation.TheVariants.{Binary}
use Rattle.sqlite_value.specs.declared.value.Value.TheVariants.{Null}

-- a column of a STRICT table with this name and type, NOT NULL if `is_needed`; without a default, compared
-- byte by byte
abbrev pub a_column : List ℕ → Kind → Bool → Column
a_column name kind not_null =
    record {
      name = name;
      kind = kind;
      is_strict = true;
      not_null = not_null;
      default = Null;
      collation = Binary;
    }

-- an integer column, NOT NULL
abbrev pub number_column : List ℕ → Column
number_column name = a_column name Integer true

-- a text column, NOT NULL
abbrev pub words : List ℕ → Column
words name = a_column name Text true

-- an integer column that may be NULL
abbrev pub number_or_null : List ℕ → Column
number_or_null name = a_column name Integer false

-- a text column that may be NULL
abbrev pub words_or_null : List ℕ → Column
words_or_null name = a_column name Text false

-- CHECK (since < until), by the positions of the two columns: a lifespan begins before it ends
abbrev pub lifespan_check : ℕ → ℕ → List Term
lifespan_check since until = op2 (Compare Lt Binary) (col 1 since) (col 1 until) ∷ []

-- a table whose rowid is its first column (INTEGER PRIMARY KEY), without a CHECK
abbrev pub numbered_table : List ℕ → ℕ → List Column → Table
numbered_table name tree columns = record {
  name = name;
  tree = tree;
  columns = columns;
  key = Some 0;
  primary = 0 ∷ [];
  uniques = [];
  orders = [];
  checks = [];
  references = [];
  computed = [];
  stamps = record { places = []; terms = []; formats = [] };
  is_counted = false;
}

-- a table with a primary key on these columns, all ascending, and with these CHECKs
abbrev pub keyed_table : List ℕ → ℕ → List Column → List ℕ → List Term → Table
keyed_table name tree columns key checks = record {
  name = name;
  tree = tree;
  columns = columns;
  key = None;
  primary = key;
  uniques = key ∷ [];
  orders = (record { digits = 0 }) ∷ [];
  checks = checks;
  references = [];
  computed = [];
  stamps = record { places = []; terms = []; formats = [] };
  is_counted = false;
}

-- A versioned table: its own columns, then `since` and `until`. Each lifespan begins before it ends. The
-- primary key is the positions of the named key, then `since`.
abbrev pub versioned_table : List ℕ → ℕ → List ℕ → List Column → Table
versioned_table name tree key columns =
    let since = suc (length columns) in
    keyed_table name tree (columns ++ number_column (codes "since") ∷ number_column (codes "until") ∷ [])
    (key ++ since ∷ []) (lifespan_check since (suc since))
