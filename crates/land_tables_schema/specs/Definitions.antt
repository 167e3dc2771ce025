-- The effect of CREATE and DROP INDEX statements on a schema, as SQLite compiles them.
use Rattle.std.specs.Prelude.{◌≡◌, ℕ, List, [], ◌∷◌, fold, false, true, is_ok, Option, Some, None, Ok, Err}
use Rattle.std.specs.Prelude.{Result, slice_get, ⊤}
use Rattle.sqlite.proofs.Callers.{command_of, statement_of}
use Rattle.sqlite.specs.Command.{Command}
use Rattle.sqlite.specs.Command.TheVariants.{CreateTable, CreateIndex, DropIndex, Nothing}
use Rattle.sqlite.specs.Compile.{table_defined_by}
use Rattle.sqlite.specs.Does.{lacks_sequence}
use Rattle.sqlite.specs.Given.{IsPlain}
use Rattle.sqlite.specs.Listing.{understood}
use Rattle.sqlite_catalog.specs.Change.{created, indexed, without_index}
use Rattle.sqlite_resolve.specs.Compile.{index_defined_by}
use Rattle.sqlite_resolve.specs.declared.error.CompileError.{CompileError}
use Rattle.sqlite_schema.specs.declared.schema.Index.{Index}
use Rattle.sqlite_schema.specs.declared.schema.Schema.{Schema}
use Rattle.sqlite_schema.specs.declared.schema.Table.{Table}

-- adds the table that a statement defines; leaves the schema unchanged if the statement defines none
abbrev pub with_table_of : Schema → Result Table CompileError → Schema
with_table_of s (Ok t) = created s t
with_table_of s (Err e) = s

-- adds the index that a statement defines; leaves the schema unchanged if the statement defines none
abbrev pub with_index_of : Schema → Table → Result Index CompileError → Schema
with_index_of s t (Ok i) = indexed s t i
with_index_of s t (Err e) = s

-- adds an index to an existing table; leaves the schema unchanged without that table
abbrev pub index_on : Schema → List ℕ → Option Table → Schema
index_on s text (Some t) = with_index_of s t (index_defined_by t text)
index_on s text None = s

-- drops an index by its tree
abbrev pub without_index_of : Schema → Option Index → Schema
without_index_of s (Some i) = without_index s i.tree
without_index_of s None = s

-- the schema after a statement that compiles to this command
abbrev pub schema_after_command : Schema → List ℕ → Command → Schema
schema_after_command s text CreateTable = with_table_of s (table_defined_by text)
schema_after_command s text (CreateIndex at) = index_on s text (slice_get s.tables at)
schema_after_command s text (DropIndex at) = without_index_of s (slice_get s.indexes at)
schema_after_command s text _ = s

-- the schema after one statement
abbrev pub schema_after_statement : Schema → List ℕ → Schema
schema_after_statement s text = schema_after_command s text (command_of (understood s text))

-- the schema after these statements, in order
abbrev pub schema_after_statements : Schema → List (List ℕ) → Schema
schema_after_statements = fold schema_after_statement

-- the command creates a table without AUTOINCREMENT, or an index
abbrev pub IsDefining : Command → Schema → Type 0
IsDefining CreateTable after = lacks_sequence after ≡ false
IsDefining (CreateIndex at) after = ⊤
IsDefining _ after = ⊥

-- the statement is one CREATE and nothing else
pub record IsDefinition (s : Schema) (text : List ℕ) : Type 0 where
  pub plain : IsPlain (understood s text)
  pub whole : statement_of text (understood s text) ≡ text
  pub defining : IsDefining (command_of (understood s text)) (schema_after_statement s text)

-- each statement, run after those before it, is one CREATE and nothing else
abbrev pub AreDefinitions : Schema → List (List ℕ) → Type 0
AreDefinitions s [] = ⊤
AreDefinitions s (text ∷ texts) = IsDefinition s text × AreDefinitions (schema_after_statement s text) texts

-- the command creates a table or an index, drops an index, or finds no index to drop
abbrev pub IsChanging : Command → Schema → Type 0
IsChanging (DropIndex at) after = ⊤
IsChanging Nothing after = ⊤
IsChanging command after = IsDefining command after

-- the statement is one CREATE, or one DROP INDEX IF EXISTS, and nothing else
pub record IsChange (s : Schema) (text : List ℕ) : Type 0 where
  pub plain : IsPlain (understood s text)
  pub whole : statement_of text (understood s text) ≡ text
  pub changing : IsChanging (command_of (understood s text)) (schema_after_statement s text)

-- the statement is such a one, or it does not compile, like a CREATE whose name exists already
abbrev pub IsReady : Schema → List ℕ → Type 0
IsReady s text = is_ok (understood s text) ≡ true → IsChange s text

-- each statement is such a one, run after those before it
abbrev pub AreReady : Schema → List (List ℕ) → Type 0
AreReady s [] = ⊤
AreReady s (text ∷ texts) = IsReady s text × AreReady (schema_after_statement s text) texts
