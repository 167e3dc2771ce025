-- The meaning of a selection's SQL statement, by the semantics that the sqlite crates give to SQL.
use Rattle.std.specs.Prelude.{◌≡◌, ◌↔◌, ℕ, ℤ, pos, List, [], ◌∷◌, Ok, Err, Result}
use Rattle.land_select_queries.specs.Joins.Texts.{selection_text}
use Rattle.land_select_queries.specs.Sights.Selections.{selects}
use Rattle.land_select_queries.specs.declared.sights.selection.Selection.{Selection}
use Rattle.land_tables_history.specs.declared.history.History.{History}
use Rattle.land_tables_history.specs.declared.moment.Moment.{Moment}
use Rattle.land_tables_rows.specs.Writing.History.{HoldsHistory}
use Rattle.land_tables_schema.specs.Schemas.{schema_v2_with}
use Rattle.sqlite.specs.Command.{Command}
use Rattle.sqlite.specs.Command.TheVariants.{Nothing}
use Rattle.sqlite.specs.Effect.{Reads}
use Rattle.sqlite.specs.Listing.{understood}
use Rattle.sqlite.specs.declared.types.Value.TheVariants.{Int}
use Rattle.sqlite_resolve.specs.declared.compiled.Compiled.{Compiled}
use Rattle.sqlite_resolve.specs.declared.error.CompileError.{CompileError}
use Rattle.sqlite_rules.specs.Lists.{Has}
use Rattle.sqlite_schema.specs.declared.schema.Index.{Index}
use Rattle.sqlite_trees.specs.Tree.{Trees}
use Rattle.sqlite_value.specs.Order.{Row}

-- the command that sqlite understands from an SQL statement
abbrev pub command_in : Result Compiled CompileError → Command
command_in (Ok c) = c.command
command_in (Err e) = Nothing

-- the parameters of each statement: the caller and the time
abbrev pub query_parameters : (caller : ℕ) → (t : ℤ) → Row
query_parameters caller t = Int (pos caller) ∷ Int t ∷ []

-- Each row is one number; the numbers of the rows are exactly the wanted ones.
pub record AreNumberRows (rows : List Row) (Wanted : ℕ → Type 0) : Type 0 where
  pub each : (row : Row) → Has rows row → (n : ℕ) × (row ≡ Int (pos n) ∷ [])
  pub meant : (n : ℕ) → Has rows (Int (pos n) ∷ []) ↔ Wanted n

-- On the tables of a register, with any indexes, the statement has a result, and each of its results has
-- exactly the wanted numbers.
pub record GivesNumbers (text : List ℕ) (indexes : List Index) (db : Trees) (caller : ℕ) (t : ℤ)
    (Wanted : ℕ → Type 0) : Type 0 where
  pub each : (rows : List Row) → Reads (command_in (understood (schema_v2_with indexes) text))
      (record { schema = schema_v2_with indexes; trees = db }) (query_parameters caller t) rows
      → AreNumberRows rows Wanted
  pub rows : List Row
  pub answer : Reads (command_in (understood (schema_v2_with indexes) text))
      (record { schema = schema_v2_with indexes; trees = db }) (query_parameters caller t) rows

-- If the tables hold a history, then with any indexes the statement of a selection returns exactly the
-- numbers of the selection.
abbrev pub TextsSelect : Type 0
TextsSelect = (s : Selection) (indexes : List Index) (db : Trees) (moments : List Moment) (history : History)
    (caller : ℕ) (t : ℤ)
    → HoldsHistory db moments history → GivesNumbers (selection_text s) indexes db caller t
    (selects s t history caller)
