-- Statements that list a table.
use Rattle.std.specs.Prelude.{ℕ, List}
use Rattle.land_tables_schema.proofs.Asks.{IsListing}
use Rattle.sqlite.specs.Term.{Term}
use Rattle.sqlite_schema.specs.declared.schema.Schema.{Schema}
use Rattle.sqlite_value.specs.Order.{Row}

-- in all schemas of a kind, the statement lists these columns of each row of a table and changes nothing
abbrev pub ListsTable : (Schema → Type 0) → (tree : ℕ) → (Row → Row) → (text : List ℕ) → Type 0
ListsTable Has tree shown text = (project : List Term) × IsListing Has tree text project shown
