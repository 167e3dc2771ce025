-- A CREATE has the same meaning for all indexes if none of them has the name of the new item, and is rejected
-- otherwise. The meaning of a DROP INDEX IF EXISTS depends on the position of the index with the name, if
-- there is one.
use Rattle.std.proofs.Common.{◌≡◌, ℕ, not, ◌&&◌, List, [], length, Option, None, Ok, Err, true, refl, sym, ap, ◌∙◌}
use Rattle.std.specs.Prelude.{◌==◌, if◌then◌else◌}
use Rattle.std.specs.Option.{option_or}
use Rattle.sqlite.specs.Listing.{if_select, listing_schema, misses_table, understood}
use Rattle.sqlite_ast.specs.declared.CreateIndex.{CreateIndex}
use Rattle.sqlite_ast.specs.declared.CreateTable.{CreateTable}
use Rattle.sqlite_ast.specs.declared.Statement.TheVariants as written
use Rattle.sqlite_resolve.specs.Body.{table_at}
use Rattle.sqlite_resolve.specs.Compile.{command, compiled, create_index, create_table, creates, drop_index, dropped, first, is_attached, is_reserved, meaning, planned, returning, target, timed, with_command}
use Rattle.sqlite_resolve.specs.Define as define
use Rattle.sqlite_resolve.specs.Lowering.{Checked, and_then}
use Rattle.sqlite_resolve.specs.Scope.{Name}
use Rattle.sqlite_resolve.specs.declared.compiled.Compiled.{Compiled}
use Rattle.sqlite_resolve.specs.declared.error.CompileError.TheVariants.{Misuse, NoSuchIndex, Unsupported}
use Rattle.sqlite_schema.specs.Names.{index_named, table_named, view_named}
use Rattle.sqlite_schema.specs.declared.command.Command.{Command}
use Rattle.sqlite_schema.specs.declared.command.Command.TheVariants.{CreateTable as MakeTable, CreateIndex as MakeIndex, DropIndex as TakeIndex, Nothing}
use Rattle.sqlite_schema.specs.declared.command.Returning.{Returning}
use Rattle.sqlite_schema.specs.declared.schema.Schema.{Schema}
use Rattle.sqlite_syntax.specs.declared.statement.Parsed.{Parsed}

abbrev pub without_indexes : Schema → Schema
without_indexes s = record s { indexes = [] }

-- a CREATE TABLE, by the index that has its name
abbrev pub table_with : Schema → List Name → CreateTable → Option ℕ → Checked Command
table_with s formats def o =
    if is_attached s def.name then Err Unsupported else
    and_then (creates def.if_missing def.name (option_or (table_named s def.name) (view_named s def.name)) o) (λ is_new.
    if is_new then and_then (define.table formats def) (λ t. if length t.computed == length t.stamps.places && not def.resolves then Ok MakeTable else Err Unsupported) else Ok Nothing)

-- the plan of a statement with this command
abbrev pub planned_with : Checked Command → Checked (List Name × (Command × Option Returning))
planned_with c = and_then (and_then (let none : Checked (Option Returning) = Ok None in none) (λ shown. and_then c (λ c. Ok (c, shown)))) (λ found. Ok ([], found))

table_planned : (s : Schema) (p : Parsed) (def : CreateTable) → planned s (record p { statement = written.CreateTable def }) ≡ planned_with (create_table s p.formats def)
unfolding planned meaning command timed returning
table_planned s p def = refl

table_is : (s : Schema) (formats : List Name) (def : CreateTable) → create_table s formats def ≡ table_with s formats def (index_named s def.name)
unfolding create_table
table_is s formats def = refl

-- a statement that is one CREATE TABLE
pub record IsTable (text : List ℕ) : Type 0 where
  pub parsed : Parsed
  pub def : CreateTable
  pub is : first text ≡ Ok (record parsed { statement = written.CreateTable def })

-- the compiled form of a statement
abbrev pub heard : List ℕ → Checked Compiled → Checked Compiled
heard text c = if misses_table c then if_select (compiled listing_schema text) else c

heard_is : (s : Schema) (text : List ℕ) → understood s text ≡ heard text (compiled s text)
unfolding understood
heard_is s text = refl

module _ (text : List ℕ) (it : IsTable text) where
  abbrev statement : Parsed
  statement = record it.parsed { statement = written.CreateTable it.def }

  abbrev pub compiled_with : Checked Command → Checked Compiled
  compiled_with c = and_then (planned_with c) (λ plan. Ok (with_command statement plan))

  compiled_is : (s : Schema) → compiled s text ≡ compiled_with (create_table s it.parsed.formats it.def)
  unfolding compiled
  compiled_is s =
      ap (λ r. and_then r (λ p. and_then (planned s p) (λ plan. Ok (with_command p plan)))) it.is
      ∙ ap (λ r. and_then r (λ plan. let c : Checked Compiled = Ok (with_command statement plan) in c)) (table_planned s it.parsed it.def)

  pub by_name : (s : Schema) (o : Option ℕ) → index_named s it.def.name ≡ o → understood s text ≡ heard text (compiled_with (table_with s it.parsed.formats it.def o))
  by_name s o named =
      heard_is s text ∙ ap (heard text) (compiled_is s ∙ ap compiled_with (table_is s it.parsed.formats it.def ∙ ap (table_with s it.parsed.formats it.def) named))

  -- if no index has the name, the statement means the same as without any index
  pub same_without : (s : Schema) → index_named s it.def.name ≡ None → understood s text ≡ understood (without_indexes s) text
  unfolding is_attached
  same_without s free = by_name s None free ∙ sym (by_name (without_indexes s) None refl)

-- ---- the same for a CREATE INDEX

abbrev pub index_with : Schema → CreateIndex → Option ℕ → Checked Command
index_with s def o =
    if is_reserved def.table then Err Misuse else
    and_then (target s def.table) (λ at. and_then (table_at s at) (λ table.
    and_then (creates def.if_missing def.name o (option_or (table_named s def.name) (view_named s def.name))) (λ is_new.
    if is_new then and_then (define.index table def) (λ _. Ok (MakeIndex at)) else Ok Nothing)))

abbrev pub planned_by : List Name → Checked Command → Checked (List Name × (Command × Option Returning))
planned_by formats c = and_then (and_then (let none : Checked (Option Returning) = Ok None in none) (λ shown. and_then c (λ c. Ok (c, shown)))) (λ found. Ok (formats, found))

index_planned : (s : Schema) (p : Parsed) (def : CreateIndex) → planned s (record p { statement = written.CreateIndex def }) ≡ planned_by p.formats (create_index s def)
unfolding planned meaning command timed returning
index_planned s p def = refl

index_is : (s : Schema) (def : CreateIndex) → create_index s def ≡ index_with s def (index_named s def.name)
unfolding create_index
index_is s def = refl

pub record IsIndex (text : List ℕ) : Type 0 where
  pub parsed : Parsed
  pub def : CreateIndex
  pub is : first text ≡ Ok (record parsed { statement = written.CreateIndex def })

module _ (text : List ℕ) (it : IsIndex text) where
  abbrev indexing : Parsed
  indexing = record it.parsed { statement = written.CreateIndex it.def }

  abbrev pub compiled_by : Checked Command → Checked Compiled
  compiled_by c = and_then (planned_by it.parsed.formats c) (λ plan. Ok (with_command indexing plan))

  index_compiled : (s : Schema) → compiled s text ≡ compiled_by (create_index s it.def)
  unfolding compiled
  index_compiled s =
      ap (λ r. and_then r (λ p. and_then (planned s p) (λ plan. Ok (with_command p plan)))) it.is
      ∙ ap (λ r. and_then r (λ plan. let c : Checked Compiled = Ok (with_command indexing plan) in c)) (index_planned s it.parsed it.def)

  pub index_by_name : (s : Schema) (o : Option ℕ) → index_named s it.def.name ≡ o → understood s text ≡ heard text (compiled_by (index_with s it.def o))
  index_by_name s o named = heard_is s text ∙ ap (heard text) (index_compiled s ∙ ap compiled_by (index_is s it.def ∙ ap (index_with s it.def) named))

  pub index_without : (s : Schema) → index_named s it.def.name ≡ None → understood s text ≡ understood (without_indexes s) text
  index_without s free = index_by_name s None free ∙ sym (index_by_name (without_indexes s) None refl)

-- ---- a DROP INDEX IF EXISTS

abbrev pub drop_with : Schema → Name → Option ℕ → Checked Command
drop_with s name o = if is_reserved name then Err Misuse else (if is_attached s name then Err Unsupported else dropped TakeIndex NoSuchIndex true o)

drop_planned : (s : Schema) (p : Parsed) (name : Name) → planned s (record p { statement = written.DropIndex true name }) ≡ planned_by p.formats (drop_index s true name)
unfolding planned meaning command timed returning
drop_planned s p name = refl

drop_is : (s : Schema) (name : Name) → drop_index s true name ≡ drop_with s name (index_named s name)
unfolding drop_index
drop_is s name = refl

pub record IsDrop (text : List ℕ) (name : Name) : Type 0 where
  pub parsed : Parsed
  pub is : first text ≡ Ok (record parsed { statement = written.DropIndex true name })

module _ (text : List ℕ) (name : Name) (it : IsDrop text name) where
  abbrev dropping : Parsed
  dropping = record it.parsed { statement = written.DropIndex true name }

  abbrev pub compiled_dropping : Checked Command → Checked Compiled
  compiled_dropping c = and_then (planned_by it.parsed.formats c) (λ plan. Ok (with_command dropping plan))

  drop_compiled : (s : Schema) → compiled s text ≡ compiled_dropping (drop_index s true name)
  unfolding compiled
  drop_compiled s =
      ap (λ r. and_then r (λ p. and_then (planned s p) (λ plan. Ok (with_command p plan)))) it.is
      ∙ ap (λ r. and_then r (λ plan. let c : Checked Compiled = Ok (with_command dropping plan) in c)) (drop_planned s it.parsed name)

  pub drop_by_name : (s : Schema) (o : Option ℕ) → index_named s name ≡ o → understood s text ≡ heard text (compiled_dropping (drop_with s name o))
  drop_by_name s o named = heard_is s text ∙ ap (heard text) (drop_compiled s ∙ ap compiled_dropping (drop_is s name ∙ ap (drop_with s name) named))
