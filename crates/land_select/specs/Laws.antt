-- Laws on definitions only: the SQL statements of a role's sight return what the policy, without mandates,
-- lets the caller see.
use Rattle.std.specs.Prelude.{◌≡◌, ℕ, ℤ, pos, List, [], ◌∷◌, map}
use Rattle.std.specs.List.{Contains}
use Rattle.land_core.specs.Numbers.{IsMoment}
use Rattle.land_core.specs.declared.caller.Caller.{Caller}
use Rattle.land_core.specs.declared.kind.Kind.{Kind}
use Rattle.land_core.specs.declared.role.Role.{Role}
use Rattle.land_keep.specs.Timeline.{IsSoundTimeline, Timeline, register_at}
use Rattle.land_rules.specs.CircleLaws.{without_mandates}
use Rattle.land_rules.specs.Rules.{seen_of}
use Rattle.land_select_queries.specs.Joins.Meaning.{command_in, query_parameters}
use Rattle.land_select_queries.specs.Joins.Texts.{selection_text}
use Rattle.land_select_queries.specs.Sights.{selections_of}
use Rattle.land_tables.specs.Standing.{HoldsTimeline}
use Rattle.land_tables_schema.specs.Schemas.{schema_v2_with}
use Rattle.sqlite.specs.Effect.{Reads}
use Rattle.sqlite.specs.Listing.{understood}
use Rattle.sqlite.specs.declared.types.Value.TheVariants.{Int}
use Rattle.sqlite_rules.specs.Lists.{Has}
use Rattle.sqlite_schema.specs.declared.schema.Index.{Index}
use Rattle.sqlite_trees.specs.Tree.{Trees}
use Rattle.sqlite_value.specs.Order.{Row}

-- the SQL statements of a role's sight of a kind
abbrev pub sight_texts : Role → Kind → List (List ℕ)
sight_texts role kind = map selection_text (selections_of role kind)

-- a query: the tables of a register with any indexes, the caller and the time
pub record Asked : Type 0 where
  pub indexes : List Index
  pub db : Trees
  pub caller : ℕ
  pub moment : ℤ

-- these rows are a result of a statement in sqlite; parameter 1 is the caller, parameter 2 the time
abbrev pub AreResultRows : Asked → (text : List ℕ) → (rows : List Row) → Type 0
AreResultRows it text rows =
    Reads (command_in (understood (schema_v2_with it.indexes) text))
    (record { schema = schema_v2_with it.indexes; trees = it.db }) (query_parameters it.caller it.moment) rows

-- Statements together return exactly the wanted numbers: each statement has a result, each row of a result is
-- one wanted number, and each wanted number is a row of all results of one of the statements.
pub record YieldTogether (texts : List (List ℕ)) (it : Asked) (Wanted : ℕ → Type 0) : Type 0 where
  pub answered : (text : List ℕ) → Contains texts text → (rows : List Row) × AreResultRows it text rows
  pub none_more : (text : List ℕ) → Contains texts text → (rows : List Row) → AreResultRows it text rows
      → (row : Row) → Has rows row → (n : ℕ) × (row ≡ Int (pos n) ∷ []) × Wanted n
  pub none_missing : (n : ℕ) → Wanted n → (text : List ℕ) × Contains texts text
      × ((rows : List Row) → AreResultRows it text rows → Has rows (Int (pos n) ∷ []))

-- On tables that hold a sound timeline, with any indexes, the statements of a role's sight of a kind together
-- return, at each time, exactly the numbers that the policy, without mandates, lets the caller see in the
-- register at that time.
abbrev pub SightTextsAreTheRules : Type 0
SightTextsAreTheRules = (indexes : List Index) (db : Trees) (tl : Timeline) → HoldsTimeline db tl
    → IsSoundTimeline tl → (t : ℤ) → IsMoment t → (caller : Caller) (k : Kind)
    → YieldTogether (sight_texts caller.role k)
    (record { indexes = indexes; db = db; caller = caller.party; moment = t })
    (Contains (seen_of (without_mandates (register_at tl t)) caller k))
