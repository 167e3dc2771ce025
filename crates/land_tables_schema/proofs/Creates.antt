-- The effect of CREATE and DROP INDEX statements on a connection.
use Rattle.std.proofs.Common.{◌≡◌, ◌⊎◌, inl, inr, ℕ, List, [], ◌∷◌, ◌++◌, map, false, None, Some, Ok, Err, Result, Option, slice_get, refl, sym, ap, ap₂, subst, ◌∙◌, append-nil, append_assoc, is_ok}
use Rattle.std.specs.List.{AllByRecursion}
use Rattle.std.proofs.lemmas.List.{map-append}
use Rattle.land_tables_schema.specs.Definitions.{schema_after_statement, schema_after_command, with_table_of, with_index_of, index_on, without_index_of, IsDefining, IsChanging, schema_after_statements, AreDefinitions, IsReady, AreReady}
use Rattle.land_tables_schema.specs.Schemas.{no_schema}
use Rattle.land_tables_schema.specs.Laws.{TextsLaw, create_statements}
use Rattle.land_tables_schema.specs.Making.{AreEmpty, Defines, DefinesAll, IsMade}
use Rattle.sqlite.proofs.Callers.{command_of, runs_as}
use Rattle.sqlite.specs.Command.{Command}
use Rattle.sqlite.specs.Command.TheVariants.{CreateTable, CreateIndex, DropIndex, Nothing}
use Rattle.sqlite.specs.Does.{Tally, Does, lacks_sequence}
use Rattle.sqlite.specs.Effect.{Database}
use Rattle.sqlite.specs.Listing.{understood}
use Rattle.sqlite.specs.State.{State, mode_of, Runs, Executes, ExecutesIn}
use Rattle.sqlite.specs.Tree.{Trees}
use Rattle.sqlite_catalog.specs.Change.{created, indexed, next_tree, without_index, KeepsRows}
use Rattle.sqlite_keyed.proofs.ListLemmas.{all-append}
use Rattle.sqlite_resolve.specs.declared.compiled.Compiled.{Compiled}
use Rattle.sqlite_resolve.specs.declared.error.CompileError.{CompileError}
use Rattle.sqlite_resolve.specs.Compile.{index_defined_by}
use Rattle.sqlite.specs.Compile.{table_defined_by}
use Rattle.sqlite_schema.specs.declared.schema.Index.{Index}
use Rattle.sqlite_schema.specs.declared.schema.Schema.{Schema}
use Rattle.sqlite_schema.specs.declared.schema.Table.{Table}

-- a part that returned a value did not stop early
pub went : {B E R : Type 0} {b : B} {Stops : E → Type 0} → ((stop : E) × Stops stop × (Ok b ≡ Err stop)) ⊎ R → R
went (inl stopped) = absurd (let e = stopped.2 in cc)
went (inr on) = on

pub same_value : {B E : Type 0} {a b : B} → ◌≡◌ {A = Result B E} (Ok a) (Ok b) → a ≡ b
same_value e = cc

-- tables with unchanged rows stay empty if they were
still_empty : (old new : Trees) (ts : List Table) → KeepsRows ts old new → AllByRecursion (λ (t : Table). old t.tree ≡ []) ts → AllByRecursion (λ (t : Table). new t.tree ≡ []) ts
still_empty old new [] kept none = tt
still_empty old new (t ∷ ts) kept none = (kept.0 ∙ none.0, still_empty old new ts kept.1 none.1)

moved : (now : Database) (s : Schema) (trees : Trees) → now.schema ≡ s → now.trees ≡ trees → AllByRecursion (λ (t : Table). trees t.tree ≡ []) s.tables → AreEmpty now
moved now s trees is same none = rw (is, same) none

-- ---- unchanged rows

all_kept : (ts : List Table) (trees : Trees) → KeepsRows ts trees trees
all_kept [] trees = tt
all_kept (t ∷ ts) trees = (refl, all_kept ts trees)

kept_then : (ts : List Table) (a b c : Trees) → KeepsRows ts a b → KeepsRows ts b c → KeepsRows ts a c
kept_then [] a b c one two = tt
kept_then (t ∷ ts) a b c one two = (two.0 ∙ one.0, kept_then ts a b c one.1 two.1)

kept_in_front : (ts more : List Table) (a b : Trees) → KeepsRows (ts ++ more) a b → KeepsRows ts a b
kept_in_front [] more a b kept = tt
kept_in_front (t ∷ ts) more a b kept = (kept.0, kept_in_front ts more a b kept.1)

-- ---- no table is dropped

-- the tables of one schema, and possibly more after them
record HasMore (s t : Schema) : Type 0 where
  more : List Table
  is : t.tables ≡ s.tables ++ more

same_tables : (s t : Schema) → t.tables ≡ s.tables → HasMore s t
same_tables s t is = record { more = []; is = is ∙ sym (append-nil s.tables) }

more_table : (s : Schema) (r : Result Table CompileError) → HasMore s (with_table_of s r)
more_table s (Ok t) = record { more = (record t { tree = next_tree s }) ∷ []; is = refl }
more_table s (Err e) = same_tables s s refl

more_index : (s : Schema) (t : Table) (r : Result Index CompileError) → HasMore s (with_index_of s t r)
more_index s t (Ok i) = same_tables s (indexed s t i) refl
more_index s t (Err e) = same_tables s s refl

more_on : (s : Schema) (text : List ℕ) (o : Option Table) → HasMore s (index_on s text o)
more_on s text (Some t) = more_index s t (index_defined_by t text)
more_on s text None = same_tables s s refl

more_dropped : (s : Schema) (o : Option Index) → HasMore s (without_index_of s o)
more_dropped s (Some i) = same_tables s (without_index s i.tree) refl
more_dropped s None = same_tables s s refl

more_as : (s : Schema) (text : List ℕ) (command : Command) → HasMore s (schema_after_command s text command)
more_as s text CreateTable = more_table s (table_defined_by text)
more_as s text (CreateIndex at) = more_on s text (slice_get s.tables at)
more_as s text (DropIndex at) = more_dropped s (slice_get s.indexes at)
more_as s text _ = same_tables s s refl

more_made : (texts : List (List ℕ)) (s : Schema) → HasMore s (schema_after_statements s texts)
more_made [] s = same_tables s s refl
more_made (text ∷ texts) s =
    let one = more_as s text (command_of (understood s text)) in
    let rest = more_made texts (schema_after_statement s text) in
    record { more = one.more ++ rest.more; is = rest.is ∙ ap (λ ts. ts ++ rest.more) one.is ∙ append_assoc s.tables one.more rest.more }

kept_before : (s t : Schema) (a b : Trees) → HasMore s t → KeepsRows t.tables a b → KeepsRows s.tables a b
kept_before s t a b has kept = kept_in_front s.tables has.more a b (subst (λ ts. KeepsRows ts a b) has.is kept)

-- ---- one statement

-- the effect of a statement that compiles to this command
record DoesAs (old new : Database) (text : List ℕ) (command : Command) : Type 0 where
  schema : new.schema ≡ schema_after_command old.schema text command
  empty : AreEmpty old → AreEmpty new
  kept : KeepsRows old.schema.tables old.trees new.trees

-- a statement that ran has been compiled
pub ran : (sql : List ℕ) (old new : State) (count : ℕ) → Executes sql [] old new (Ok count) → (c : Compiled) × (understood old.now.schema sql ≡ Ok c)
unfolding ExecutesIn
ran sql old new count h = (h.0, h.1.is)

module _ (old new : State) (text : List ℕ) (count : ℕ) where
  defines_as : (command : Command) → command_of (understood old.now.schema text) ≡ command → IsChanging command (schema_after_command old.now.schema text command) → Runs old new None command text [] count
      → DoesAs old.now new.now text command
  defines_as CreateTable is fine w =
      let all = went w.changed in
      let first = went all.1 in
      let made = first.1 in
      let by : schema_after_command old.now.schema text CreateTable ≡ created old.now.schema made.table = ap (with_table_of old.now.schema) made.defined in
      let schema : first.0.schema ≡ schema_after_command old.now.schema text CreateTable = made.is ∙ sym by in
      let plain : lacks_sequence first.0.schema ≡ false = ap lacks_sequence schema ∙ fine in
      let now : new.now ≡ first.0 = ap (λ (p : Tally × Database). p.1) (same_value all.2) ∙ same_value (rw plain at first.2) in
      let same : new.now.schema ≡ created old.now.schema made.table = ap (λ (d : Database). d.schema) now ∙ made.is in
      let trees : new.now.trees ≡ first.0.trees = ap (λ (d : Database). d.trees) now in
      record {
        schema = same ∙ sym by;
        empty = λ none.
            let rows = all-append (λ (t : Table). first.0.trees t.tree ≡ []) old.now.schema.tables _ (still_empty old.now.trees first.0.trees old.now.schema.tables made.others none) (made.empty, tt) in
            moved new.now (created old.now.schema made.table) first.0.trees same trees rows;
        kept = subst (λ (x : Trees). KeepsRows old.now.schema.tables old.now.trees x) (sym trees) made.others;
      }
  defines_as (CreateIndex place) is fine w = go (slice_get old.now.schema.tables place) refl w.changed
    where
      schema : Schema
      schema = old.now.schema

      go : (table : Option Table) → slice_get schema.tables place ≡ table → Does old.step_limit (mode_of old) [] old.now text None (CreateIndex place) (Ok (w.tally, new.now))
          → DoesAs old.now new.now text (CreateIndex place)
      go None place_is h = absurd (let e = rw place_is at h in cc)
      go (Some table) place_is h =
          let all = went (rw place_is at h) in
          let made = all.1 in
          let by : index_on schema text (slice_get schema.tables place) ≡ indexed schema table made.index = ap (index_on schema text) place_is ∙ ap (with_index_of schema table) made.defined in
          let now : new.now ≡ all.0 = ap (λ (p : Tally × Database). p.1) (same_value all.2) in
          let same : new.now.schema ≡ indexed schema table made.index = ap (λ (d : Database). d.schema) now ∙ made.is in
          let trees : new.now.trees ≡ all.0.trees = ap (λ (d : Database). d.trees) now in
          record {
            schema = same ∙ sym by;
            empty = λ none. moved new.now (indexed schema table made.index) all.0.trees same trees (still_empty old.now.trees all.0.trees schema.tables made.rows none);
            kept = subst (λ (x : Trees). KeepsRows schema.tables old.now.trees x) (sym trees) made.rows;
          }
  defines_as (DropIndex place) is fine w = go (slice_get old.now.schema.indexes place) refl w.changed
    where
      schema : Schema
      schema = old.now.schema

      go : (index : Option Index) → slice_get schema.indexes place ≡ index → Does old.step_limit (mode_of old) [] old.now text None (DropIndex place) (Ok (w.tally, new.now))
          → DoesAs old.now new.now text (DropIndex place)
      go None place_is h = absurd (let e = rw place_is at h in cc)
      go (Some index) place_is h =
          let all = went (rw place_is at h) in
          let left = all.1 in
          let now : new.now ≡ all.0 = ap (λ (p : Tally × Database). p.1) (same_value all.2) in
          let same : new.now.schema ≡ without_index schema index.tree = ap (λ (d : Database). d.schema) now ∙ left.0 in
          let trees : new.now.trees ≡ all.0.trees = ap (λ (d : Database). d.trees) now in
          record {
            schema = same ∙ sym (ap (without_index_of schema) place_is);
            empty = λ none. moved new.now (without_index schema index.tree) all.0.trees same trees (still_empty old.now.trees all.0.trees schema.tables left.1 none);
            kept = subst (λ (x : Trees). KeepsRows schema.tables old.now.trees x) (sym trees) left.1;
          }
  defines_as Nothing is fine w = record {
    schema = ap (λ (d : Database). d.schema) w.0.0.now_is;
    empty = λ none. subst AreEmpty (sym w.0.0.now_is) none;
    kept = subst (λ (d : Database). KeepsRows old.now.schema.tables old.now.trees d.trees) (sym w.0.0.now_is) (all_kept old.now.schema.tables old.now.trees);
  }
  defines_as _ is fine w = absurd fine

  -- a statement that is one CREATE or one DROP INDEX has the defined effect
  pub defines : IsReady old.now.schema text → Executes text [] old new (Ok count) → Defines text old.now new.now
  defines ready h =
      let def = ready (ap is_ok (ran text old new count h).1) in
      let command = command_of (understood old.now.schema text) in
      let w = subst (λ t. Runs old new None command t [] count) def.whole (runs_as text [] old new old.now.schema refl command refl def.plain count h) in
      let it = defines_as command refl def.changing w in
      record { schema = it.schema; empty = it.empty; kept = it.kept }

made_last : (s : Schema) (texts : List (List ℕ)) (text : List ℕ) → schema_after_statements s (texts ++ text ∷ []) ≡ schema_after_statement (schema_after_statements s texts) text
made_last s [] text = refl
made_last s (t ∷ texts) text = made_last (schema_after_statement s t) texts text

-- the effect of the statements until now, and the remaining ones
pub record HasDefined (done left : List (List ℕ)) (old new : Database) : Type 0 where
  pub defined : DefinesAll done old new
  pub definitions : AreReady new.schema left

-- no statement has run
pub none_defined : (texts : List (List ℕ)) (db : Database) → AreReady db.schema texts → HasDefined [] texts db db
none_defined texts db all = record { defined = record { schema = refl; empty = λ e. e; kept = all_kept db.schema.tables db.trees }; definitions = all }

-- the next statement is one CREATE or one DROP INDEX
pub next_defines : {X : Type 0} (f : X → List ℕ) (rest : List X) (x : X) {left : List X} (s : Schema) → left ≡ x ∷ rest → AreReady s (map f left) → IsReady s (f x)
next_defines f rest x s is all = (subst (λ l. AreReady s (map f l)) is all).0

-- one more statement has run
pub defined_more : {X : Type 0} (a b c : Database) (f : X → List ℕ) (before rest : List X) (x : X) {left done : List X} → left ≡ x ∷ rest → done ≡ before ++ x ∷ []
    → HasDefined (map f before) (map f left) a b → Defines (f x) b c → HasDefined (map f done) (map f rest) a c
defined_more a b c f before rest x is more far one =
    let next = subst (λ l. AreReady b.schema (map f l)) is far.definitions in
    let more_tables = subst (HasMore a.schema) (sym far.defined.schema) (more_made (map f before) a.schema) in
    let so : map f (before ++ x ∷ []) ≡ map f before ++ f x ∷ [] = map-append f before (x ∷ []) in
    record {
      defined = record {
        schema = one.schema ∙ ap (λ s. schema_after_statement s (f x)) far.defined.schema ∙ sym (made_last a.schema (map f before) (f x)) ∙ ap (schema_after_statements a.schema) (sym (ap (map f) more ∙ so));
        empty = λ e. one.empty (far.defined.empty e);
        kept = kept_then a.schema.tables a.trees b.trees c.trees far.defined.kept (kept_before a.schema b.schema b.trees c.trees more_tables one.kept);
      };
      definitions = subst (λ s. AreReady s (map f rest)) (sym one.schema) next.1;
    }

-- a CREATE is ready to run
changing : (command : Command) (s : Schema) → IsDefining command s → IsChanging command s
changing CreateTable s h = h
changing (CreateIndex at) s h = h
changing _ s h = absurd h

are_ready : (texts : List (List ℕ)) (s : Schema) → AreDefinitions s texts → AreReady s texts
are_ready [] s all = tt
are_ready (text ∷ texts) s all =
    let one = all.0 in
    (λ _. record { plain = one.plain; whole = one.whole; changing = changing (command_of (understood s text)) (schema_after_statement s text) one.defining }, are_ready texts (schema_after_statement s text) all.1)

-- the statements of the register create its tables
pub texts_define : (s : Schema) (texts : List (List ℕ)) → s ≡ no_schema → texts ≡ create_statements → TextsLaw → AreReady s texts
texts_define s texts s_is texts_is law = rw (s_is, texts_is) (are_ready create_statements no_schema law.creates)

none_there : (db : Database) (s : Schema) → db.schema ≡ s → s ≡ no_schema → AreEmpty db
none_there db s db_is s_is = rw (db_is, s_is) tt

pub texts_make : (old new : Database) (texts : List (List ℕ)) → old.schema ≡ no_schema → texts ≡ create_statements → TextsLaw → DefinesAll texts old new → IsMade new
texts_make old new texts old_is texts_is law did =
    record { schema = did.schema ∙ ap₂ schema_after_statements old_is texts_is ∙ law.makes; empty = did.empty (none_there old old.schema refl old_is) }
