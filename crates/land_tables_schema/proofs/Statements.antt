-- The effect of an INSERT of one row and of an UPDATE, for all indexes.
use Rattle.std.proofs.Common.{◌≡◌, ◌≢◌, ◌⊎◌, inl, inr, ℕ, true, false, List, [], ◌∷◌, None, Some, Ok, Err, Result, Option, slice_get, length, ◌/◌, refl, sym, ap, subst, ◌∙◌, append-nil}
use Rattle.std.specs.List.{AllByRecursion}
use Rattle.sqlite.proofs.Callers.{command_of, IsPlain, statement_of, runs_as, one_step}
use Rattle.sqlite.specs.Command.{Command}
use Rattle.sqlite.specs.Command.TheVariants.{Insert, Update}
use Rattle.sqlite.specs.Does.{Tally, Does}
use Rattle.sqlite.specs.Edit.{Edit, edit_of, edited}
use Rattle.sqlite.specs.Effect.{Database, value_rows}
use Rattle.sqlite.specs.Listing.{understood}
use Rattle.sqlite.specs.Program.{overlay}
use Rattle.sqlite.specs.Query.{Query, IsAnswer}
use Rattle.sqlite.specs.Rowids.TheVariants.{Chosen, Given}
use Rattle.sqlite.specs.Rows.{Written}
use Rattle.sqlite.specs.Source.TheVariants.{Values}
use Rattle.sqlite.specs.State.{State, mode_of, Writes, Executes}
use Rattle.sqlite.specs.Term.{Term, eval_all}
use Rattle.sqlite.specs.Tree.{Trees}
use Rattle.sqlite.specs.declared.types.Value.TheVariants.{Null}
use Rattle.sqlite_rules.specs.Action.{works}
use Rattle.sqlite_rules.specs.Calls.{ids_of}
use Rattle.sqlite_rules.specs.Edit.{are_fresh, left_by, taken_by}
use Rattle.sqlite_schema.specs.declared.schema.Keys.{Keys}
use Rattle.sqlite_schema.specs.declared.schema.Schema.{Schema}
use Rattle.sqlite_schema.specs.declared.schema.Table.{Table}
use Rattle.sqlite_value.specs.Order.{Row}

-- a table without foreign keys, computed defaults and counters
abbrev pub bare : Table → Table
bare t = record t { references = []; computed = []; stamps = record { places = []; terms = []; formats = [] }; is_counted = false }

-- a part that returned a value did not stop early
went : {B E R : Type 0} {b : B} {Stops : E → Type 0} → ((stop : E) × Stops stop × (Ok b ≡ Err stop)) ⊎ R → R
went (inl stopped) = absurd (let e = stopped.2 in cc)
went (inr on) = on

same_value : {B E : Type 0} {a b : B} → ◌≡◌ {A = Result B E} (Ok a) (Ok b) → a ≡ b
same_value e = cc

-- a table after an edit, and all others unchanged
pub record IsEdited (schema : Schema) (edit : Edit) (old new : Database) : Type 0 where
  pub schema_is : new.schema ≡ schema
  pub fresh : are_fresh (left_by old.trees edit) edit.news ≡ true
  pub rows : new.trees edit.table.tree ≡ edited old.trees edit
  pub others : AllByRecursion (λ (u : Table). u.tree ≢ edit.table.tree → new.trees u.tree ≡ old.trees u.tree) schema.tables

-- the statement inserts one row of these terms
pub record IsInsertion (schema : Schema) (text : List ℕ) (place : ℕ) (t : Table) (terms : List Term) (width : ℕ) : Type 0 where
  pub command : command_of (understood schema text) ≡ Insert place (Values terms width)
  pub plain : IsPlain (understood schema text)
  pub table : slice_get schema.tables place ≡ Some (bare t)
  pub one : (params : Row) → value_rows params width (length terms / width) terms ≡ eval_all terms (params ∷ []) ∷ []
  pub alone : (keys : Keys) (news : List Row) → works schema keys 0 t.tree [] news ≡ []

module _ (schema : Schema) (text : List ℕ) (place : ℕ) (t : Table) (terms : List Term) (width : ℕ) (is : IsInsertion schema text place t terms width)
    (old new : State) (params : Row) (count : ℕ) (has : old.now.schema ≡ schema) where
  abbrev insertion : Edit
  insertion = edit_of old.now.trees (bare t) [] Chosen 0 (eval_all terms (params ∷ []) ∷ [])

  inserted : (w : Writes old new None (Insert place (Values terms width)) (statement_of text (understood schema text)) params count) (table : Option Table) → slice_get schema.tables place ≡ table → table ≡ Some (bare t)
      → Does old.step_limit (mode_of old) params (record old.now { schema = schema }) (statement_of text (understood schema text)) None (Insert place (Values terms width)) (Ok (w.tally, new.now)) → IsEdited schema insertion old.now new.now
  inserted w table table_is so h =
      let done = went (rw (table_is, so) at h) in
      let now = ap (λ (p : Tally × Database). p.1) (same_value (went (went done.2).2).2) in
      let given = went done.1 in
      let written = went (went given.2).2 in
      let counted = went written.2 in
      let trees : done.0.trees ≡ written.0 = ap (λ (it : Written). it.trees) (same_value counted.2) ∙ same_value counted.1 in
      let db = old.now.trees in
      let edit = edit_of db (bare t) [] Chosen 0 given.0 in
      let step = one_step schema (mode_of old).keys db written.0 edit (is.alone (mode_of old).keys edit.news) written.1 in
      let same : new.now.trees ≡ written.0 = ap (λ (d : Database). d.trees) now ∙ trees in
      let rows : given.0 ≡ eval_all terms (params ∷ []) ∷ [] = given.1.1 ∙ ap (λ p. value_rows p width (length terms / width) terms) (append-nil params) ∙ is.one params in
      record {
        schema_is = ap (λ (d : Database). d.schema) now;
        fresh = subst (λ all. are_fresh (left_by db (edit_of db (bare t) [] Chosen 0 all)) (edit_of db (bare t) [] Chosen 0 all).news ≡ true) rows step.fresh;
        rows = ap (λ (x : Trees). x t.tree) same ∙ step.rows ∙ ap (λ all. edited db (edit_of db (bare t) [] Chosen 0 all)) rows;
        others = subst (λ (x : Trees). AllByRecursion (λ (u : Table). u.tree ≢ t.tree → x u.tree ≡ db u.tree) schema.tables) (sym same) step.tables;
      }

  pub inserts : Executes text params old new (Ok count) → IsEdited schema insertion old.now new.now
  inserts h =
      let w = runs_as text params old new schema has (Insert place (Values terms width)) is.command is.plain count h in
      inserted w _ refl is.table (subst (λ s. Does old.step_limit (mode_of old) params (record old.now { schema = s }) (statement_of text (understood schema text)) None (Insert place (Values terms width)) (Ok (w.tally, new.now))) has w.changed)

-- the statement rewrites the rows that the query finds
pub record IsUpdate (schema : Schema) (text : List ℕ) (place : ℕ) (t : Table) (q : Query) : Type 0 where
  pub command : command_of (understood schema text) ≡ Update place (record { lets = []; body = q })
  pub plain : IsPlain (understood schema text)
  pub table : slice_get schema.tables place ≡ Some (bare t)
  pub alone : (keys : Keys) (olds news : List Row) → works schema keys 0 t.tree olds news ≡ []

-- the rows found were rewritten
pub record IsUpdated (schema : Schema) (t : Table) (q : Query) (params : Row) (old new : Database) : Type 0 where
  pub found : List Row
  pub answer : IsAnswer q (overlay old.trees []) params found
  pub edited_so : IsEdited schema (edit_of old.trees (bare t) (ids_of found) Given 1 found) old new

module _ (schema : Schema) (text : List ℕ) (place : ℕ) (t : Table) (q : Query) (is : IsUpdate schema text place t q)
    (old new : State) (params : Row) (count : ℕ) (has : old.now.schema ≡ schema) where
  abbrev command : Command
  command = Update place (record { lets = []; body = q })

  with_changes : (w : Writes old new None command (statement_of text (understood schema text)) params count) (table : Option Table) → slice_get schema.tables place ≡ table → table ≡ Some (bare t)
      → Does old.step_limit (mode_of old) params (record old.now { schema = schema }) (statement_of text (understood schema text)) None command (Ok (w.tally, new.now)) → IsUpdated schema t q params old.now new.now
  with_changes w table table_is so h =
      let done = went (rw (table_is, so) at h) in
      let now = ap (λ (p : Tally × Database). p.1) (same_value (went (went done.2).2).2) in
      let found = went done.1 in
      let written = went found.2 in
      let trees : done.0.trees ≡ written.0 = ap (λ (it : Written). it.trees) (same_value written.2) in
      let db = old.now.trees in
      let edit = edit_of db (bare t) (ids_of found.0) Given 1 found.0 in
      let step = one_step schema (mode_of old).keys db written.0 edit (is.alone (mode_of old).keys (taken_by db edit) edit.news) written.1 in
      let same : new.now.trees ≡ written.0 = ap (λ (d : Database). d.trees) now ∙ trees in
      record {
        found = found.0;
        answer = found.1.answer Null;
        edited_so = record {
          schema_is = ap (λ (d : Database). d.schema) now;
          fresh = step.fresh;
          rows = ap (λ (x : Trees). x t.tree) same ∙ step.rows;
          others = subst (λ (x : Trees). AllByRecursion (λ (u : Table). u.tree ≢ t.tree → x u.tree ≡ db u.tree) schema.tables) (sym same) step.tables;
        };
      }

  pub updates : Executes text params old new (Ok count) → IsUpdated schema t q params old.now new.now
  updates h =
      let w = runs_as text params old new schema has command is.command is.plain count h in
      with_changes w _ refl is.table (subst (λ s. Does old.step_limit (mode_of old) params (record old.now { schema = s }) (statement_of text (understood schema text)) None command (Ok (w.tally, new.now))) has w.changed)
