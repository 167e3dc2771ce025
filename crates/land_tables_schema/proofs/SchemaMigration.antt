-- The row of `edition` is rewritten, and a register of version 1 becomes one of version 2, step by step.
use Rattle.std.proofs.Common.{◌≡◌, ◌≢◌, ℕ, pos, List, [], ◌∷◌, ◌++◌, map, filter, true, false, not, cond, drop, Ok, refl, sym, ap, ap₂, subst, ◌∙◌, IsPermutation, arith}
use Rattle.std.specs.List.{AllByRecursion}
use Rattle.std.proofs.lemmas.List.Sorted.{IsPermutation-refl, IsPermutation-sym, length_permutation}
use Rattle.land_tables_schema.proofs.Dropping.{drops_ready, first_without, next_is}
use Rattle.land_tables_schema.proofs.Indexing.{plain_are_land}
use Rattle.land_tables_schema.proofs.Raisable.{but_for_indexes, mandates_are_land}
use Rattle.land_tables_schema.specs.Definitions.{schema_after_statements}
use Rattle.land_tables_schema.specs.Schemas.{IsSchemaV1 as IsFirstSchema, IsSchemaV2, IsMigratable, lookup_index_names, schema_v2_with, with_mandates}
use Rattle.land_tables_schema.specs.Laws.{drop_statements, index_statements}
use Rattle.land_tables_schema.specs.Making.{DefinesAll}
use Rattle.land_tables_schema.specs.Rows.SchemaMigration.{DropsLookupIndexes, CreatesLookupIndexes, CreatesMandateTable, Migrates, Rewrites}
use Rattle.land_tables_schema.specs.declared.rows.tables.edition.TheConstants.{RAISE}
use Rattle.land_tables_schema.proofs.Casts.{cast_null, cast_whole}
use Rattle.land_tables_schema.proofs.Statements.{IsUpdate, IsUpdated, bare, updates}
use Rattle.land_tables_schema.proofs.Updates.{answer_is, numbered_given, passes, plainly}
use Rattle.land_tables_schema.specs.Rows.Edition.{v2_edition, edition_row, v1_edition}
use Rattle.land_tables_schema.specs.Rows.Forms.{KeepsOthers, Lists}
use Rattle.land_tables_schema.specs.Rows.ReadQueries.{numbered_cells}
use Rattle.land_tables_schema.proofs.Steps.{step_then, was_clean}
use Rattle.land_tables_schema.specs.Steps.{IsTransactionStep}
use Rattle.land_tables_schema.specs.Tables as table
use Rattle.land_tables_schema.specs.Tables.{v1_tables, land_tables, mandate}
use Rattle.sqlite.specs.Effect.{Database}
use Rattle.sqlite.specs.Listing.{understood}
use Rattle.sqlite.specs.Program.{overlay}
use Rattle.sqlite.specs.State.{HasCleanDisk, State, Executes}
use Rattle.sqlite.specs.Term.{Term, lit, col, op2}
use Rattle.sqlite.specs.declared.types.Value.TheVariants.{Int, Null}
use Rattle.sqlite_catalog.specs.Change.{KeepsRows, next_tree}
use Rattle.sqlite_schema.specs.declared.schema.Index.{Index}
use Rattle.sqlite_schema.specs.declared.schema.Table.{Table}
use Rattle.sqlite_sql.specs.declared.ops.BinaryOp.TheVariants.{Compare}
use Rattle.sqlite_sql.specs.declared.ops.CompareOp.TheVariants.{Eq}
use Rattle.sqlite_tied.specs.Compute.{everything}
use Rattle.sqlite_trees.proofs.ListLemmas.{all-permutation}
use Rattle.sqlite_trees.specs.Tree.{Trees}
use Rattle.sqlite_typed.proofs.TestLemmas.{at_ints, last_term}
use Rattle.sqlite_value.specs.Order.{Row, column, value_cmp}
use Rattle.sqlite_value.specs.declared.value.Value.{Value}
use Rattle.sqlite.specs.Cast.{cast_row}
use Rattle.sqlite.specs.Edit.{edit_of}
use Rattle.sqlite.specs.Rowids.TheVariants.{Given}
use Rattle.sqlite.specs.Term.{eval_all}
use Rattle.sqlite_rules.specs.Calls.{ids_of}
use Rattle.sqlite_rules.specs.Edit.{put_all, without_all}
use Rattle.std.specs.Ordering.{is_eq}
use Rattle.sqlite_value.specs.declared.keys.Collation.TheVariants.{Binary}

abbrev by_id : List Term
by_id = op2 (Compare Eq Binary) (col 1 0) (lit (Int (pos 1))) ∷ []

abbrev raised : List Term
raised = col 1 0 ∷ col 1 0 ∷ lit Null ∷ lit (Int (pos 2)) ∷ []

updates_it : (indexes : List Index) → IsUpdate (schema_v2_with indexes) RAISE.now 0 table.edition (plainly 0 by_id raised)
unfolding understood everything
updates_it indexes = record { command = refl; plain = (refl, refl); table = refl; alone = λ _ _ _. refl }

-- a list with the same elements as a one-element list is that list
pub only_one : {X : Type 0} (x : X) (ys : List X) → IsPermutation (x ∷ []) ys → ys ≡ x ∷ []
only_one x [] p = absurd (omega (arith, length_permutation (x ∷ []) [] p))
only_one x (y ∷ []) p = ap (λ z. z ∷ []) (all-permutation (λ z. z ≡ x) (x ∷ []) (y ∷ []) p (refl, tt)).0
only_one x (y ∷ z ∷ zs) p = absurd (omega (arith, length_permutation (x ∷ []) (y ∷ z ∷ zs) p))

-- the row as the query returns it, and as it is rewritten
abbrev shown : Row
shown = Int (pos 1) ∷ Int (pos 1) ∷ Null ∷ Int (pos 2) ∷ []

abbrev anew : Row
anew = Int (pos 1) ∷ Null ∷ Int (pos 2) ∷ []

written_anew : cast_row (bare table.edition) anew ≡ anew
written_anew = simp (cast_null, cast_whole)

-- the one row of version 1
record IsSchemaV1 (rows : List Row) : Type 0 where
  row : Row
  is : rows ≡ row ∷ []
  id : column row 0 ≡ Int (pos 1)

first_cell : {a b c d : Value} {rs : List Row} → (a ∷ b ∷ []) ∷ rs ≡ (c ∷ d ∷ []) ∷ [] → a ≡ c
first_cell e = cc

no_more : {a b : Row} {rs : List Row} → a ∷ rs ≡ b ∷ [] → rs ≡ []
no_more e = cc

none_is_not : {a : Row} → [] ≡ a ∷ [] → ⊥
none_is_not e = cc

no_map : (rs : List Row) → map numbered_cells rs ≡ [] → rs ≡ []
no_map [] e = refl
no_map (r ∷ rs) e = absurd (cc)

is_schema_v1 : (rows : List Row) → IsPermutation (map numbered_cells rows) (edition_row v1_edition ∷ []) → IsSchemaV1 rows
is_schema_v1 rows p = of (only_one (edition_row v1_edition) (map numbered_cells rows) (IsPermutation-sym (map numbered_cells rows) (edition_row v1_edition ∷ []) p)) rows refl
  where
    of : map numbered_cells rows ≡ edition_row v1_edition ∷ [] → (rs : List Row) → rows ≡ rs → IsSchemaV1 rows
    of e [] is = absurd (none_is_not (sym (ap (map numbered_cells) is) ∙ e))
    of e (r ∷ rs) is =
        let all : numbered_cells r ∷ map numbered_cells rs ≡ edition_row v1_edition ∷ [] = sym (ap (map numbered_cells) is) ∙ e in
        record { row = r; is = is ∙ ap (λ l. r ∷ l) (no_map rs (no_more all)); id = first_cell all }

passes_it : (r : Row) → column r 0 ≡ Int (pos 1) → passes by_id [] r ≡ true
passes_it r id = ap (λ v. passes by_id [] (v ∷ [])) id ∙ last_term (at_ints false Eq (pos 1) (pos 1))

found_is : (rows found : List Row) → IsSchemaV1 rows → IsPermutation (map (λ r. eval_all raised ([] ∷ r ∷ [])) (filter (passes by_id []) rows)) found → found ≡ shown ∷ []
found_is rows found one p =
    let kept : filter (passes by_id []) (one.row ∷ []) ≡ one.row ∷ [] = ap (λ b. cond b (one.row ∷ []) []) (passes_it one.row one.id) in
    let q = subst (λ rs. IsPermutation (map (λ r. eval_all raised ([] ∷ r ∷ [])) rs) found) (ap (filter (passes by_id [])) one.is ∙ kept) p in
    only_one (eval_all raised ([] ∷ one.row ∷ [])) found q ∙ ap (λ v. (v ∷ v ∷ Null ∷ Int (pos 2) ∷ []) ∷ []) one.id

gone : (r : Row) → column r 0 ≡ Int (pos 1) → without_all (r ∷ []) (pos 1 ∷ []) ≡ []
unfolding value_cmp lib.Ieee.is_nan lib.Ieee.lt
gone r id = ap (λ v. cond (not (is_eq (value_cmp v (Int (pos 1))))) (r ∷ []) []) id

rewritten : (rows found : List Row) → IsSchemaV1 rows → found ≡ shown ∷ []
    → put_all (without_all rows (ids_of found)) (map (λ s. cast_row (bare table.edition) (drop 1 s)) found) ≡ anew ∷ []
rewritten rows found one is =
    ap (λ f. put_all (without_all rows (ids_of f)) (map (λ s. cast_row (bare table.edition) (drop 1 s)) f)) is
    ∙ ap₂ (λ rs n. put_all rs (n ∷ [])) (ap (λ rs. without_all rs (pos 1 ∷ [])) one.is ∙ gone one.row one.id) written_anew

module _ (indexes : List Index) (old new : Database) (has : old.schema ≡ schema_v2_with indexes) (did : IsUpdated (schema_v2_with indexes) table.edition (plainly 0 by_id raised) [] old new) where
  news_written : (edit_of old.trees (bare table.edition) (ids_of did.found) Given 1 did.found).news ≡ map (λ s. cast_row (bare table.edition) (drop 1 s)) did.found
  news_written = numbered_given _ _

  raises_row : Lists table.edition edition_row old.trees (v1_edition ∷ []) → Lists table.edition edition_row new.trees (v2_edition ∷ [])
  raises_row held =
      let rows = old.trees 0 in
      let one = is_schema_v1 rows held in
      let found = found_is rows did.found one (answer_is 0 by_id raised (overlay old.trees []) [] did.found did.answer) in
      let so : new.trees 0 ≡ anew ∷ [] = did.edited_so.rows ∙ ap (put_all (without_all rows (ids_of did.found))) news_written ∙ rewritten rows did.found one found in
      subst (λ rs. IsPermutation (map numbered_cells rs) (edition_row v2_edition ∷ [])) (sym so) (IsPermutation-refl (edition_row v2_edition ∷ []))

  row_rewritten : Rewrites v1_edition v2_edition old new
  row_rewritten = record { schema = did.edited_so.schema_is ∙ sym has; rewritten = raises_row; kept = did.edited_so.others }

pub rewrites : (old new : State) (count : ℕ) → IsSchemaV2 old.now.schema → Executes RAISE.now [] old new (Ok count) → Rewrites v1_edition v2_edition old.now new.now
rewrites old new count has_tables h =
    let indexes = old.now.schema.indexes in
    let has = but_for_indexes old.now.schema has_tables in
    row_rewritten indexes old.now new.now has
    (updates (schema_v2_with indexes) RAISE.now 0 table.edition (plainly 0 by_id raised) (updates_it indexes) old new [] count has h)

-- ---- in order

pub drops_joins : (old new : Database) → IsMigratable old.schema → DefinesAll drop_statements old new → DropsLookupIndexes old new
drops_joins old new able did = record {
  schema = did.schema ∙ (drops_ready old.schema able).1;
  kept = subst (λ ts. KeepsRows ts old.trees new.trees) able.first.tables did.kept;
}

pub makes_indexes : (old new : Database) → IsSchemaV2 old.schema → DefinesAll index_statements old new → CreatesLookupIndexes old new
makes_indexes old new has_tables did = record {
  schema = did.schema;
  has_tables = subst IsSchemaV2 (sym did.schema) (plain_are_land old.schema has_tables);
  kept = subst (λ ts. KeepsRows ts old.trees new.trees) has_tables.tables did.kept;
}

kept_all : (a b c d e : Trees) → KeepsRows v1_tables a b → KeepsRows v1_tables b c → KeepsRows land_tables c d → KeepsOthers table.edition d e
    → AllByRecursion (λ (t : Table). t.tree ≢ 0 → e t.tree ≡ a t.tree) v1_tables
kept_all a b c d e first second third fourth = go v1_tables (mandate ∷ []) first second third fourth
  where
    go : (ts more : List Table) → KeepsRows ts a b → KeepsRows ts b c → KeepsRows (ts ++ more) c d → AllByRecursion (λ (t : Table). t.tree ≢ 0 → e t.tree ≡ d t.tree) (ts ++ more)
        → AllByRecursion (λ (t : Table). t.tree ≢ 0 → e t.tree ≡ a t.tree) ts
    go [] more f s t u = tt
    go (x ∷ xs) more f s t u = (λ other. u.0 other ∙ t.0 ∙ s.0 ∙ f.0, go xs more f.1 s.1 t.1 u.1)

last_kept : (b c : Trees) → KeepsRows land_tables b c → c 20 ≡ b 20
last_kept b c kept = kept.1.1.1.1.1.1.1.1.1.1.1.0

last_left : (c d : Trees) → KeepsOthers table.edition c d → d 20 ≡ c 20
last_left c d kept = kept.1.1.1.1.1.1.1.1.1.1.1.0 (λ e. absurd (omega arith))

raises : (a b c d e : Database) → DropsLookupIndexes a b → CreatesMandateTable b c → CreatesLookupIndexes c d → Rewrites v1_edition v2_edition d e → Migrates a e
raises a b c d e dropped with_table_of indexes_made row = record {
  schema = row.schema ∙ indexes_made.schema ∙ ap (λ s. schema_after_statements s index_statements) (with_table_of.schema ∙ ap with_mandates dropped.schema);
  has_tables = subst IsSchemaV2 (sym row.schema) indexes_made.has_tables;
  edition = λ held. row.rewritten (subst (λ rs. IsPermutation (map numbered_cells rs) (edition_row v1_edition ∷ [])) (sym (indexes_made.kept.0 ∙ with_table_of.kept.0 ∙ dropped.kept.0)) held);
  mandates = last_left d.trees e.trees row.kept ∙ last_kept c.trees d.trees indexes_made.kept ∙ with_table_of.empty;
  kept = kept_all a.trees b.trees c.trees d.trees e.trees dropped.kept with_table_of.kept indexes_made.kept row.kept;
}

module _ {X E : Type 0} {x : X} (a b : State) (able : HasCleanDisk a → IsMigratable a.now.schema) (dropped : IsTransactionStep {X = X} {E = E} (Ok x) DropsLookupIndexes a b) where
  -- without the plain indexes the schema still has version 1
  pub joins_first : HasCleanDisk b → IsFirstSchema b.now.schema
  joins_first clean = subst IsFirstSchema (sym (dropped.done clean).schema) (first_without lookup_index_names a.now.schema (able (was_clean a b dropped.survives clean)).first)

  -- and the next tree is that of `mandate`
  pub joins_next : HasCleanDisk b → next_tree b.now.schema ≡ 20
  joins_next clean = ap next_tree (dropped.done clean).schema ∙ next_is a.now.schema (able (was_clean a b dropped.survives clean))

-- with the table the schema is the register's
pub table_land : {X E : Type 0} {x : X} (b c : State) → (HasCleanDisk b → IsFirstSchema b.now.schema) → IsTransactionStep {X = X} {E = E} (Ok x) CreatesMandateTable b c → HasCleanDisk c → IsSchemaV2 c.now.schema
table_land b c first step clean = subst IsSchemaV2 (sym (step.done clean).schema) (mandates_are_land b.now.schema (first (was_clean b c step.survives clean)))

pub index_land : {X E : Type 0} {x : X} (c d : State) → IsTransactionStep {X = X} {E = E} (Ok x) CreatesLookupIndexes c d → HasCleanDisk d → IsSchemaV2 d.now.schema
index_land c d step clean = (step.done clean).has_tables

abbrev Anything : Database → Database → Type 0
Anything old new = Unit {0}

pub all_steps : {W X Y Z E : Type 0} {w : W} {x : X} {y : Y} {z : Z} (a b c d e : State) → IsTransactionStep {X = W} {E = E} (Ok w) DropsLookupIndexes a b → IsTransactionStep {X = X} {E = E} (Ok x) CreatesMandateTable b c
    → IsTransactionStep {X = Y} {E = E} (Ok y) CreatesLookupIndexes c d → IsTransactionStep {X = Z} {E = E} (Ok z) (Rewrites v1_edition v2_edition) d e → IsTransactionStep {X = Unit {0}} {E = E} (Ok tt) Migrates a e
all_steps {E = E} a b c d e one two three four =
    let first : IsTransactionStep {X = Unit {0}} {E = E} (Ok tt) Anything a c = step_then a b c one two (λ _ _ _. tt) in
    let second : IsTransactionStep {X = Unit {0}} {E = E} (Ok tt) Anything a d = step_then a c d first three (λ _ _ _. tt) in
    let third : IsTransactionStep {X = Unit {0}} {E = E} (Ok tt) Anything a e = step_then a d e second four (λ _ _ _. tt) in
    record {
      done = λ clean.
          let at_d = was_clean d e four.survives clean in
          let at_c = was_clean c d three.survives at_d in
          let at_b = was_clean b c two.survives at_c in
          raises a.now b.now c.now d.now e.now (one.done at_b) (two.done at_c) (three.done at_d) (four.done clean);
      inside = third.inside;
      kept = third.kept;
      survives = third.survives;
    }
