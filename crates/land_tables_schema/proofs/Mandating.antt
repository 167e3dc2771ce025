-- The effect of the CREATE TABLE statement of `mandate`.
use Rattle.std.proofs.Common.{◌≡◌, ℕ, List, [], false, None, Some, Ok, Err, Option, is_ok, true, Bool, refl, sym, ap, subst, ◌∙◌}
use Rattle.land_tables_schema.specs.Rows.SchemaMigration.{CreatesMandateTable}
use Rattle.land_tables_schema.specs.declared.tables.mandate.TheConstants.{CREATE}
use Rattle.land_tables_schema.proofs.Named.{IsTable, by_name, compiled_with, heard, same_without, table_with}
use Rattle.sqlite_resolve.specs.declared.compiled.Compiled.{Compiled}
use Rattle.sqlite_resolve.specs.declared.error.CompileError.TheVariants.{Exists}
use Rattle.std.proofs.lemmas.Bool.{false≢true}
use Rattle.sqlite_ast.specs.declared.CreateTable.{CreateTable as CreateTableOf}
use Rattle.sqlite_ast.specs.declared.Statement.{Statement}
use Rattle.sqlite_ast.specs.declared.Statement.TheVariants as written
use Rattle.sqlite_resolve.specs.Compile.{first}
use Rattle.sqlite_resolve.specs.Lowering.{Checked}
use Rattle.sqlite_syntax.specs.declared.statement.Parsed.{Parsed}
use Rattle.land_tables_schema.proofs.Creates.{ran, same_value, went}
use Rattle.land_tables_schema.proofs.Raisable.{but_for_indexes, created_is, first_but_for_indexes, mandates_are_land}
use Rattle.land_tables_schema.specs.Schemas.{IsSchemaV1, IsSchemaV2, schema_v1_with, schema_v2_with, with_mandates}
use Rattle.land_tables_schema.specs.Tables.{v1_tables, mandate}
use Rattle.sqlite.proofs.Callers.{command_of, runs_as, statement_of}
use Rattle.sqlite.specs.Command.TheVariants.{CreateTable}
use Rattle.sqlite.specs.Compile.{table_defined_by}
use Rattle.sqlite.specs.Does.{Tally, lacks_sequence}
use Rattle.sqlite.specs.Effect.{Database}
use Rattle.sqlite.specs.Given.{IsPlain}
use Rattle.sqlite.specs.Listing.{understood}
use Rattle.sqlite.specs.State.{State, Runs, Executes}
use Rattle.sqlite_catalog.specs.Change.{KeepsRows, next_tree}
use Rattle.sqlite_schema.specs.Names.{index_named}
use Rattle.sqlite_schema.specs.declared.schema.Index.{Index}
use Rattle.sqlite_schema.specs.declared.schema.Schema.{Schema}
use Rattle.sqlite_tied.specs.Compute.{everything}

-- the statement is one CREATE TABLE, for all indexes
record IsOneTable (indexes : List Index) : Type 0 where
  command : command_of (understood (schema_v1_with [] indexes) CREATE.now) ≡ CreateTable
  plain : IsPlain (understood (schema_v1_with [] indexes) CREATE.now)
  whole : statement_of CREATE.now (understood (schema_v1_with [] indexes) CREATE.now) ≡ CREATE.now
  defines : table_defined_by CREATE.now ≡ Ok (record mandate { tree = 0 })

statement_in : (r : Checked Parsed) → is_ok r ≡ true → Parsed
statement_in (Ok p) h = p
statement_in (Err e) h = absurd (false≢true h)

is_table : Statement → Bool
is_table (written.CreateTable def) = true
is_table other = false

table_in : (s : Statement) → is_table s ≡ true → CreateTableOf
unfolding is_table
table_in (written.CreateTable def) h = def
table_in other h = absurd (false≢true h)

create_is : IsTable CREATE.now
unfolding everything is_table statement_in table_in
create_is = record { parsed = statement_in (first CREATE.now) refl; def = table_in (statement_in (first CREATE.now) refl).statement refl; is = refl }

bare_table : IsOneTable []
unfolding understood everything
bare_table = record { command = refl; plain = (refl, refl); whole = refl; defines = refl }

one_table : (indexes : List Index) → index_named (schema_v1_with [] indexes) create_is.def.name ≡ None → IsOneTable indexes
one_table indexes free =
    let same = same_without CREATE.now create_is (schema_v1_with [] indexes) free in
    record {
      command = ap command_of same ∙ bare_table.command;
      plain = subst IsPlain (sym same) bare_table.plain;
      whole = ap (statement_of CREATE.now) same ∙ bare_table.whole;
      defines = bare_table.defines;
    }

refused : (c : Compiled) → ◌≡◌ {A = Checked Compiled} (Err Exists) (Ok c) → ⊥
refused c e = cc

-- if an index has the name, the statement is rejected
taken : (indexes : List Index) (k : ℕ) → heard CREATE.now (compiled_with CREATE.now create_is (table_with (schema_v1_with [] indexes) create_is.parsed.formats create_is.def (Some k))) ≡ Err Exists
unfolding create_is everything is_table statement_in table_in
taken indexes k = refl

free : (old new : State) (count : ℕ) → IsSchemaV1 old.now.schema → Executes CREATE.now [] old new (Ok count) → index_named old.now.schema create_is.def.name ≡ None
free old new count has_tables h = by_case (index_named old.now.schema create_is.def.name) refl
  where
    by_case : (o : Option ℕ) → index_named old.now.schema create_is.def.name ≡ o → index_named old.now.schema create_is.def.name ≡ None
    by_case None e = e
    by_case (Some k) e =
        let indexes = old.now.schema.indexes in
        let has = first_but_for_indexes old.now.schema has_tables in
        let it = ran CREATE.now old new count h in
        let named : index_named (schema_v1_with [] indexes) create_is.def.name ≡ Some k = ap (λ s. index_named s create_is.def.name) (sym has) ∙ e in
        let none : Err Exists ≡ Ok it.0 = sym (taken indexes k) ∙ sym (by_name CREATE.now create_is (schema_v1_with [] indexes) (Some k) named) ∙ ap (λ s. understood s CREATE.now) (sym has) ∙ it.1 in
        absurd (refused it.0 none)

lacks_with : (indexes : List Index) → lacks_sequence (schema_v2_with indexes) ≡ false
lacks_with indexes = refl

lacks : (s : Schema) → IsSchemaV2 s → lacks_sequence s ≡ false
lacks s h = ap lacks_sequence (but_for_indexes s h) ∙ lacks_with s.indexes

module _ (old new : State) (count : ℕ) where
  pub makes_table : IsSchemaV1 old.now.schema → next_tree old.now.schema ≡ 20 → Executes CREATE.now [] old new (Ok count) → CreatesMandateTable old.now new.now
  makes_table is next h =
      let indexes = old.now.schema.indexes in
      let has = first_but_for_indexes old.now.schema is in
      let one = one_table indexes (ap (λ s. index_named s create_is.def.name) (sym has) ∙ free old new count is h) in
      let w = subst (λ t. Runs old new None CreateTable t [] count) one.whole (runs_as CREATE.now [] old new (schema_v1_with [] indexes) has CreateTable one.command one.plain count h) in
      let all = went w.changed in
      let first = went all.1 in
      let made = first.1 in
      let table_is : made.table ≡ record mandate { tree = 0 } = same_value (sym made.defined ∙ one.defines) in
      let schema : first.0.schema ≡ with_mandates old.now.schema = made.is ∙ created_is old.now.schema made.table next table_is in
      let plain = lacks first.0.schema (subst IsSchemaV2 (sym schema) (mandates_are_land old.now.schema is)) in
      let now : new.now ≡ first.0 = ap (λ (p : Tally × Database). p.1) (same_value all.2) ∙ same_value (rw plain at first.2) in
      record {
        schema = ap (λ (d : Database). d.schema) now ∙ schema;
        empty = ap (λ (d : Database). d.trees 20) now ∙ subst (λ (n : ℕ). first.0.trees n ≡ []) next made.empty;
        kept = subst (λ (d : Database). KeepsRows v1_tables old.now.trees d.trees) (sym now) (subst (λ ts. KeepsRows ts old.now.trees first.0.trees) is.tables made.others);
      }
