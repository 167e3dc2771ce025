-- The plain indexes of the register are created, regardless of existing indexes, or the statement is rejected
-- because its name exists.
use Rattle.std.proofs.Common.{◌≡◌, ◌||◌, ℕ, List, [], ◌∷◌, Bool, true, false, not, None, Some, Ok, Err, Option, slice_get, codes, is_ok, refl, sym, ap, subst, ◌∙◌}
use Rattle.std.specs.List.{AllByRecursion, list_any}
use Rattle.std.proofs.lemmas.Bool.{false≢true}
use Rattle.land_tables_schema.proofs.Named.{IsIndex, compiled_by, heard, index_by_name, index_with, index_without}
use Rattle.land_tables_schema.proofs.Raisable.{but_for_indexes}
use Rattle.land_tables_schema.specs.Definitions.{AreReady, IsChanging, IsReady, with_index_of, index_on, schema_after_statements, schema_after_command, schema_after_statement}
use Rattle.land_tables_schema.specs.Schemas.{IsSchemaV2, an_index, is_key_of, schema_v2_with, adds_no_constraint}
use Rattle.land_tables_schema.specs.Laws.{index_statements}
use Rattle.land_tables_schema.specs.Tables as table
use Rattle.land_tables_schema.specs.Tables.{land_tables}
use Rattle.land_tables_schema.specs.declared.tables.mandate.TheConstants as mandate
use Rattle.land_tables_schema.specs.declared.tables.member.TheConstants as member
use Rattle.land_tables_schema.specs.declared.tables.mutation.TheConstants as mutation
use Rattle.land_tables_schema.specs.declared.tables.names.TheConstants as names
use Rattle.land_tables_schema.specs.declared.tables.parcel.TheConstants as parcel
use Rattle.land_tables_schema.specs.declared.tables.role.TheConstants as role
use Rattle.land_tables_schema.specs.declared.tables.rrr.TheConstants as rrr
use Rattle.sqlite.proofs.Callers.{command_of, statement_of}
use Rattle.sqlite.specs.Command.{Command}
use Rattle.sqlite.specs.Command.TheVariants.{CreateIndex}
use Rattle.sqlite.specs.Given.{IsPlain}
use Rattle.sqlite.specs.Listing.{understood}
use Rattle.sqlite_ast.specs.declared.CreateIndex.{CreateIndex as CreateIndexOf}
use Rattle.sqlite_ast.specs.declared.Statement.{Statement}
use Rattle.sqlite_ast.specs.declared.Statement.TheVariants as written
use Rattle.sqlite_catalog.specs.Change.{indexed, next_tree}
use Rattle.sqlite_keyed.proofs.ListLemmas.{list_all_push}
use Rattle.sqlite_resolve.specs.Compile.{first, index_defined_by}
use Rattle.sqlite_resolve.specs.Lowering.{Checked}
use Rattle.sqlite_resolve.specs.declared.error.CompileError.TheVariants.{Exists}
use Rattle.sqlite_schema.specs.Names.{index_named}
use Rattle.sqlite_schema.specs.declared.schema.Index.{Index}
use Rattle.sqlite_schema.specs.declared.schema.Schema.{Schema}
use Rattle.sqlite_schema.specs.declared.schema.Table.{Table}
use Rattle.sqlite_syntax.specs.declared.statement.Parsed.{Parsed}
use Rattle.sqlite_tied.specs.Compute.{everything}

statement_in : (r : Checked Parsed) → is_ok r ≡ true → Parsed
statement_in (Ok p) h = p
statement_in (Err e) h = absurd (false≢true h)

is_index : Statement → Bool
is_index (written.CreateIndex def) = true
is_index other = false

index_in : (s : Statement) → is_index s ≡ true → CreateIndexOf
unfolding is_index
index_in (written.CreateIndex def) h = def
index_in other h = absurd (false≢true h)

-- a statement creates a plain index on a table if its name is free, and is rejected if not
record MakesPlain (text : List ℕ) : Type 0 where
  it : IsIndex text
  place : ℕ
  on : Table
  index : Index
  command : command_of (understood (schema_v2_with []) text) ≡ CreateIndex place
  plain : IsPlain (understood (schema_v2_with []) text)
  whole : statement_of text (understood (schema_v2_with []) text) ≡ text
  there : slice_get land_tables place ≡ Some on
  defined : index_defined_by on text ≡ Ok index
  common : index.is_unique ≡ false
  taken : (indexes : List Index) (k : ℕ) → heard text (compiled_by text it (index_with (schema_v2_with indexes) it.def (Some k))) ≡ Err Exists

-- one more plain index rejects no more rows
indexed_is_land : (s : Schema) (t : Table) (i : Index) → i.is_unique ≡ false → IsSchemaV2 s → IsSchemaV2 (indexed s t i)
indexed_is_land s t i common has_tables =
    let new : Index = record i { tree = next_tree s; table = t.tree } in
    record {
      tables = has_tables.tables;
      indexes = list_all_push (adds_no_constraint s.tables) s.indexes new has_tables.indexes (ap (λ b. not b || list_any (is_key_of new) s.tables) common);
      views = has_tables.views;
    }

abbrev Indexed : List ℕ → Schema → Type 0
Indexed text s = IsReady s text × IsSchemaV2 (schema_after_statement s text)

module _ (text : List ℕ) (m : MakesPlain text) (is : List Index) (has_tables : IsSchemaV2 (schema_v2_with is)) where
  abbrev schema : Schema
  schema = schema_v2_with is

  made_as_known : (c : Command) (s : Schema) → c ≡ CreateIndex m.place → s ≡ indexed schema m.on m.index → schema_after_command schema text c ≡ s
  made_as_known c s c_is s_is =
      ap (schema_after_command schema text) c_is ∙ ap (index_on schema text) m.there ∙ ap (with_index_of schema m.on) m.defined ∙ sym s_is

  free_name : index_named schema m.it.def.name ≡ None → Indexed text schema
  free_name e =
      let same = index_without text m.it schema e in
      let command = ap command_of same ∙ m.command in (
        λ _. record {
          plain = subst IsPlain (sym same) m.plain;
          whole = ap (statement_of text) same ∙ m.whole;
          changing = subst (λ (c : Command). IsChanging c (schema_after_statement schema text)) (sym command) tt;
        },
        subst IsSchemaV2 (sym (made_as_known (command_of (understood schema text)) (indexed schema m.on m.index) command refl)) (indexed_is_land schema m.on m.index m.common has_tables),
      )

  taken_name : (k : ℕ) → index_named schema m.it.def.name ≡ Some k → Indexed text schema
  taken_name k e =
      let none = index_by_name text m.it schema (Some k) e ∙ m.taken is k in (
        λ ok. absurd (false≢true (sym (ap is_ok none) ∙ ok)),
        subst IsSchemaV2 (sym (ap (λ r. schema_after_command schema text (command_of r)) none)) has_tables,
      )

  by_name : (o : Option ℕ) → index_named schema m.it.def.name ≡ o → Indexed text schema
  by_name None e = free_name e
  by_name (Some k) e = taken_name k e

indexed_one : (text : List ℕ) → MakesPlain text → (s : Schema) → IsSchemaV2 s → Indexed text s
indexed_one text m s has_tables =
    let is = but_for_indexes s has_tables in
    subst (Indexed text) (sym is) (by_name text m s.indexes (subst IsSchemaV2 is has_tables) (index_named (schema_v2_with s.indexes) m.it.def.name) refl)

indexed_all : (texts : List (List ℕ)) → AllByRecursion MakesPlain texts → (s : Schema) → IsSchemaV2 s → AreReady s texts × IsSchemaV2 (schema_after_statements s texts)
indexed_all [] all s has_tables = (tt, has_tables)
indexed_all (text ∷ texts) all s has_tables =
    let one = indexed_one text all.0 s has_tables in
    let rest = indexed_all texts all.1 (schema_after_statement s text) one.1 in
    ((one.0, rest.0), rest.1)

rrr_party_is : IsIndex rrr.INDEX_PARTY.now
unfolding everything is_index statement_in index_in
rrr_party_is = record { parsed = statement_in (first rrr.INDEX_PARTY.now) refl; def = index_in (statement_in (first rrr.INDEX_PARTY.now) refl).statement refl; is = refl }

rrr_party_made : MakesPlain rrr.INDEX_PARTY.now
unfolding understood rrr_party_is everything is_index statement_in index_in
rrr_party_made = record {
  it = rrr_party_is;
  place = 7;
  on = table.rrr;
  index = an_index (codes "rrr_party") 0 12 (3 ∷ []) false;
  command = refl;
  plain = (refl, refl);
  whole = refl;
  there = refl;
  defined = refl;
  common = refl;
  taken = λ indexes k. refl;
}

rrr_unit_is : IsIndex rrr.INDEX_UNIT.now
unfolding everything is_index statement_in index_in
rrr_unit_is = record { parsed = statement_in (first rrr.INDEX_UNIT.now) refl; def = index_in (statement_in (first rrr.INDEX_UNIT.now) refl).statement refl; is = refl }

rrr_unit_made : MakesPlain rrr.INDEX_UNIT.now
unfolding understood rrr_unit_is everything is_index statement_in index_in
rrr_unit_made = record {
  it = rrr_unit_is;
  place = 7;
  on = table.rrr;
  index = an_index (codes "rrr_unit") 0 12 (2 ∷ []) false;
  command = refl;
  plain = (refl, refl);
  whole = refl;
  there = refl;
  defined = refl;
  common = refl;
  taken = λ indexes k. refl;
}

parcel_unit_is : IsIndex parcel.INDEX_UNIT.now
unfolding everything is_index statement_in index_in
parcel_unit_is = record { parsed = statement_in (first parcel.INDEX_UNIT.now) refl; def = index_in (statement_in (first parcel.INDEX_UNIT.now) refl).statement refl; is = refl }

parcel_unit_made : MakesPlain parcel.INDEX_UNIT.now
unfolding understood parcel_unit_is everything is_index statement_in index_in
parcel_unit_made = record {
  it = parcel_unit_is;
  place = 6;
  on = table.parcel;
  index = an_index (codes "parcel_unit") 0 10 (2 ∷ []) false;
  command = refl;
  plain = (refl, refl);
  whole = refl;
  there = refl;
  defined = refl;
  common = refl;
  taken = λ indexes k. refl;
}

member_party_is : IsIndex member.INDEX_PARTY.now
unfolding everything is_index statement_in index_in
member_party_is = record { parsed = statement_in (first member.INDEX_PARTY.now) refl; def = index_in (statement_in (first member.INDEX_PARTY.now) refl).statement refl; is = refl }

member_party_made : MakesPlain member.INDEX_PARTY.now
unfolding understood member_party_is everything is_index statement_in index_in
member_party_made = record {
  it = member_party_is;
  place = 4;
  on = table.member;
  index = an_index (codes "member_party") 0 6 (2 ∷ []) false;
  command = refl;
  plain = (refl, refl);
  whole = refl;
  there = refl;
  defined = refl;
  common = refl;
  taken = λ indexes k. refl;
}

names_unit_is : IsIndex names.INDEX_UNIT.now
unfolding everything is_index statement_in index_in
names_unit_is = record { parsed = statement_in (first names.INDEX_UNIT.now) refl; def = index_in (statement_in (first names.INDEX_UNIT.now) refl).statement refl; is = refl }

names_unit_made : MakesPlain names.INDEX_UNIT.now
unfolding understood names_unit_is everything is_index statement_in index_in
names_unit_made = record {
  it = names_unit_is;
  place = 10;
  on = table.names;
  index = an_index (codes "names_unit") 0 18 (2 ∷ []) false;
  command = refl;
  plain = (refl, refl);
  whole = refl;
  there = refl;
  defined = refl;
  common = refl;
  taken = λ indexes k. refl;
}

mutation_lodger_is : IsIndex mutation.INDEX_LODGER.now
unfolding everything is_index statement_in index_in
mutation_lodger_is = record { parsed = statement_in (first mutation.INDEX_LODGER.now) refl; def = index_in (statement_in (first mutation.INDEX_LODGER.now) refl).statement refl; is = refl }

mutation_lodger_made : MakesPlain mutation.INDEX_LODGER.now
unfolding understood mutation_lodger_is everything is_index statement_in index_in
mutation_lodger_made = record {
  it = mutation_lodger_is;
  place = 9;
  on = table.mutation;
  index = an_index (codes "mutation_lodger") 0 16 (2 ∷ 3 ∷ []) false;
  command = refl;
  plain = (refl, refl);
  whole = refl;
  there = refl;
  defined = refl;
  common = refl;
  taken = λ indexes k. refl;
}

role_role_is : IsIndex role.INDEX_ROLE.now
unfolding everything is_index statement_in index_in
role_role_is = record { parsed = statement_in (first role.INDEX_ROLE.now) refl; def = index_in (statement_in (first role.INDEX_ROLE.now) refl).statement refl; is = refl }

role_role_made : MakesPlain role.INDEX_ROLE.now
unfolding understood role_role_is everything is_index statement_in index_in
role_role_made = record {
  it = role_role_is;
  place = 3;
  on = table.role;
  index = an_index (codes "role_role") 0 4 (2 ∷ []) false;
  command = refl;
  plain = (refl, refl);
  whole = refl;
  there = refl;
  defined = refl;
  common = refl;
  taken = λ indexes k. refl;
}

mandate_agent_is : IsIndex mandate.INDEX_AGENT.now
unfolding everything is_index statement_in index_in
mandate_agent_is = record { parsed = statement_in (first mandate.INDEX_AGENT.now) refl; def = index_in (statement_in (first mandate.INDEX_AGENT.now) refl).statement refl; is = refl }

mandate_agent_made : MakesPlain mandate.INDEX_AGENT.now
unfolding understood mandate_agent_is everything is_index statement_in index_in
mandate_agent_made = record {
  it = mandate_agent_is;
  place = 11;
  on = table.mandate;
  index = an_index (codes "mandate_agent") 0 20 (2 ∷ []) false;
  command = refl;
  plain = (refl, refl);
  whole = refl;
  there = refl;
  defined = refl;
  common = refl;
  taken = λ indexes k. refl;
}

each_made : AllByRecursion MakesPlain index_statements
each_made = (rrr_party_made, (rrr_unit_made, (parcel_unit_made, (member_party_made, (names_unit_made, (mutation_lodger_made, (role_role_made, (mandate_agent_made, tt))))))))

-- the statements are ready to run on a register, and it stays one
pub indexes_ready : (s : Schema) → IsSchemaV2 s → AreReady s index_statements × IsSchemaV2 (schema_after_statements s index_statements)
indexes_ready s has_tables = indexed_all index_statements each_made s has_tables

pub plain_are_land : (s : Schema) → IsSchemaV2 s → IsSchemaV2 (schema_after_statements s index_statements)
plain_are_land s has_tables = (indexes_ready s has_tables).1
