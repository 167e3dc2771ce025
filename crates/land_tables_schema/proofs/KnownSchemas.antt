-- A register's schema is determined except for its indexes.
use Rattle.std.proofs.Common.{◌≡◌, ◌↔◌, ◌⊎◌, inl, inr, List, [], ◌∷◌, ◌++◌, length, take, drop, ℕ, Bool, true, false, not, ◌&&◌, ◌||◌, IsTrue, refl, ap, ap₂, sym, subst, ◌∙◌, arith}
use Rattle.std.proofs.lemmas.Bool.{and_from, and_parts, false≢true, or_right}
use Rattle.std.proofs.lemmas.Bool.Decides.{Decides-eqb}
use Rattle.std.proofs.lemmas.Grind.{common_steps}
use Rattle.std.proofs.lemmas.List.{take-append-drop, take_all}
use Rattle.std.proofs.lemmas.List.Folds.{list_any-append}
use Rattle.std.specs.Cmp.Lexicographic.{pointwise}
use Rattle.std.specs.List.{list_all, list_any}
use Rattle.std.specs.Prelude.{nat_eq}
use Rattle.land_tables_schema.proofs.Dropping.{first_without}
use Rattle.land_tables_schema.proofs.Indexing.{plain_are_land}
pub use Rattle.land_tables_schema.proofs.Raisable.{but_for_indexes, first_but_for_indexes}
use Rattle.land_tables_schema.proofs.Raisable.{mandates_are_land}
use Rattle.land_tables_schema.specs.Schemas.{ContainsSchemaV1, IsSchemaV1, IsSchemaV2, MayBeRegisterSchema, schema_v1_with, is_key_of, is_on, lookup_index_names, schema_v2_with, adds_no_constraint, constrains_no_row_of, with_mandates, without_lookup_indexes}
use Rattle.land_tables_schema.specs.Laws.{SchemasLaw}
use Rattle.land_tables_schema.specs.Tables.{v1_tables, land_tables, mandate}
use Rattle.sqlite_schema.specs.declared.schema.Index.{Index}
use Rattle.sqlite_schema.specs.declared.schema.Schema.{Schema}
use Rattle.sqlite_schema.specs.declared.schema.Table.{Table}

pub known_by_indexes : (s : Schema) → IsSchemaV2 s ↔ ((s ≡ schema_v2_with s.indexes) × (list_all (adds_no_constraint land_tables) s.indexes ≡ true))
known_by_indexes s = (
  λ has_tables. (but_for_indexes s has_tables, subst (λ (tables : List Table). list_all (adds_no_constraint tables) s.indexes ≡ true) has_tables.tables has_tables.indexes),
  λ is. record {
    tables = ap (λ (x : Schema). x.tables) is.0;
    indexes = subst (λ (tables : List Table). list_all (adds_no_constraint tables) s.indexes ≡ true) (sym (ap (λ (x : Schema). x.tables) is.0)) is.1;
    views = ap (λ (x : Schema). x.views) is.0;
  },
)

-- a schema with the tables of version 1 is determined except for its indexes and the tables after these
pub but_for_more : (s : Schema) (has : ContainsSchemaV1 s) → s ≡ schema_v1_with has.tables.0 s.indexes
but_for_more s has = ap₂ (λ tables views. record { tables = tables; indexes = s.indexes; views = views }) has.tables.1 has.views

-- a register's schema has them
pub land_has_first : (s : Schema) → IsSchemaV2 s → ContainsSchemaV1 s
land_has_first s has_tables = record { tables = (mandate ∷ [], has_tables.tables); views = has_tables.views }

-- ---- schemas that may be a register's

abbrev ComeFirst : List Table → Type 0
ComeFirst ts = (ts ≡ v1_tables) ⊎ ((t : Table) × (ts ≡ v1_tables ++ t ∷ []))

-- eleven or twelve tables, of which the first are those of version 1
come_first : (ts : List Table) → (length ts ≡ 11) ⊎ (length ts ≡ 12) → take 11 ts ≡ v1_tables → ComeFirst ts
come_first ts (inl eleven) are = inl (sym (take_all 11 ts (omega (arith, eleven))) ∙ are)
come_first ts (inr twelve) are = one (drop 11 ts) refl
  where
    parts : ts ≡ v1_tables ++ drop 11 ts
    parts = sym (take-append-drop 11 ts) ∙ ap (λ l. l ++ drop 11 ts) are

    count : length (drop 11 ts) ≡ 1
    count = grind (arith, common_steps)

    one : (rest : List Table) → drop 11 ts ≡ rest → ComeFirst ts
    one [] is = absurd (let none : 0 ≡ 1 = sym (ap length is) ∙ count in omega (arith, none))
    one (t ∷ []) is = inr (t, parts ∙ ap (λ l. v1_tables ++ l) is)
    one (t ∷ u ∷ us) is = absurd (let many : length (t ∷ u ∷ us) ≡ 1 = sym (ap length is) ∙ count in omega (arith, many))

they_do : (ts : List Table) → ComeFirst ts → take 11 ts ≡ v1_tables
they_do ts (inl are) = ap (take 11) are
they_do ts (inr more) = ap (take 11) more.1

pub may_be : (s : Schema) (b : Bool) → (length s.tables ≡ 11) ⊎ (length s.tables ≡ 12) → take 11 s.tables ≡ v1_tables → list_all (constrains_no_row_of (take 11 s.tables)) s.indexes ≡ true → IsTrue b ↔ (s.views ≡ [])
    → (IsTrue b → MayBeRegisterSchema s) × (MayBeRegisterSchema s → IsTrue b)
may_be s b count are constrain_no_rows_of views = (
  λ it. record { tables = come_first s.tables count are; indexes = subst (λ ts. list_all (constrains_no_row_of ts) s.indexes ≡ true) are constrain_no_rows_of; views = views.0 it },
  λ may. views.1 may.views,
)

may_have_first : (s : Schema) → MayBeRegisterSchema s → ContainsSchemaV1 s
may_have_first s may = record { tables = follow may.tables; views = may.views }
  where
    follow : ComeFirst s.tables → (more : List Table) × (s.tables ≡ v1_tables ++ more)
    follow (inl are) = ([], are)
    follow (inr more) = (more.0 ∷ [], more.1)

spared_all : (is : List Index) → list_all (adds_no_constraint v1_tables) is ≡ true → list_all (constrains_no_row_of v1_tables) is ≡ true
spared_all [] h = refl
spared_all (i ∷ is) h =
    let parts = and_parts (adds_no_constraint v1_tables i) (list_all (adds_no_constraint v1_tables) is) h in
    and_from (constrains_no_row_of v1_tables i) (list_all (constrains_no_row_of v1_tables) is) (or_right (not (is_on v1_tables i)) (adds_no_constraint v1_tables i) parts.0) (spared_all is parts.1)

first_may_be : (s : Schema) → IsSchemaV1 s → MayBeRegisterSchema s
first_may_be s first = record {
  tables = inl first.tables;
  indexes = spared_all s.indexes (subst (λ (ts : List Table). list_all (adds_no_constraint ts) s.indexes ≡ true) first.tables first.indexes);
  views = first.views;
}

-- an index on `mandate` is on no other table
elsewhere : (i : Index) → i.table ≡ 20 → is_on v1_tables i ≡ false
elsewhere i is = ap (λ (n : ℕ). list_any (λ (t : Table). nat_eq n t.tree) v1_tables) is

-- so an index that rejects no more rows than the keys of all tables rejects none of the first ones
spares_first : (i : Index) → adds_no_constraint land_tables i ≡ true → constrains_no_row_of v1_tables i ≡ true
spares_first i h = by_case (not i.is_unique) (list_any (is_key_of i) v1_tables) (nat_eq i.table 20) refl (pointwise nat_eq i.columns mandate.primary) whole
  where
    whole : (not i.is_unique || (list_any (is_key_of i) v1_tables || ((nat_eq i.table 20 && pointwise nat_eq i.columns mandate.primary) || false))) ≡ true
    whole = ap (λ b. not i.is_unique || b) (sym (list_any-append (is_key_of i) v1_tables (mandate ∷ []))) ∙ h

    by_case : (a b c : Bool) → nat_eq i.table 20 ≡ c → (d : Bool) → (a || (b || ((c && d) || false))) ≡ true → (not (is_on v1_tables i) || (a || b)) ≡ true
    by_case true b c is d h = or_right (not (is_on v1_tables i)) true refl
    by_case false true c is d h = or_right (not (is_on v1_tables i)) true refl
    by_case false false true is d h = ap (λ x. not x || false) (elsewhere i ((Decides-eqb i.table 20).0 is))
    by_case false false false is d h = absurd (false≢true h)

land_spared : (is : List Index) → list_all (adds_no_constraint land_tables) is ≡ true → list_all (constrains_no_row_of v1_tables) is ≡ true
land_spared [] h = refl
land_spared (i ∷ is) h =
    let parts = and_parts (adds_no_constraint land_tables i) (list_all (adds_no_constraint land_tables) is) h in
    and_from (constrains_no_row_of v1_tables i) (list_all (constrains_no_row_of v1_tables) is) (spares_first i parts.0) (land_spared is parts.1)

land_may_be : (s : Schema) → IsSchemaV2 s → MayBeRegisterSchema s
land_may_be s has_tables = record {
  tables = inr (mandate, has_tables.tables);
  indexes = land_spared s.indexes (subst (λ (ts : List Table). list_all (adds_no_constraint ts) s.indexes ≡ true) has_tables.tables has_tables.indexes);
  views = has_tables.views;
}

pub known_schemas : SchemasLaw
known_schemas = record { has_tables = land_may_be; first = first_may_be; tables = may_have_first; raised = λ s first. plain_are_land (with_mandates (without_lookup_indexes s)) (mandates_are_land (without_lookup_indexes s) (first_without lookup_index_names s first)) }
