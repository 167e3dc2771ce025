-- A schema of version 1 becomes one of version 2.
use Rattle.std.proofs.Common.{◌≡◌, ◌+◌, ◌||◌, ℕ, List, [], ◌∷◌, ◌++◌, Bool, true, false, not, refl, sym, ap, ap₂, subst}
use Rattle.std.specs.List.{list_all, list_any}
use Rattle.std.proofs.lemmas.Bool.{and_from, and_parts, false≢true}
use Rattle.std.proofs.lemmas.List.Folds.{list_any-append}
use Rattle.land_tables_schema.specs.Schemas.{IsSchemaV1, IsSchemaV2, schema_v1_with, is_key_of, schema_v2_with, mandate_keys, adds_no_constraint, with_mandates}
use Rattle.land_tables_schema.specs.Tables.{v1_tables, land_tables, mandate}
use Rattle.sqlite_catalog.specs.Change.{automatics, created, next_tree}
use Rattle.sqlite_keyed.proofs.ListLemmas.{list_all_push}
use Rattle.sqlite_schema.specs.declared.schema.Index.{Index}
use Rattle.sqlite_schema.specs.declared.schema.Schema.{Schema}
use Rattle.sqlite_schema.specs.declared.schema.Table.{Table}
use Rattle.sqlite_tied.specs.Compute.{everything}

-- ---- properties of a schema

pub but_for_indexes : (s : Schema) → IsSchemaV2 s → s ≡ schema_v2_with s.indexes
but_for_indexes s has_tables = ap₂ (λ tables views. record { tables = tables; indexes = s.indexes; views = views }) has_tables.tables has_tables.views

-- a schema of version 1 is determined except for its indexes
pub first_but_for_indexes : (s : Schema) → IsSchemaV1 s → s ≡ schema_v1_with [] s.indexes
first_but_for_indexes s first = ap₂ (λ tables views. record { tables = tables; indexes = s.indexes; views = views }) first.tables first.views

-- ---- indexes reject no more rows than keys do

-- with one more table they still reject no more rows
still_no_more : (i : Index) → adds_no_constraint v1_tables i ≡ true → adds_no_constraint land_tables i ≡ true
still_no_more i h =
    more (not i.is_unique) (list_any (is_key_of i) v1_tables) (list_any (is_key_of i) land_tables) (list_any (is_key_of i) (mandate ∷ [])) (list_any-append (is_key_of i) v1_tables (mandate ∷ [])) h
  where
    more : (a b c d : Bool) → c ≡ (b || d) → (a || b) ≡ true → (a || c) ≡ true
    more true b c d is h = refl
    more false true c d is h = is
    more false false c d is h = absurd (false≢true h)

all_still : (is : List Index) → list_all (adds_no_constraint v1_tables) is ≡ true → list_all (adds_no_constraint land_tables) is ≡ true
all_still [] h = refl
all_still (i ∷ is) h =
    let parts = and_parts (adds_no_constraint v1_tables i) (list_all (adds_no_constraint v1_tables) is) h in
    and_from (adds_no_constraint land_tables i) (list_all (adds_no_constraint land_tables) is) (still_no_more i parts.0) (all_still is parts.1)

pub mandates_are_land : (s : Schema) → IsSchemaV1 s → IsSchemaV2 (with_mandates s)
mandates_are_land s first =
    let tables : s.tables ++ mandate ∷ [] ≡ land_tables = ap (λ ts. ts ++ mandate ∷ []) first.tables in
    let indexes : list_all (adds_no_constraint v1_tables) s.indexes ≡ true = subst (λ (ts : List Table). list_all (adds_no_constraint ts) s.indexes ≡ true) first.tables first.indexes in
    record {
      tables = tables;
      indexes = subst (λ (ts : List Table). list_all (adds_no_constraint ts) (s.indexes ++ mandate_keys ∷ []) ≡ true) (sym tables) (list_all_push (adds_no_constraint land_tables) s.indexes mandate_keys (all_still s.indexes indexes) refl);
      views = first.views;
    }

-- ---- the effect of the CREATE

-- the result of a CREATE if this is the next tree
abbrev made_in : Schema → ℕ → Table → Schema
made_in s n t = record s { tables = s.tables ++ (record t { tree = n }) ∷ []; indexes = s.indexes ++ automatics (record t { tree = n }) 0 (n + 1) t.uniques }

pub created_is : (s : Schema) (t : Table) → next_tree s ≡ 20 → t ≡ record mandate { tree = 0 } → created s t ≡ with_mandates s
unfolding everything
created_is s t next is = ap₂ (made_in s) next is
