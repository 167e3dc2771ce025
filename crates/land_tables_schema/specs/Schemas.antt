-- The schemas of a register, in both schema versions, and the schema of a new register.
use Rattle.std.specs.Cmp.Lexicographic.{pointwise}
use Rattle.std.specs.List.{list_all, list_any}
use Rattle.std.specs.Prelude.{◌≡◌, ◌+◌, ◌⊎◌, ◌&&◌, ◌||◌, if◌then◌else◌, filter, not, nat_eq, nat_lt, ℕ, List}
use Rattle.std.specs.Prelude.{[], ◌∷◌, ◌++◌, Bool, false, true, codes}
use Rattle.land_tables_schema.specs.Tables.{v1_tables, land_tables, mandate}
use Rattle.sqlite_schema.specs.Names.{same_name}
use Rattle.sqlite_schema.specs.declared.schema.Index.{Index}
use Rattle.sqlite_schema.specs.declared.schema.Schema.{Schema}
use Rattle.sqlite_schema.specs.declared.schema.Table.{Table}

-- the index has the columns of the table's primary key
abbrev pub is_key_of : Index → Table → Bool
is_key_of index table = nat_eq index.table table.tree && pointwise nat_eq index.columns table.primary

-- the index rejects no row that the primary keys of these tables allow: it is not unique, or it covers one of
-- these keys
abbrev pub adds_no_constraint : List Table → Index → Bool
adds_no_constraint tables index = not index.is_unique || list_any (is_key_of index) tables

-- Schema version 2: exactly the register's tables, no views, and no index that rejects more rows than the
-- primary keys do.
pub record IsSchemaV2 (s : Schema) : Type 0 where
  pub tables : s.tables ≡ land_tables
  pub indexes : list_all (adds_no_constraint s.tables) s.indexes ≡ true
  pub views : s.views ≡ []

-- Schema version 1, which has no table `mandate`: exactly its tables, no views, and no index that rejects
-- more rows than the primary keys do.
pub record IsSchemaV1 (s : Schema) : Type 0 where
  pub tables : s.tables ≡ v1_tables
  pub indexes : list_all (adds_no_constraint s.tables) s.indexes ≡ true
  pub views : s.views ≡ []

-- the first tables are those of schema version 1, any tables may follow, and it has no views
pub record ContainsSchemaV1 (s : Schema) : Type 0 where
  pub tables : (more : List Table) × (s.tables ≡ v1_tables ++ more)
  pub views : s.views ≡ []

-- the index is on one of these tables
abbrev pub is_on : List Table → Index → Bool
is_on tables index = list_any (λ t. nat_eq index.table t.tree) tables

-- the index is on another table, or rejects no row that the primary keys allow
abbrev pub constrains_no_row_of : List Table → Index → Bool
constrains_no_row_of tables index = not (is_on tables index) || adds_no_constraint tables index

-- A schema that may be a register's, in version 1 or 2: the tables of version 1, then at most one table more,
-- no views, and no index that rejects more rows of the first tables than their primary keys do. Nothing is
-- said of the additional table and of its indexes.
pub record MayBeRegisterSchema (s : Schema) : Type 0 where
  pub tables : (s.tables ≡ v1_tables) ⊎ ((t : Table) × (s.tables ≡ v1_tables ++ t ∷ []))
  pub indexes : list_all (constrains_no_row_of v1_tables) s.indexes ≡ true
  pub views : s.views ≡ []

-- the names of the plain indexes of schema version 1, which serve joins and lookups
abbrev pub lookup_index_names : List (List ℕ)
lookup_index_names =
    codes "rrr_party" ∷ codes "rrr_unit" ∷ codes "parcel_unit" ∷ codes "member_party" ∷ codes "names_unit"
    ∷ codes "mutation_lodger"
    ∷ codes "role_role" ∷ []

-- the index has one of these names; SQLite compares names case-insensitively
abbrev pub is_named : List (List ℕ) → Index → Bool
is_named names index = list_any (same_name index.name) names

-- the schema without the indexes of these names
abbrev pub without_named : List (List ℕ) → Schema → Schema
without_named names s = record s { indexes = filter (λ i. not (is_named names i)) s.indexes }

-- the index has the name of a plain index of schema version 1
abbrev pub is_lookup_index : Index → Bool
is_lookup_index = is_named lookup_index_names

-- the schema without the plain indexes of version 1
abbrev pub without_lookup_indexes : Schema → Schema
without_lookup_indexes = without_named lookup_index_names

-- two indexes have the same tree if and only if they have the same name
abbrev pub is_apart : Index → Index → Bool
is_apart i j = if same_name j.name i.name then nat_eq j.tree i.tree else not (nat_eq j.tree i.tree)

-- all indexes differ by tree if and only if they differ by name
abbrev pub are_indexes_apart : List Index → Bool
are_indexes_apart indexes = list_all (λ i. list_all (is_apart i) indexes) indexes

-- the index is a plain index of version 1, or its tree comes before that of `mandate`
abbrev pub precedes_mandates : Index → Bool
precedes_mandates index = is_lookup_index index || nat_lt index.tree 20

-- the index is not a plain index of version 1, and its tree comes directly before that of `mandate`
abbrev pub is_last_key_index : Index → Bool
is_last_key_index index = not (is_lookup_index index) && nat_eq index.tree 19

-- a schema of version 1 that can be migrated: once its plain indexes are dropped, the next table gets the
-- tree of `mandate`
pub record IsMigratable (s : Schema) : Type 0 where
  pub first : IsSchemaV1 s
  pub apart : are_indexes_apart s.indexes ≡ true
  pub before : list_all precedes_mandates s.indexes ≡ true
  pub last : list_any is_last_key_index s.indexes ≡ true

-- the empty schema: no table, no index and no view
abbrev pub no_schema : Schema
no_schema = record { tables = []; indexes = []; views = [] }

-- the tables of version 2, with these indexes
abbrev pub schema_v2_with : List Index → Schema
schema_v2_with indexes = record { tables = land_tables; indexes = indexes; views = [] }

-- the tables of version 1, then other tables, with these indexes
abbrev pub schema_v1_with : List Table → List Index → Schema
schema_v1_with more indexes = record { tables = v1_tables ++ more; indexes = indexes; views = [] }

-- an index on columns of a table, all ascending: its name, its tree, the tree of its table, the positions of
-- the columns, and whether it is unique
abbrev pub an_index : List ℕ → ℕ → ℕ → List ℕ → Bool → Index
an_index name tree table columns is_unique = record {
  name = name;
  tree = tree;
  table = table;
  columns = columns;
  order = record { digits = 0 };
  is_unique = is_unique;
}

-- the indexes that SQLite creates itself, one for each primary key of a versioned table of version 1, in the
-- tree after the table's
abbrev pub key_indexes : List Index
key_indexes =
    an_index (codes "sqlite_autoindex_party_1") 3 2 (1 ∷ 4 ∷ []) true
    ∷ an_index (codes "sqlite_autoindex_role_1") 5 4 (1 ∷ 2 ∷ 3 ∷ []) true
    ∷ an_index (codes "sqlite_autoindex_member_1") 7 6 (1 ∷ 2 ∷ 5 ∷ []) true
    ∷ an_index (codes "sqlite_autoindex_unit_1") 9 8 (1 ∷ 4 ∷ []) true
    ∷ an_index (codes "sqlite_autoindex_parcel_1") 11 10 (1 ∷ 6 ∷ []) true
    ∷ an_index (codes "sqlite_autoindex_rrr_1") 13 12 (1 ∷ 12 ∷ []) true
    ∷ an_index (codes "sqlite_autoindex_source_1") 15 14 (1 ∷ 4 ∷ []) true
    ∷ an_index (codes "sqlite_autoindex_mutation_1") 17 16 (1 ∷ 9 ∷ []) true
    ∷ an_index (codes "sqlite_autoindex_names_1") 19 18 (1 ∷ 2 ∷ 3 ∷ []) true
    ∷ []

-- The plain indexes for joins and lookups, in consecutive trees: party and unit of an entry, unit of a
-- parcel, party of a member, unit of a row of `names`, lodger of a mutation, role.
abbrev pub lookup_indexes : ℕ → List Index
lookup_indexes tree =
    an_index (codes "rrr_party") tree 12 (3 ∷ []) false
    ∷ an_index (codes "rrr_unit") (tree + 1) 12 (2 ∷ []) false
    ∷ an_index (codes "parcel_unit") (tree + 2) 10 (2 ∷ []) false
    ∷ an_index (codes "member_party") (tree + 3) 6 (2 ∷ []) false
    ∷ an_index (codes "names_unit") (tree + 4) 18 (2 ∷ []) false
    ∷ an_index (codes "mutation_lodger") (tree + 5) 16 (2 ∷ 3 ∷ []) false
    ∷ an_index (codes "role_role") (tree + 6) 4 (2 ∷ []) false
    ∷ []

-- the indexes of a new register of schema version 1
abbrev pub v1_indexes : List Index
v1_indexes = key_indexes ++ lookup_indexes 20

-- the index of the primary key of `mandate`, which SQLite creates itself
abbrev pub mandate_keys : Index
mandate_keys = an_index (codes "sqlite_autoindex_mandate_1") 21 20 (1 ∷ 2 ∷ 3 ∷ []) true

-- the index on the agent of a mandate
abbrev pub mandate_agents : Index
mandate_agents = an_index (codes "mandate_agent") 29 20 (2 ∷ []) false

-- the indexes of a new register
abbrev pub v2_indexes : List Index
v2_indexes = key_indexes ++ mandate_keys ∷ (lookup_indexes 22 ++ mandate_agents ∷ [])

-- the schema of a new register of schema version 1
abbrev pub v1_schema : Schema
v1_schema = schema_v1_with [] v1_indexes

-- the schema with the table `mandate` added
abbrev pub with_mandates : Schema → Schema
with_mandates s = record s { tables = s.tables ++ mandate ∷ []; indexes = s.indexes ++ mandate_keys ∷ [] }

-- the schema of a new register
abbrev pub v2_schema : Schema
v2_schema = schema_v2_with v2_indexes
