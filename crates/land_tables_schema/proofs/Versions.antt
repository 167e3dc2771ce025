-- The effect of the statements that insert and close a version.
use Rattle.std.proofs.Common.{◌≡◌, ◌&&◌, ℕ, zero, suc, ◌+◌, ℤ, List, [], ◌∷◌, ◌++◌, Bool, Ok, subst}
use Rattle.std.specs.Ordering.{int_eq}
use Rattle.land_tables_schema.proofs.KnownSchemas.{but_for_indexes}
use Rattle.land_tables_schema.proofs.Inserts.{adds}
use Rattle.land_tables_schema.proofs.Statements.{IsEdited, IsInsertion, IsUpdate, bare, inserts, updates}
use Rattle.land_tables_schema.proofs.Updates.{IsTurning, plainly, turns}
use Rattle.land_tables_schema.specs.Schemas.{IsSchemaV2, schema_v2_with}
use Rattle.land_tables_schema.specs.Rows.Forms.{InsertsVersion, UpdatesRows}
use Rattle.land_tables_schema.specs.Rows.ReadQueries.{columns_from}
use Rattle.land_tables_schema.specs.Rows.Versions.{Version, opened_version, closed_version, never, versions_in}
use Rattle.sqlite.specs.Cast.{cast_row}
use Rattle.sqlite.specs.Edit.{edit_of}
use Rattle.sqlite.specs.Rowids.TheVariants.{Chosen}
use Rattle.sqlite.specs.State.{State, Executes}
use Rattle.sqlite.specs.Term.{Term, lit, col, eval_all}
use Rattle.sqlite.specs.declared.types.Value.TheVariants.{Null, Int}
use Rattle.sqlite_schema.specs.declared.schema.Index.{Index}
use Rattle.sqlite_schema.specs.declared.schema.Table.{Table}
use Rattle.sqlite_value.specs.Order.{Row}

-- columns of a slot, starting at one
abbrev pub columns_of : (slot from count : ℕ) → List Term
columns_of slot from zero = []
columns_of slot from (suc count) = col slot from ∷ columns_of slot (suc from) count

-- the row that an inserting statement adds: no rowid, the cells and the start, which are its parameters, and
-- the open end
abbrev pub begin_terms : ℕ → List Term
begin_terms count = lit Null ∷ (columns_of 0 0 (suc count) ++ lit (Int never) ∷ [])

-- a statement inserts a version of values with this number of cells
pub record IsBeginning {C : Type 0} (table : Table) (cells : C → Row) (text : List ℕ) (place count : ℕ) : Type 0 where
  pub insertion : (indexes : List Index) → IsInsertion (schema_v2_with indexes) text place table (begin_terms count) (count + 3)
  pub fills : (id : ℤ) (v : Version C) → columns_from 1 (suc (suc count)) (Int id ∷ (cells v.what ++ Int v.since ∷ Int v.until ∷ [])) ≡ cells v.what ++ Int v.since ∷ Int v.until ∷ []
  pub shows : (c : C) (since : ℤ) → eval_all (begin_terms count) ((cells c ++ Int since ∷ []) ∷ []) ≡ Null ∷ (cells c ++ Int since ∷ Int never ∷ [])
  pub exact : (c : C) (since : ℤ) → cast_row (bare table) (Null ∷ (cells c ++ Int since ∷ Int never ∷ [])) ≡ Null ∷ (cells c ++ Int since ∷ Int never ∷ [])

module _ {C : Type 0} (table : Table) (cells : C → Row) (text : List ℕ) (place count : ℕ) (is : IsBeginning table cells text place count) (old new : State) (c : C) (since : ℤ) (done : ℕ) where
  pub begins : IsSchemaV2 old.now.schema → Executes text (cells c ++ Int since ∷ []) old new (Ok done) → InsertsVersion (versions_in table count cells) (opened_version c since) old.now new.now
  begins has_tables h =
      let indexes = old.now.schema.indexes in
      let has = but_for_indexes old.now.schema has_tables in
      let did = inserts (schema_v2_with indexes) text place table (begin_terms count) (count + 3) (is.insertion indexes) old new (cells c ++ Int since ∷ []) done has h in
      adds (versions_in table count cells) (opened_version c since) is.fills indexes old.now new.now (subst (λ row. IsEdited (schema_v2_with indexes) (edit_of old.now.trees (bare table) [] Chosen 0 (row ∷ [])) old.now new.now) (is.shows c since) did) has (is.exact c since)

-- the row that a closing statement writes: the rowid, then the row unchanged except for its end, which is a
-- parameter
abbrev pub close_terms : (count key : ℕ) → List Term
close_terms count key = col 1 0 ∷ (columns_of 1 0 (count + 2) ++ col 0 key ∷ [])

-- a statement closes the versions of the values with these cells
pub record IsClosing {C : Type 0} (table : Table) (count : ℕ) (cells : C → Row) (text : List ℕ) (place : ℕ) (filter project : List Term) (key : Row) (meant : C → Bool) : Type 0 where
  pub update : (indexes : List Index) → IsUpdate (schema_v2_with indexes) text place table (plainly table.tree filter project)
  pub turning : (stamp : ℤ) → IsTurning (versions_in table count cells) filter project (key ++ Int stamp ∷ []) (λ v. meant v.what && int_eq v.until never) (λ v. record v { until = stamp })

module _ {C : Type 0} (table : Table) (count : ℕ) (cells : C → Row) (text : List ℕ) (place : ℕ) (filter project : List Term) (key : Row) (meant : C → Bool) (is : IsClosing table count cells text place filter project key meant)
    (old new : State) (stamp : ℤ) (done : ℕ) where
  pub closes : IsSchemaV2 old.now.schema → Executes text (key ++ Int stamp ∷ []) old new (Ok done) → UpdatesRows (versions_in table count cells) (closed_version meant stamp) old.now new.now
  closes has_tables h =
      let indexes = old.now.schema.indexes in
      let has = but_for_indexes old.now.schema has_tables in
      turns (versions_in table count cells) filter project (key ++ Int stamp ∷ []) (λ v. meant v.what && int_eq v.until never) (λ v. record v { until = stamp }) (is.turning stamp) indexes old.now new.now
      (updates (schema_v2_with indexes) text place table (plainly table.tree filter project) (is.update indexes) old new (key ++ Int stamp ∷ []) done has h) has
