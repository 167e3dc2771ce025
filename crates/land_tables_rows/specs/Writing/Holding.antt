-- The content of a table of versions, by its decoded rows, and the effect of a statement on it.
use Rattle.std.specs.Prelude.{◌≡◌, ℕ, ℤ, Bool, List, ◌∷◌, map, Result, Ok, IsPermutation}
use Rattle.land_tables_history.specs.Changed.{opened_version, closed_version}
use Rattle.land_tables_history.specs.declared.version.Version.{Version}
use Rattle.land_tables_schema.specs.Rows.Forms.{AreNumbered, KeepsOthers}
use Rattle.land_tables_schema.specs.Rows.ReadQueries.{columns_from, numbered_cells}
use Rattle.land_wire_json.specs.declared.bodies.wire_fault.WireFault.{WireFault}
use Rattle.sqlite.specs.Effect.{Database}
use Rattle.sqlite_schema.specs.declared.schema.Table.{Table}
use Rattle.sqlite_trees.specs.Tree.{Trees}
use Rattle.sqlite_value.specs.Order.{Row}

-- how versions are decoded from the rows of a table: the table, the number of columns after the rowid, and
-- the decoder
pub record Reading (X : Type 0) : Type 0 where
  pub table : Table
  pub width : ℕ
  pub said : Row → Result (Version X) WireFault

-- a table holds these versions: its rows decode to them, one each, in any order
pub record Keeps {X : Type 0} (reading : Reading X) (db : Trees) (versions : List (Version X)) : Type 0 where
  pub said : IsPermutation (map (λ r. reading.said (columns_from 1 reading.width r)) (db reading.table.tree))
      (map (λ v. Ok v) versions)
  pub numbered : AreNumbered (db reading.table.tree)

-- one version more is held, which begins at a moment and is current
pub record Begins {X : Type 0} (reading : Reading X) (x : X) (since : ℤ) (old new : Database) : Type 0 where
  pub schema : new.schema ≡ old.schema
  pub held : (versions : List (Version X)) → Keeps reading old.trees versions
      → Keeps reading new.trees (opened_version x since ∷ versions)
  pub kept : KeepsOthers reading.table old.trees new.trees

-- the matching current versions end at a moment
pub record ClosesVersions {X : Type 0} (reading : Reading X) (meant : X → Bool) (stamp : ℤ)
    (old new : Database) : Type 0 where
  pub schema : new.schema ≡ old.schema
  pub held : (versions : List (Version X)) → Keeps reading old.trees versions
      → Keeps reading new.trees (map (closed_version meant stamp) versions)
  pub kept : KeepsOthers reading.table old.trees new.trees

-- a table that is keyed by a number decodes to these values, one a row, in any order
abbrev pub HoldsNumbered : {X : Type 0} → Table → (Row → Result X WireFault) → Trees → List X → Type 0
HoldsNumbered table said db xs =
    IsPermutation (map (λ r. said (numbered_cells r)) (db table.tree)) (map (λ x. Ok x) xs)

-- one value more is held
pub record HoldsOneMore {X : Type 0} (table : Table) (said : Row → Result X WireFault) (x : X)
    (old new : Database) : Type 0 where
  pub schema : new.schema ≡ old.schema
  pub told : (xs : List X) → HoldsNumbered table said old.trees xs
      → HoldsNumbered table said new.trees (x ∷ xs)
  pub kept : KeepsOthers table old.trees new.trees
